-- A table of chains that is written is read again, where the bodies of its subtables are.
use Rattle.std.proofs.Common.{◌≡◌, ℕ, zero, suc, ◌*◌, ◌<◌, ◌≤◌, ◌^◌, List, [], ◌∷◌, ◌++◌, length, Bool, true, false, cond, All, Ok, Err, refl, sym, ap, ◌∙◌, append_assoc, arith}
use Rattle.std.specs.Prelude.{nat_le, nat_lt, sum_by}
use Rattle.std.specs.List.{AllZip, flat_map}
use Rattle.std.proofs.lemmas.Bool.{le-ltb, leb-false, ltb-false}
use Rattle.std.proofs.lemmas.List.{append-nil, length-append}
use Rattle.aat_bytes.specs.Numbers.{be16, be32}
use Rattle.aat_read_extended.specs.morx.Chains.{ChainValue, chain_at, first_chain, morx_of}
use Rattle.aat_read_machine.specs.InTurn.{in_turn}
use Rattle.aat_write_machine.specs.Words.{long_bytes, word_bytes}
use Rattle.aat_write_machine.specs.facts.WordPlaces.{AreWords, length_words, word_at}
use Rattle.aat_write_machine.specs.ChainBytes.{ChainContent, chain_bytes, chain_size, count_subtables, table_bytes, table_size}
use Rattle.aat_write_machine.specs.MachineLaws.{IsLong}
use Rattle.aat_write_machine.specs.ChainLaws.{DoesAsRead, IsChain, IsReadable, IsSameChain, WrittenChainsAreRead}
use Rattle.aat_write_machine.specs.declared.chain_error.ChainWriteError.TheVariants.{TooLong, TooManySubtables}
use Rattle.aat_write_machine.proofs.Appended.{each_takes}
use Rattle.aat_write_machine.proofs.ChainsAgain.{chains_are_read}
use Rattle.aat_write_machine.specs.facts.LongPlaces.{length_longs, long_at}

-- what is known where chains are written
made_of :
    (long many : Bool) (made bytes : List ℕ)
    → cond long (Err TooLong) (cond many (Err TooManySubtables) (Ok made)) ≡ Ok bytes
    → (long ≡ false) × (many ≡ false) × (made ≡ bytes)
made_of true many made bytes is = absurd (let wrong : ⊥ = cc in wrong)
made_of false true made bytes is = absurd (let wrong : ⊥ = cc in wrong)
made_of false false made bytes is = (refl, refl, cc)

one_long : (a : ℕ) → IsLong a → All IsLong (a ∷ [])
one_long a small zero d below = small
one_long a small (suc k) d below = absurd (omega arith)

-- a table whose header and chains are read
table_by :
    (bytes : List ℕ) (glyph_count count : ℕ) (chains : List ChainValue)
    → 8 ≤ length bytes → be16 bytes 0 ≡ 2 → be32 bytes 4 ≡ count
    → in_turn (chain_at bytes glyph_count) count first_chain ≡ Ok chains
    → morx_of bytes glyph_count ≡ Ok chains
unfolding morx_of
table_by bytes glyph_count count chains header version counted read =
    rw (le-ltb (length bytes) 8 header) (rw version (rw counted read))

table_read :
    (chains : List ChainContent) (glyph_count : ℕ)
    → table_size chains < 2 ^ 32 → count_subtables chains ≤ 65535
    → All IsChain chains → All (λ (c : ChainContent). All (IsReadable glyph_count) c.subtables) chains
    → (read : List ChainValue)
    × (morx_of (table_bytes chains) glyph_count ≡ Ok read)
    × AllZip (IsSameChain (DoesAsRead glyph_count)) chains read
table_read chains glyph_count short few small readable =
    let version : List ℕ = word_bytes (2 ∷ 0 ∷ []) in
    let count : List ℕ = long_bytes (length chains ∷ []) in
    let body : List ℕ = flat_map chain_bytes chains in
    let bytes : List ℕ = table_bytes chains in
    let counted : 16 * length chains ≤ sum_by chain_size chains = each_takes chain_size 16 (λ c. omega arith) chains in
    let are_words : AreWords (2 ∷ 0 ∷ []) = (omega arith, (omega arith, tt)) in
    let are_longs : All IsLong (length chains ∷ []) = one_long (length chains) (omega (arith, short, counted)) in
    let long_version : length version ≡ 4 = length_words (2 ∷ 0 ∷ []) in
    let long_header : length (version ++ count) ≡ 8 =
    omega (arith, length-append version count, long_version, length_longs (length chains ∷ [])) in
    let split : bytes ≡ (version ++ count) ++ (body ++ []) =
    sym (append_assoc version count body) ∙ ap (λ (xs : List ℕ). (version ++ count) ++ xs) (sym (append-nil body)) in
    let is_version : be16 bytes 0 ≡ 2 = word_at (2 ∷ 0 ∷ []) [] (count ++ body) 0 0 (omega arith) are_words (omega arith) in
    let is_count : be32 bytes 4 ≡ length chains =
    long_at (length chains ∷ []) version body 4 0 (omega arith) are_longs (omega (arith, long_version)) in
    let header : 8 ≤ length bytes = omega (arith, ap length split, length-append (version ++ count) (body ++ []), long_header) in
    let read = chains_are_read chains bytes (version ++ count) [] first_chain glyph_count split long_header (omega (arith, short)) few small readable in
    (read.0, table_by bytes glyph_count (length chains) read.0 header is_version is_count read.1, read.2)

-- the law
pub written_chains_are_read : WrittenChainsAreRead
written_chains_are_read chains bytes glyph_count small readable is =
    let made = made_of (nat_le (2 ^ 32) (table_size chains)) (nat_lt 65535 (count_subtables chains)) (table_bytes chains) bytes is in
    let short : table_size chains < 2 ^ 32 = leb-false (2 ^ 32) (table_size chains) made.0 in
    let few : count_subtables chains ≤ 65535 = ltb-false 65535 (count_subtables chains) made.1 in
    let read = table_read chains glyph_count short few small readable in
    (read.0, ap (λ (b : List ℕ). morx_of b glyph_count) (sym made.2) ∙ read.1, read.2)
