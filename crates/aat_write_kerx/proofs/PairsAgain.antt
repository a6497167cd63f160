-- Listed pairs that are written are read again.
use Rattle.std.proofs.Common.{◌≡◌, ℕ, ℤ, zero, suc, ◌+◌, ◌*◌, ◌<◌, ◌≤◌, List, [], ◌∷◌, ◌++◌, length, get_or, map, Bool, Option, None, Result, Ok, Err, All, refl, sym, ap, ◌∙◌, subst, append_assoc, arith}
use Rattle.std.specs.Prelude.{nat_lt, pos}
use Rattle.std.specs.List.{flat_map, range_with_len}
use Rattle.std.proofs.lemmas.Bool.{le-ltb, ltb-false}
use Rattle.std.proofs.lemmas.List.{append-nil, length-append}
use Rattle.aat_bytes.specs.Numbers.{be16, be32, signed16}
use Rattle.aat_lookup.specs.Keys.{first_fall}
use Rattle.aat_kerning_tables.specs.Pairs.{key_of_pair}
use Rattle.aat_read_pairs.specs.ListedPairs.{kerx_pairs_at, listed_pairs, pairs_at}
use Rattle.aat_read_pairs.proofs.RisingPairs.{rising_pairs_are_all}
use Rattle.aat_write_machine.specs.Words.{long_bytes, word_bytes}
use Rattle.aat_write_machine.specs.WriteErrors.{unless_refused}
use Rattle.aat_write_machine.specs.declared.write_error.WriteError.{WriteError}
use Rattle.aat_write_machine.specs.facts.LongPlaces.{length_longs, long_at}
use Rattle.aat_write_machine.specs.facts.WordPlaces.{AreWords}
use Rattle.aat_write_machine.specs.facts.Written.{written_is}
use Rattle.aat_write_kerx.specs.KerxLaws.{IsKerning}
use Rattle.aat_write_kerx.specs.KerxWriteErrors.{of_pairs}
use Rattle.aat_write_kerx.specs.PairBytes.{kerning_words, pairs_bytes, pairs_written}
use Rattle.aat_write_kerx.proofs.ListAgain.{length_bytes, list_again}
use Rattle.aat_write_kerx.proofs.Signed.{signed_again, signed_is_word}

-- a pair without tuples
abbrev kerning_at : List ℕ → ℕ → ℕ × ℕ × ℤ
kerning_at bytes place = (be16 bytes place, be16 bytes (place + 2), signed16 (be16 bytes (place + 4)))

kerning_is_words : (p : ℕ × ℕ × ℤ) → IsKerning p → AreWords (kerning_words p)
kerning_is_words p small = (omega (arith, small.0), (omega (arith, small.1), (signed_is_word p.2 small.2, tt)))

kerning_reads :
    (p : ℕ × ℕ × ℤ) (bytes : List ℕ) (place : ℕ) → IsKerning p
    → ((k : ℕ) → k < length (kerning_words p) → be16 bytes (place + 2 * k) ≡ get_or (kerning_words p) k 0) → kerning_at bytes place ≡ p
kerning_reads p bytes place small each =
    let first : place ≡ place + 2 * 0 = omega arith in
    let left : be16 bytes place ≡ p.0 = ap (be16 bytes) first ∙ each 0 (omega arith) in
    let right : be16 bytes (place + 2) ≡ p.1 = each 1 (omega arith) in
    let value : signed16 (be16 bytes (place + 4)) ≡ p.2 = ap signed16 (each 2 (omega arith)) ∙ signed_again p.2 small.2 in
    let of_left : ℕ → ℕ × ℕ × ℤ = λ n. (n, be16 bytes (place + 2), signed16 (be16 bytes (place + 4))) in
    let of_right : ℕ → ℕ × ℕ × ℤ = λ n. (p.0, n, signed16 (be16 bytes (place + 4))) in
    let of_value : ℤ → ℕ × ℕ × ℤ = λ n. (p.0, p.1, n) in
    ap of_left left ∙ ap of_right right ∙ ap of_value value

abbrev no_pair : ℕ × ℕ × ℤ
no_pair = (0, 0, pos 0)

length_kernings : (pairs : List (ℕ × ℕ × ℤ)) → length (word_bytes (flat_map kerning_words pairs)) ≡ 6 * length pairs
length_kernings pairs = length_bytes kerning_words 6 kerning_at IsKerning no_pair (λ p. refl) kerning_is_words kerning_reads pairs

kernings_again :
    (pairs : List (ℕ × ℕ × ℤ)) (front rest : List ℕ) (place : ℕ) → All IsKerning pairs → length front ≡ place
    → map (λ i. kerning_at (front ++ (word_bytes (flat_map kerning_words pairs) ++ rest)) (place + 6 * i)) (range_with_len 0 (length pairs)) ≡ pairs
kernings_again pairs front rest place small at =
    list_again kerning_words 6 kerning_at IsKerning no_pair (λ p. refl) kerning_is_words kerning_reads pairs front rest place (length pairs) small at refl

-- pairs that rise and stand inside are read
pairs_by :
    (bytes : List ℕ) (start : ℕ) (pairs : List (ℕ × ℕ × ℤ))
    → start + 28 + 6 * length pairs ≤ length bytes → be32 bytes (start + 12) ≡ length pairs
    → pairs_at bytes (record { place = start; count = 0 }) (start + 28) (length pairs) ≡ pairs → first_fall key_of_pair pairs ≡ None
    → kerx_pairs_at bytes start 0 ≡ Ok pairs
unfolding kerx_pairs_at listed_pairs
pairs_by bytes start pairs inside counted is rising =
    let falls : first_fall key_of_pair (pairs_at bytes (record { place = start; count = 0 }) (start + 28) (length pairs)) ≡ None =
    ap (first_fall key_of_pair) is ∙ rising in
    rw (le-ltb (length bytes) (start + 28) (omega (arith, inside)))
    (rw counted
    (rw (le-ltb (length bytes) (start + 28 + 6 * length pairs) inside)
    (ap Ok (rising_pairs_are_all bytes (record { place = start; count = 0 }) (start + 28) (length pairs) falls ∙ is))))

pairs_are_read :
    (pairs : List (ℕ × ℕ × ℤ)) (front : List ℕ) (start : ℕ)
    → All IsKerning pairs → first_fall key_of_pair pairs ≡ None → length pairs ≤ 268435455 → length front ≡ start + 12
    → kerx_pairs_at (front ++ pairs_bytes pairs) start 0 ≡ Ok pairs
pairs_are_read pairs front start small rising few at =
    let longs : List ℕ = length pairs ∷ 0 ∷ 0 ∷ 0 ∷ [] in
    let header : List ℕ = long_bytes longs in
    let words : List ℕ = word_bytes (flat_map kerning_words pairs) in
    let bytes : List ℕ = front ++ (header ++ words) in
    let counted : be32 bytes (start + 12) ≡ length pairs =
    long_at longs front words (start + 12) 0 (omega arith) (four_longs (length pairs) (omega (arith, few))) (omega (arith, at)) in
    let at_words : bytes ≡ (front ++ header) ++ (words ++ []) =
    sym (append_assoc front header words) ∙ ap (λ (ys : List ℕ). (front ++ header) ++ ys) (sym (append-nil words)) in
    let front_long : length (front ++ header) ≡ start + 28 =
    length-append front header ∙ omega (arith, length_longs longs, at) in
    let long : length bytes ≡ start + 28 + 6 * length pairs =
    length-append front (header ++ words) ∙ omega (arith, length-append header words, length_longs longs, length_kernings pairs, at) in
    let again : pairs_at bytes (record { place = start; count = 0 }) (start + 28) (length pairs) ≡ pairs =
    ap (λ (xs : List ℕ). map (λ i. kerning_at xs (start + 28 + 6 * i)) (range_with_len 0 (length pairs))) at_words
    ∙ kernings_again pairs (front ++ header) [] (start + 28) small front_long in
    pairs_by bytes start pairs (omega (arith, long)) counted again rising
  where
    four_longs : (n : ℕ) → n < 4294967296 → All (λ m. m < 4294967296) (n ∷ 0 ∷ 0 ∷ 0 ∷ [])
    four_longs n low zero d below = low
    four_longs n low (suc zero) d below = omega arith
    four_longs n low (suc (suc zero)) d below = omega arith
    four_longs n low (suc (suc (suc zero))) d below = omega arith
    four_longs n low (suc (suc (suc (suc k)))) d below = absurd (omega arith)

pub of_pairs_is : {X : Type 0} (r : Result X WriteError) (x : X) → of_pairs r ≡ Ok x → r ≡ Ok x
of_pairs_is (Ok y) x is = cc
of_pairs_is (Err e) x is = absurd (let wrong : ⊥ = cc in wrong)

-- format 0
pub written_pairs_are_read :
    (pairs : List (ℕ × ℕ × ℤ)) (body front : List ℕ) (start : ℕ)
    → All IsKerning pairs → pairs_written pairs ≡ Ok body → length front ≡ start + 12
    → kerx_pairs_at (front ++ body) start 0 ≡ Ok pairs
written_pairs_are_read pairs body front start small is at =
    let many : Bool = nat_lt 268435455 (length pairs) in
    let fall : Option ℕ = first_fall key_of_pair pairs in
    let made = written_is fall many (pairs_bytes pairs) body (of_pairs_is (unless_refused fall many (pairs_bytes pairs)) body is) in
    subst (λ (b : List ℕ). kerx_pairs_at (front ++ b) start 0 ≡ Ok pairs) made.2
    (pairs_are_read pairs front start small made.0 (ltb-false 268435455 (length pairs) made.1) at)
