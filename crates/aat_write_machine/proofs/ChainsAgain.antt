-- Chains that are written are read again, where the bodies of their subtables are.
use Rattle.std.proofs.Common.{◌≡◌, ℕ, zero, suc, ◌+◌, ◌-◌, ◌*◌, ◌<◌, ◌≤◌, ◌^◌, List, [], ◌∷◌, ◌++◌, length, get_or, take, All, Ok, refl, sym, ap, ◌∙◌, append_assoc, arith}
use Rattle.std.specs.Prelude.{sum_by}
use Rattle.std.specs.List.{AllZip, flat_map}
use Rattle.std.proofs.lemmas.Bool.{le-ltb}
use Rattle.std.proofs.lemmas.List.{length-append}
use Rattle.std.proofs.lemmas.List.Sums.{sum_by-cons}
use Rattle.std.proofs.lemmas.Slice.Zip.{AllZip-long}
use Rattle.aat_bytes.specs.Numbers.{be32}
use Rattle.aat_machine_tables.specs.declared.morx.ChainFeature.{ChainFeature}
use Rattle.aat_machine_tables.specs.declared.morx.Subtable.{Subtable}
use Rattle.aat_read_extended.specs.morx.ChainFeatures.{whole_features}
use Rattle.aat_read_extended.specs.morx.ChainSubtables.{subtable_at}
use Rattle.aat_read_extended.specs.morx.Chains.{ChainStart, ChainValue, chain_at, chain_value_at, start_behind}
use Rattle.aat_read_machine.specs.InTurn.{in_turn}
use Rattle.aat_read_extended.specs.morx.InTurn.{end_at}
use Rattle.aat_read_extended.specs.morx.Reaches.{allowance}
use Rattle.aat_write_machine.specs.ChainBytes.{ChainContent, chain_bytes, chain_header, chain_size, count_subtables, feature_bytes, subtable_bytes, subtable_size}
use Rattle.aat_write_machine.specs.MachineLaws.{IsLong}
use Rattle.aat_write_machine.specs.ChainLaws.{DoesAsRead, IsChain, IsReadable, IsSameChain, IsSameSubtable}
use Rattle.aat_write_machine.specs.Words.{long_bytes}
use Rattle.aat_write_machine.proofs.Appended.{each_takes}
use Rattle.aat_write_machine.proofs.FeaturesAgain.{features_are_read, features_long}
use Rattle.aat_write_machine.specs.facts.LongPlaces.{length_longs, long_at}
use Rattle.aat_write_machine.proofs.SubtablesAgain.{cut, end_is, in_turn_more, subtables_are_read, subtables_long}

four_longs : (a b c e : ℕ) → IsLong a → IsLong b → IsLong c → IsLong e → All IsLong (a ∷ b ∷ c ∷ e ∷ [])
four_longs a b c e one two three four zero d below = one
four_longs a b c e one two three four (suc zero) d below = two
four_longs a b c e one two three four (suc (suc zero)) d below = three
four_longs a b c e one two three four (suc (suc (suc zero))) d below = four
four_longs a b c e one two three four (suc (suc (suc (suc k)))) d below = absurd (omega arith)

-- a chain of a size
pub chain_long : (c : ChainContent) → length (chain_bytes c) ≡ chain_size c
chain_long c =
    let header = long_bytes (chain_header c) in
    let features = flat_map feature_bytes c.features in
    let subtables = flat_map subtable_bytes c.subtables in
    omega (arith, length-append header (features ++ subtables), length-append features subtables, length_longs (chain_header c), features_long c.features, subtables_long c.subtables)

pub chains_long : (cs : List ChainContent) → length (flat_map chain_bytes cs) ≡ sum_by chain_size cs
chains_long [] = refl
chains_long (c ∷ cs) =
    length-append (chain_bytes c) (flat_map chain_bytes cs)
    ∙ omega (arith, chain_long c, chains_long cs, sum_by-cons chain_size c cs)

-- a chain whose parts are read
chain_value_by :
    (bytes : List ℕ) (glyph_count : ℕ) (start : ChainStart) (end feature_count subtable_count : ℕ)
    (features : List ChainFeature) (subtables : List Subtable)
    → be32 bytes (start.place + 8) ≡ feature_count
    → be32 bytes (start.place + 12) ≡ subtable_count
    → subtable_count ≤ start.most_subtables
    → whole_features (take end bytes) (start.place + 16) feature_count ≡ Ok features
    → in_turn (subtable_at bytes glyph_count (record { end = end; allowance = allowance (end - start.place) subtable_count })) subtable_count (start.place + 16 + 12 * feature_count) ≡ Ok subtables
    → chain_value_at bytes glyph_count start end
    ≡ Ok (record { default_flags = be32 bytes start.place; features = features; subtables = subtables })
unfolding chain_value_at
chain_value_by bytes glyph_count start end feature_count subtable_count features subtables is_features is_subtables few read_features read_subtables =
    rw is_features (rw is_subtables (rw (le-ltb start.most_subtables subtable_count few) (rw read_features (rw read_subtables refl))))

chain_by :
    (bytes : List ℕ) (glyph_count : ℕ) (start : ChainStart) (end : ℕ) (chain : ChainValue)
    → end_at bytes start.place 16 4 ≡ Ok end
    → chain_value_at bytes glyph_count start end ≡ Ok chain
    → chain_at bytes glyph_count start ≡ Ok (chain, start_behind start.most_subtables chain end)
unfolding chain_at
chain_by bytes glyph_count start end chain ended read = rw ended (rw read refl)

module _ (c : ChainContent) (front : List ℕ) where
  abbrev header : List ℕ
  header = long_bytes (chain_header c)

  abbrev features : List ℕ
  features = flat_map feature_bytes c.features

  abbrev subtables : List ℕ
  subtables = flat_map subtable_bytes c.subtables

  at_header : (bytes rest : List ℕ) → bytes ≡ front ++ (chain_bytes c ++ rest) → bytes ≡ front ++ (header ++ ((features ++ subtables) ++ rest))
  at_header bytes rest split = split ∙ ap (λ (xs : List ℕ). front ++ xs) (append_assoc header (features ++ subtables) rest)

  at_features : (bytes rest : List ℕ) → bytes ≡ front ++ (chain_bytes c ++ rest) → bytes ≡ (front ++ header) ++ (features ++ (subtables ++ rest))
  at_features bytes rest split =
      at_header bytes rest split
      ∙ sym (append_assoc front header ((features ++ subtables) ++ rest))
      ∙ ap (λ (xs : List ℕ). (front ++ header) ++ xs) (append_assoc features subtables rest)

  at_subtables : (bytes rest : List ℕ) → bytes ≡ front ++ (chain_bytes c ++ rest) → bytes ≡ ((front ++ header) ++ features) ++ (subtables ++ rest)
  at_subtables bytes rest split =
      at_features bytes rest split ∙ sym (append_assoc (front ++ header) features (subtables ++ rest))

-- what is read of a chain, and where the next one starts
pub chain_read :
    (c : ChainContent) (bytes front rest : List ℕ) (start : ChainStart) (glyph_count : ℕ)
    → bytes ≡ front ++ (chain_bytes c ++ rest) → length front ≡ start.place
    → chain_size c < 2 ^ 32 → length c.subtables ≤ start.most_subtables
    → IsChain c → All (IsReadable glyph_count) c.subtables
    → (read : ChainValue)
    × (chain_at bytes glyph_count start ≡ Ok (read, start_behind start.most_subtables read (start.place + chain_size c)))
    × IsSameChain (DoesAsRead glyph_count) c read
chain_read c bytes front rest start glyph_count split long short few small readable =
    let place : ℕ = start.place in
    let size : ℕ = chain_size c in
    let end : ℕ = place + size in
    let feature_count : ℕ = length c.features in
    let subtable_count : ℕ = length c.subtables in
    let total : ℕ = sum_by subtable_size c.subtables in
    let counted : 12 * subtable_count ≤ total = each_takes subtable_size 12 (λ s. omega arith) c.subtables in
    let longs : All IsLong (chain_header c) =
    four_longs c.default_flags size feature_count subtable_count small.0 short (omega (arith, short)) (omega (arith, short, counted)) in
    let parts : bytes ≡ front ++ (header c front ++ ((features c front ++ subtables c front) ++ rest)) = at_header c front bytes rest split in
    let number : (i p : ℕ) → i < 4 → place + 4 * i ≡ p → be32 bytes p ≡ get_or (chain_header c) i 0 =
    λ i p below at. ap (λ (b : List ℕ). be32 b p) parts
    ∙ long_at (chain_header c) front ((features c front ++ subtables c front) ++ rest) p i (omega arith) longs (omega (arith, long, at)) in
    let flags : be32 bytes place ≡ c.default_flags = number 0 place (omega arith) (omega arith) in
    let inside : end ≤ length bytes =
    omega (arith, ap length split, length-append front (chain_bytes c ++ rest), length-append (chain_bytes c) rest, chain_long c, long) in
    let ended : end_at bytes place 16 4 ≡ Ok end =
    end_is bytes place 16 4 size (number 1 (place + 4) (omega arith) (omega arith)) (omega arith) inside in
    let within : take end bytes ≡ front ++ (chain_bytes c ++ take 0 rest) =
    cut bytes front (chain_bytes c) rest end 0 split (omega (arith, chain_long c, long)) in
    let long_header : length (front ++ header c front) ≡ place + 16 =
    omega (arith, length-append front (header c front), length_longs (chain_header c), long) in
    let long_features : length ((front ++ header c front) ++ features c front) ≡ place + 16 + 12 * feature_count =
    omega (arith, length-append (front ++ header c front) (features c front), features_long c.features, long_header) in
    let read_features : whole_features (take end bytes) (place + 16) feature_count ≡ Ok c.features =
    features_are_read c.features (take end bytes) (front ++ header c front) (subtables c front ++ take 0 rest) (place + 16)
    (at_features c front (take end bytes) (take 0 rest) within) long_header small.1 in
    let others = subtables_are_read c.subtables bytes ((front ++ header c front) ++ features c front) rest (place + 16 + 12 * feature_count) glyph_count end (allowance (end - place) subtable_count)
    (at_subtables c front bytes rest split) long_features (omega arith) (omega (arith, short)) small.2 readable in
    let chain : ChainValue = record { default_flags = be32 bytes place; features = c.features; subtables = others.0 } in
    let value : chain_value_at bytes glyph_count start end ≡ Ok chain =
    chain_value_by bytes glyph_count start end feature_count subtable_count c.features others.0
    (number 2 (place + 8) (omega arith) (omega arith)) (number 3 (place + 12) (omega arith) (omega arith)) few read_features others.1 in
    (chain, chain_by bytes glyph_count start end chain ended value, (flags, refl, others.2))

-- all chains from one on
pub chains_are_read :
    (cs : List ChainContent) (bytes front rest : List ℕ) (start : ChainStart) (glyph_count : ℕ)
    → bytes ≡ front ++ (flat_map chain_bytes cs ++ rest) → length front ≡ start.place
    → sum_by chain_size cs < 2 ^ 32 → count_subtables cs ≤ start.most_subtables
    → All IsChain cs → All (λ (c : ChainContent). All (IsReadable glyph_count) c.subtables) cs
    → (read : List ChainValue)
    × (in_turn (chain_at bytes glyph_count) (length cs) start ≡ Ok read)
    × AllZip (IsSameChain (DoesAsRead glyph_count)) cs read
chains_are_read [] bytes front rest start glyph_count split long short few small readable = ([], refl, tt)
chains_are_read (c ∷ cs) bytes front rest start glyph_count split long short few small readable =
    let tail : List ℕ = flat_map chain_bytes cs in
    let size : ℕ = chain_size c in
    let total : sum_by chain_size (c ∷ cs) ≡ size + sum_by chain_size cs = sum_by-cons chain_size c cs in
    let count : count_subtables (c ∷ cs) ≡ length c.subtables + count_subtables cs =
    sum_by-cons (λ (k : ChainContent). length k.subtables) c cs in
    let here : bytes ≡ front ++ (chain_bytes c ++ (tail ++ rest)) =
    split ∙ ap (λ (xs : List ℕ). front ++ xs) (append_assoc (chain_bytes c) tail rest) in
    let behind : bytes ≡ (front ++ chain_bytes c) ++ (tail ++ rest) =
    here ∙ sym (append_assoc front (chain_bytes c) (tail ++ rest)) in
    let one = chain_read c bytes front (tail ++ rest) start glyph_count here long
    (omega (arith, short, total)) (omega (arith, few, count)) (small 0 c (omega arith)) (readable 0 c (omega arith)) in
    let next : ChainStart = start_behind start.most_subtables one.0 (start.place + size) in
    let alike : length one.0.subtables ≡ length c.subtables =
    AllZip-long (IsSameSubtable (DoesAsRead glyph_count)) c.subtables one.0.subtables one.2.2 in
    let long_next : length (front ++ chain_bytes c) ≡ start.place + size =
    omega (arith, length-append front (chain_bytes c), chain_long c, long) in
    let others = chains_are_read cs bytes (front ++ chain_bytes c) rest next glyph_count behind long_next
    (omega (arith, short, total)) (omega (arith, few, count, alike))
    (λ k d lt. small (suc k) d (omega arith)) (λ k d lt. readable (suc k) d (omega arith)) in (
      one.0 ∷ others.0,
      in_turn_more (chain_at bytes glyph_count) (length cs) start next one.0 others.0 one.1 others.1,
      (one.2, others.2),
    )
