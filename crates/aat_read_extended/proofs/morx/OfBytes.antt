-- A table that is read has the chains of its bytes.
use Rattle.std.proofs.Common.{◌≡◌, ℕ, zero, suc, ◌+◌, ◌-◌, ◌*◌, ◌<◌, ◌≤◌, List, [], length, get_or, take, drop, Some, Result, Ok, sym, ap, ◌∙◌, subst, zero-add, arith, refl}
use Rattle.std.specs.Int.{w16, w32, from_be_bytes}
use Rattle.std.specs.Prelude.{slice_get}
use Rattle.std.proofs.lemmas.List.{drop-take, take-take}
use Rattle.std.proofs.lemmas.List.FromFn.{get_or-map-range_with_len, length-map-range_with_len}
use Rattle.std.proofs.lemmas.Option.{get_or_from_slice_get, none-some, same_Some, slice_get_within}
use Rattle.aat_bytes.specs.Numbers.{be16, be32}
use Rattle.aat_bytes.specs.declared.error.Fault.{Fault}
use Rattle.aat_machine_tables.specs.declared.morx.ChainFeature.{ChainFeature}
use Rattle.aat_machine_tables.specs.declared.morx.Subtable.{Subtable}
use Rattle.aat_bytes.specs.facts.Parts.{ok_parts}
use Rattle.aat_read_machine.specs.SubtableKinds.{subtable_kind_at}
use Rattle.aat_read_extended.specs.morx.ChainFeatures.{feature_at, features_at}
use Rattle.aat_read_extended.specs.morx.ChainSubtables.{kind_at, subtable_at}
use Rattle.aat_read_extended.specs.morx.Chains.{ChainStart, ChainValue, chain_at, chain_value_at, first_chain}
use Rattle.aat_read_extended.specs.morx.ChainsOfBytes.{IsChainAt, IsSubtableAt, feature_place}
use Rattle.aat_read_machine.specs.InTurn.{AreInOrder, end_by, in_turn, place_in_turn}
use Rattle.aat_read_machine.specs.facts.Turns.{counted, turn}
use Rattle.aat_read_extended.specs.morx.MorxLaws.{ChainsAreThoseOfBytes}
use Rattle.aat_read_extended.specs.morx.Weights.{chain_reach}
use Rattle.aat_read_extended.specs.declared.morx.reach.Reach.{Reach}
use Rattle.aat_read_extended.proofs.morx.ReadParts.{chain_parts, ends, features_parts, subtable_parts, table_parts, taken_low, turn_parts}

-- bytes before a cut
part_taken : (bytes : List ℕ) (end place size : ℕ) → place + size ≤ end → take size (drop place (take end bytes)) ≡ take size (drop place bytes)
part_taken bytes end place size inside =
    let split : end ≡ place + (end - place) = omega arith in
    ap (λ n. take size (drop place (take n bytes))) split
    ∙ ap (take size) (drop-take place (end - place) bytes)
    ∙ take-take size (end - place) (drop place bytes) (omega arith)

be16_taken : (bytes : List ℕ) (end place : ℕ) → place + 2 ≤ end → be16 (take end bytes) place ≡ be16 bytes place
be16_taken bytes end place inside = ap (from_be_bytes w16) (part_taken bytes end place 2 inside)

be32_taken : (bytes : List ℕ) (end place : ℕ) → place + 4 ≤ end → be32 (take end bytes) place ≡ be32 bytes place
be32_taken bytes end place inside = ap (from_be_bytes w32) (part_taken bytes end place 4 inside)

-- a feature before a cut
feature_taken : (bytes : List ℕ) (end place : ℕ) → place + 12 ≤ end → feature_at (take end bytes) place ≡ feature_at bytes place
feature_taken bytes end place inside =
    let of : ℕ → ℕ → ℕ → ℕ → ChainFeature =
    λ kind setting enable disable. record { kind = kind; setting = setting; enable_flags = enable; disable_flags = disable } in
    let cut : List ℕ = take end bytes in
    ap (λ n. of n (be16 cut (place + 2)) (be32 cut (place + 4)) (be32 cut (place + 8))) (be16_taken bytes end place (omega arith))
    ∙ ap (λ n. of (be16 bytes place) n (be32 cut (place + 4)) (be32 cut (place + 8))) (be16_taken bytes end (place + 2) (omega arith))
    ∙ ap (λ n. of (be16 bytes place) (be16 bytes (place + 2)) n (be32 cut (place + 8))) (be32_taken bytes end (place + 4) (omega arith))
    ∙ ap (λ n. of (be16 bytes place) (be16 bytes (place + 2)) (be32 bytes (place + 4)) n) (be32_taken bytes end (place + 8) (omega arith))

-- features that are read are those of the bytes
features_of_bytes :
    (bytes : List ℕ) (place end count : ℕ) (features : List ChainFeature)
    → place + 12 * count ≤ end → features_at (take end bytes) place count ≡ features
    → AreInOrder features count (λ i feature. feature ≡ feature_at bytes (place + 12 * i))
features_of_bytes bytes place end count features inside all =
    let at : ℕ → ChainFeature = λ i. feature_at (take end bytes) (place + 12 * i) in
    let long : length features ≡ count = sym (ap length all) ∙ length-map-range_with_len at 0 count in (
      long,
      λ i feature is.
          let within = slice_get_within features i feature is in
          let below : i < count = omega (arith, within, long) in
          let got : get_or features i feature ≡ feature = get_or_from_slice_get features i feature feature is in
          let made : get_or features i feature ≡ at i =
          ap (λ (fs : List ChainFeature). get_or fs i feature) (sym all)
          ∙ get_or-map-range_with_len at 0 count i i feature below (zero-add i) in
          sym got ∙ made ∙ feature_taken bytes end (place + 12 * i) (omega arith),
    )

-- the places behind the first are those from the second on
next_place : (bytes : List ℕ) (field first i : ℕ) → place_in_turn bytes field first (suc i) ≡ place_in_turn bytes field (end_by bytes field first) i
next_place bytes field first zero = refl
next_place bytes field first (suc i) = ap (end_by bytes field) (next_place bytes field first i)

module _ {S X : Type 0} (read : S → Result (X × S) Fault) (place_of : S → ℕ) (bytes : List ℕ) (field : ℕ) (P : ℕ → X → Type 0)
    (step : (start next : S) (x : X) → read start ≡ Ok (x, next) → P (place_of start) x × (end_by bytes field (place_of start) ≡ place_of next)) where
  -- each record that is read in turn stands at its place
  each_at : (count : ℕ) (start : S) (xs : List X) → in_turn read count start ≡ Ok xs
      → (i : ℕ) (x : X) → slice_get xs i ≡ Some x → P (place_in_turn bytes field (place_of start) i) x
  each_at zero start xs is i x at = absurd (none-some x (ap (λ (ys : List X). slice_get ys i) (ok_parts [] xs is) ∙ at))
  each_at (suc count) start xs is zero x at =
      let t = turn read count start xs is in
      let here : t.one ≡ x = same_Some t.one x (ap (λ (ys : List X). slice_get ys 0) t.whole ∙ at) in
      subst (P (place_of start)) here (step start t.next t.one t.first).0
  each_at (suc count) start xs is (suc i) x at =
      let t = turn read count start xs is in
      let there : slice_get t.others i ≡ Some x = ap (λ (ys : List X). slice_get ys (suc i)) t.whole ∙ at in
      let place : place_in_turn bytes field (place_of t.next) i ≡ place_in_turn bytes field (place_of start) (suc i) =
      ap (λ n. place_in_turn bytes field n i) (sym (step start t.next t.one t.first).1)
      ∙ sym (next_place bytes field (place_of start) i) in
      subst (λ (p : ℕ). P p x) place (each_at count t.next t.others t.rest i x there)

  pub all_at : (count : ℕ) (start : S) (xs : List X) → in_turn read count start ≡ Ok xs
      → AreInOrder xs count (λ i x. P (place_in_turn bytes field (place_of start) i) x)
  all_at count start xs is = (counted read count start xs is, each_at count start xs is)

module _ (bytes : List ℕ) (glyph_count : ℕ) where
  -- a subtable that is read is that of the bytes, and the next one starts at its end
  subtable_step :
      (reach : Reach) (place end : ℕ) (s : Subtable)
      → subtable_at bytes glyph_count reach place ≡ Ok (s, end)
      → IsSubtableAt bytes glyph_count reach place s × (end_by bytes 0 place ≡ end)
  subtable_step reach place end s is =
      let read = subtable_parts bytes glyph_count reach place end s is in
      let e = ends (take reach.end bytes) place 12 0 end read.ended in
      let low = e.low in
      let high = e.high in
      let short = taken_low bytes reach.end in
      let number : be32 (take reach.end bytes) (place + 0) ≡ be32 bytes (place + 0) =
      be32_taken bytes reach.end (place + 0) (omega (arith, low, high, short)) in
      let size : end_by bytes 0 place ≡ end = ap (λ n. place + n) (sym number) ∙ e.is in
      let within : end ≤ reach.end = omega (arith, high, short) in
      let here : IsSubtableAt bytes glyph_count reach place s = record {
        header = subst (λ (n : ℕ). place + 12 ≤ n) (sym size) low;
        inside = subst (λ (n : ℕ). n ≤ reach.end) (sym size) within;
        coverage = read.coverage;
        feature_flags = read.flags;
        kind = ap (λ n. subtable_kind_at (take (n + reach.allowance) bytes) (place + 12) (kind_at bytes place) glyph_count) size
            ∙ read.kind;
      } in
      (here, size)

  -- a chain that is read is that of the bytes, and the next one starts at its end
  chain_step :
      (start next : ChainStart) (c : ChainValue)
      → chain_at bytes glyph_count start ≡ Ok (c, next)
      → IsChainAt bytes glyph_count start.place c × (end_by bytes 4 start.place ≡ next.place)
  chain_step start next c is =
      let at = turn_parts bytes glyph_count start next c is in
      let e = ends bytes start.place 16 4 next.place at.ended in
      let end : ℕ = end_by bytes 4 start.place in
      let size : end ≡ next.place = e.is in
      let value : chain_value_at bytes glyph_count start end ≡ Ok c =
      ap (chain_value_at bytes glyph_count start) size ∙ at.value in
      let read = chain_parts bytes glyph_count start end c value in
      let features = features_parts bytes (start.place + 16) end (be32 bytes (start.place + 8)) c.features read.features in
      let reach : Reach = chain_reach bytes start.place end in
      let here : IsChainAt bytes glyph_count start.place c = record {
        inside = subst (λ (n : ℕ). n ≤ length bytes) (sym size) e.high;
        features_inside = features.inside;
        default_flags = read.flags;
        features = features_of_bytes bytes (start.place + 16) end (be32 bytes (start.place + 8)) c.features features.inside
            features.all;
        subtables = all_at (subtable_at bytes glyph_count reach) (λ (place : ℕ). place) bytes 0
            (λ place s. IsSubtableAt bytes glyph_count reach place s) (subtable_step reach)
            (be32 bytes (start.place + 12)) (feature_place start.place (be32 bytes (start.place + 8))) c.subtables
            read.subtables;
      } in
      (here, size)

-- the law
pub chains_are_those_of_bytes : ChainsAreThoseOfBytes
chains_are_those_of_bytes bytes glyph_count chains is =
    all_at (chain_at bytes glyph_count) (λ (start : ChainStart). start.place) bytes 4
    (λ place c. IsChainAt bytes glyph_count place c) (chain_step bytes glyph_count) (be32 bytes 4) first_chain chains
    (table_parts bytes glyph_count chains is).1
