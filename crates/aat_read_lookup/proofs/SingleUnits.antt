-- Units that are glyphs and rise: how many there are, and how many glyphs from the first to the last.
use Rattle.std.proofs.Common.{◌≡◌, ℕ, zero, suc, ◌+◌, ◌-◌, ◌<◌, ◌≤◌, ◌==◌, inl, List, false, length, map, refl, sym, ap, ◌∙◌, subst, arith, add-one, zero-add}
use Rattle.std.specs.Prelude.{if◌then◌else◌}
use Rattle.std.specs.List.{flat_map, range_with_len, sum_by}
use Rattle.std.proofs.lemmas.Bool.{ne_eqb}
use Rattle.std.proofs.lemmas.List.FromFn.{sum_by-map-range_with_len_more}
use Rattle.aat_bytes.specs.Numbers.{be16}
use Rattle.aat_lookup.specs.Keys.{first}
use Rattle.aat_lookup.specs.GlyphSpans.{glyph_span}
use Rattle.aat_read_lookup.specs.Kept.{kept_count, kept_segments, layout_segments}
use Rattle.aat_read_lookup.specs.Layouts.{glyphs_of, segment_at, segment_of, unit_at, unit_place}
use Rattle.aat_read_lookup.specs.Lookups.{pairs_of}
use Rattle.aat_read_lookup.specs.declared.kept.Keep.TheVariants.{Value}
use Rattle.aat_read_lookup.specs.declared.layout.Layout.TheVariants.{Searched}
use Rattle.aat_read_lookup.specs.declared.segment.Segment.{Segment}
use Rattle.aat_read_lookup.specs.declared.segment.Values.TheVariants.{Shared}
use Rattle.aat_read_lookup.specs.declared.units.UnitKind.{UnitKind}
use Rattle.aat_read_lookup.specs.declared.units.UnitKind.TheVariants.{Single}
use Rattle.aat_read_lookup.specs.declared.units.Units.{Units}
use Rattle.aat_read_lookup.specs.inside.Ends.{ends_with}
use Rattle.aat_read_lookup.specs.inside.Sound.{DoRise}
use Rattle.aat_read_lookup.proofs.KeptCounts.{kept_more}
use Rattle.aat_read_lookup.proofs.RisingUnits.{segment_whole}
use Rattle.aat_read_lookup.proofs.Spans.{HasEnds, ends_more, pairs_to, span_is}

module _ (bytes : List ℕ) (units : Units) where
  single_at : ℕ → Segment
  single_at i = record { first = be16 bytes (unit_place units i); count = 1; values = Shared units.values (unit_place units i + 2) }

  -- the glyph of a unit
  pub glyph_at : ℕ → ℕ
  glyph_at i = be16 bytes (unit_place units i)

  module _ (single : units.kind ≡ Single) where
    unit_is : (i : ℕ) → unit_at bytes units i ≡ single_at i
    unfolding single_at
    unit_is i = ap (λ (kind : UnitKind). segment_at bytes kind units.values units.start (unit_place units i)) single

    -- it is the first of the unit's glyphs
    pub first_is : (i : ℕ) → (unit_at bytes units i).first ≡ glyph_at i
    unfolding single_at glyph_at
    first_is i = ap (λ (s : Segment). s.first) (unit_is i)

    module _ (rise : DoRise bytes units) where
      segment_is : (i : ℕ) → i < units.count → segment_of bytes units i ≡ single_at i
      segment_is i lt = segment_whole bytes units rise i lt ∙ unit_is i

      one_glyph : (i : ℕ) → i < units.count → (segment_of bytes units i).count ≡ 1
      unfolding single_at
      one_glyph i lt = ap (λ (s : Segment). s.count) (segment_is i lt)

      kept_one : (i : ℕ) → i < units.count → kept_count (segment_of bytes units i) ≡ 1
      unfolding single_at
      kept_one i lt = ap kept_count (segment_is i lt)

      glyphs_to : (n : ℕ) → n ≤ units.count → sum_by (λ segment. segment.count) (map (segment_of bytes units) (range_with_len 0 n)) ≡ n
      glyphs_to zero few = refl
      glyphs_to (suc n) few =
          let count : Segment → ℕ = λ segment. segment.count in
          let segment : ℕ → Segment = segment_of bytes units in
          let more = sum_by-map-range_with_len_more count segment 0 n n (zero-add n) in
          let before = glyphs_to n (omega arith) in
          let all : sum_by count (map segment (range_with_len 0 (n + 1))) ≡ n + 1 = omega (arith, more, before, one_glyph n (omega arith)) in
          subst (λ (k : ℕ). sum_by count (map segment (range_with_len 0 k)) ≡ k) (add-one n) all

      -- as many glyphs as units
      pub single_glyphs : units.count ≡ glyphs_of bytes units
      single_glyphs = sym (glyphs_to units.count (omega arith))

      kept_to : (n : ℕ) → n ≤ units.count → length (flat_map (kept_segments bytes Value) (map (segment_of bytes units) (range_with_len 0 n))) ≡ n
      kept_to zero few = refl
      kept_to (suc n) few =
          let segment : ℕ → Segment = segment_of bytes units in
          let more = kept_more bytes Value units n in
          let before = kept_to n (omega arith) in
          let all : length (flat_map (kept_segments bytes Value) (map segment (range_with_len 0 (n + 1)))) ≡ n + 1 = omega (arith, more, before, kept_one n (omega arith)) in
          subst (λ (k : ℕ). length (flat_map (kept_segments bytes Value) (map segment (range_with_len 0 k))) ≡ k) (add-one n) all

      -- each is kept as a segment
      pub single_segments : units.count ≡ length (layout_segments bytes Value (Searched units))
      single_segments = sym (kept_to units.count (omega arith))

      ends_to : (n : ℕ) → n < units.count → HasEnds (pairs_to bytes units (n + 1)) (glyph_at 0, glyph_at n + 1)
      unfolding single_at glyph_at
      ends_to zero few =
          let none : HasEnds (pairs_to bytes units 0) (0, 0) = inl (refl, refl) in
          subst (λ (ends : ℕ × ℕ). HasEnds (pairs_to bytes units 1) ends) (ap (ends_with (0, 0)) (segment_is 0 few)) (ends_more bytes units 0 (0, 0) none)
      ends_to (suc n) few =
          let before = subst (λ (k : ℕ). HasEnds (pairs_to bytes units k) (glyph_at 0, glyph_at n + 1)) (add-one n) (ends_to n (omega arith)) in
          let some : (glyph_at n + 1 == 0) ≡ false = ne_eqb (glyph_at n + 1) 0 (λ e. omega (arith, e)) in
          let one = ap (ends_with (glyph_at 0, glyph_at n + 1)) (segment_is (suc n) few) ∙ ap (λ b. (if b then glyph_at (suc n) else glyph_at 0, glyph_at (suc n) + 1)) some in
          subst (λ (ends : ℕ × ℕ). HasEnds (pairs_to bytes units (suc n + 1)) ends) one (ends_more bytes units (suc n) (glyph_at 0, glyph_at n + 1) before)

      -- the glyphs from the first to the last
      pub single_span :
          0 < units.count
          → glyph_span first (0, 0) (pairs_of bytes (Searched units)) ≡ glyph_at (units.count - 1) - glyph_at 0 + 1
      single_span some =
          let last : units.count - 1 + 1 ≡ units.count = omega (arith, some) in
          let has = subst (λ (n : ℕ). HasEnds (pairs_to bytes units n) (glyph_at 0, glyph_at (units.count - 1) + 1)) last (ends_to (units.count - 1) (omega (arith, some))) in
          let span = span_is bytes units (glyph_at 0, glyph_at (units.count - 1) + 1) (omega (arith, some, single_glyphs)) has in
          omega (arith, span.1)
