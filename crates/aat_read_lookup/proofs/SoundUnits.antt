-- Units without a fault are sound, and so are the segments by which they are found.
use Rattle.std.proofs.Common.{◌≡◌, ℕ, ◌+◌, ◌-◌, ◌<◌, ◌≤◌, inl, inr, List, None, min, arith}
use Rattle.std.proofs.lemmas.Bool.{cases_lt}
use Rattle.aat_bytes.specs.declared.tag.Tag.{Tag}
use Rattle.aat_bytes.specs.facts.FoundKeys.{keys_ordered, keys_own, keys_within}
use Rattle.aat_read_lookup.specs.Layouts.{glyphs_found, segment_of, unit_at, unit_fault, unit_place, units_fault}
use Rattle.aat_read_lookup.specs.Segments.{end_of, values_behind, values_place, values_size}
use Rattle.aat_read_lookup.specs.declared.segment.Segment.{Segment}
use Rattle.aat_read_lookup.specs.declared.segment.ValueKind.TheVariants.{Word, Long}
use Rattle.aat_read_lookup.specs.declared.segment.Values.{Values}
use Rattle.aat_read_lookup.specs.declared.segment.Values.TheVariants.{Shared, Each, Bytes}
use Rattle.aat_read_lookup.specs.declared.units.Units.{Units}
use Rattle.aat_read_lookup.specs.inside.Sound.{AreInside, AreSound, Fits}
use Rattle.aat_read_lookup.proofs.Faultless.{none_each, values_inside}

pub sound_units :
    (table : Tag) (bytes : List ℕ) (units : Units)
    → AreInside bytes units → units_fault table bytes units ≡ None → AreSound bytes units
sound_units table bytes units inside none =
    let faultless : (i : ℕ) → i < units.count → unit_fault table bytes units i ≡ None =
    λ i below. none_each (unit_fault table bytes units) 0 units.count none i (omega arith) (omega arith) in
    record {
      inside = inside;
      values = λ i below. values_inside table bytes units.kind (unit_place units i) (unit_at bytes units i) (faultless i below);
    }

-- fewer values, behind others, end no later
values_part :
    (values : Values) (skipped count n : ℕ) → skipped + count ≤ n
    → values_place (values_behind values skipped) + values_size (values_behind values skipped) count
    ≤ values_place values + values_size values n
values_part (Shared kind at) skipped count n few = omega arith
values_part (Each Word at) skipped count n few = omega (arith, few)
values_part (Each Long at) skipped count n few = omega (arith, few)
values_part (Bytes at) skipped count n few = omega (arith, few)

module _ (bytes : List ℕ) (units : Units) where
  abbrev pub low : ℕ → ℕ
  low i = (unit_at bytes units i).first

  abbrev pub behind : ℕ → ℕ
  behind i = end_of (unit_at bytes units i)

  pub wide : (i : ℕ) → low i ≤ behind i
  wide i = omega arith

  -- the glyphs by which a unit is found
  pub glyphs_within :
      (i : ℕ) → ((glyphs_found bytes units i).0 ≤ (glyphs_found bytes units i).1) × ((glyphs_found bytes units i).1 ≤ 65536)
  glyphs_within i =
      let within = keys_within low behind wide units.count 0 units.count 0 65536 i (omega arith) in (within.1, within.2)

  pub glyphs_own :
      (i : ℕ) → i < units.count → (glyphs_found bytes units i).0 < (glyphs_found bytes units i).1
      → (low i ≤ (glyphs_found bytes units i).0) × ((glyphs_found bytes units i).1 ≤ behind i)
  glyphs_own i below =
      keys_own low behind wide units.count 0 units.count 0 65536 i (omega arith) (omega arith) below (omega arith)

  -- the last of them
  pub segment_ends : (i : ℕ) → end_of (segment_of bytes units i) ≡ (glyphs_found bytes units i).1
  segment_ends i = let within = glyphs_within i in omega (arith, within)

  -- a segment begins behind one before it
  pub segments_ordered :
      (i j : ℕ) → i < j → j < units.count → end_of (segment_of bytes units i) ≤ (segment_of bytes units j).first
  segments_ordered i j lt below =
      let ordered = keys_ordered low behind wide units.count 0 units.count 0 65536 i j (omega arith) lt (omega arith) below (omega arith) in
      omega (arith, segment_ends i, ordered)

  -- the glyphs that are left out and those that are left are no more than there were
  parts_few :
      (first count a e : ℕ) → a ≤ e → (a < e → (first ≤ a) × (e ≤ first + count)) → min (a - first) count + (e - a) ≤ count
  parts_few first count a e within own = elim (cases_lt a e) [
    | inl lt ↦ let inside = own lt in omega (arith, within, inside)
    | inr ge ↦ omega (arith, ge)
  ]

  pub part_few :
      (i : ℕ) → i < units.count
      → min ((glyphs_found bytes units i).0 - low i) (unit_at bytes units i).count + (segment_of bytes units i).count
      ≤ (unit_at bytes units i).count
  part_few i below =
      parts_few (low i) (unit_at bytes units i).count (glyphs_found bytes units i).0 (glyphs_found bytes units i).1
      (glyphs_within i).0 (glyphs_own i below)

  -- the segment of a unit stands inside
  pub segment_fits : AreSound bytes units → (i : ℕ) → i < units.count → Fits bytes (segment_of bytes units i)
  segment_fits sound i below =
      let unit : Segment = unit_at bytes units i in
      let part = values_part (unit_at bytes units i).values (min ((glyphs_found bytes units i).0 - low i) (unit_at bytes units i).count)
      (segment_of bytes units i).count (unit_at bytes units i).count (part_few i below) in
      record {
        glyphs = omega (arith, segment_ends i, (glyphs_within i).1);
        values = omega (arith, part, sound.values i below);
      }
