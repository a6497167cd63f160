-- The segments of a layout rise.
use Rattle.std.proofs.Common.{◌≡◌, ℕ, zero, suc, ◌+◌, ◌<◌, ◌≤◌, List, [], ◌∷◌, map, None, arith}
use Rattle.std.specs.List.{flat_map, range_with_len}
use Rattle.aat_lookup.specs.Keys.{first, first_fall}
use Rattle.aat_lookup.specs.Segments.{first_segment_fall}
use Rattle.aat_read_lookup.specs.Layouts.{segment_of, segments_of, unit_segments}
use Rattle.aat_read_lookup.specs.Segments.{end_of, pairs_by}
use Rattle.aat_read_lookup.specs.Kept.{layout_segments}
use Rattle.aat_read_lookup.specs.declared.kept.Keep.{Keep}
use Rattle.aat_read_lookup.specs.declared.layout.Layout.{Layout}
use Rattle.aat_read_lookup.specs.declared.layout.Layout.TheVariants.{Array, Searched}
use Rattle.aat_read_lookup.specs.declared.segment.Values.{Values}
use Rattle.aat_read_lookup.specs.declared.units.Units.{Units}
use Rattle.aat_read_lookup.specs.inside.Sound.{IsSound}
use Rattle.aat_read_lookup.proofs.Rises.{RiseFrom, kept_rise, pairs_rise}
use Rattle.aat_read_lookup.proofs.SoundUnits.{segments_ordered}

module _ (bytes : List ℕ) (units : Units) where
  rise_from :
      (a n lowest : ℕ) → a + n ≤ units.count → (a < units.count → lowest ≤ (segment_of bytes units a).first)
      → RiseFrom lowest (map (segment_of bytes units) (range_with_len a n))
  rise_from a zero lowest within low = tt
  rise_from a (suc n) lowest within low = (
    low (omega arith),
    rise_from (a + 1) n (end_of (segment_of bytes units a)) (omega arith)
        (λ below. segments_ordered bytes units a (a + 1) (omega arith) below),
  )

  -- the segments of units rise
  pub unit_segments_rise : RiseFrom 0 (unit_segments bytes units)
  unit_segments_rise = rise_from 0 units.count 0 (omega arith) (λ below. omega arith)

  -- the pairs of units rise
  pub unit_pairs_rise :
      (value : Values → ℕ → ℕ) → first_fall first (flat_map (pairs_by value) (unit_segments bytes units)) ≡ None
  unit_pairs_rise value = pairs_rise value 0 (unit_segments bytes units) unit_segments_rise

-- the pairs of a layout rise
pub layout_pairs_rise :
    (bytes : List ℕ) (value : Values → ℕ → ℕ) (layout : Layout)
    → IsSound bytes layout → first_fall first (flat_map (pairs_by value) (segments_of bytes layout)) ≡ None
layout_pairs_rise bytes value (Array segment) sound = pairs_rise value 0 (segment ∷ []) (omega arith, tt)
layout_pairs_rise bytes value (Searched units) sound = unit_pairs_rise bytes units value

-- the segments of a layout rise as they are kept
pub layout_segments_rise :
    (bytes : List ℕ) (keep : Keep) (layout : Layout)
    → IsSound bytes layout → first_segment_fall (layout_segments bytes keep layout) ≡ None
layout_segments_rise bytes keep (Array s) sound = kept_rise bytes keep (s ∷ []) (omega arith, tt)
layout_segments_rise bytes keep (Searched units) sound =
    kept_rise bytes keep (unit_segments bytes units) (unit_segments_rise bytes units)
