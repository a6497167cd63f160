-- The line over a range of a chain.
use Rattle.std.specs.Prelude.{ℕ, map}
use Rattle.aat_layout.specs.Switches.{meets}
use Rattle.aat_layout.specs.Chain.{Chain}
use Rattle.aat_layout.specs.range_flags_t.{range_flags_t}
use Rattle.aat_inspection.specs.Inspected.{TableLine}

-- the flags of a range of chain k over its clusters, and for each subtable whether it shares a bit with them
abbrev pub line_over : ℕ → Chain → range_flags_t → TableLine
line_over k c r = record {
  chain = k;
  first = r.cluster_first;
  last = r.cluster_last;
  flags = r.flags;
  on = map (λ s. meets r.flags s.feature_flags) c.subtables.items;
}
