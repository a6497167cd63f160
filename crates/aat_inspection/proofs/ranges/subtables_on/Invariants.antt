use Rattle.std.proofs.Common.{◌≡◌, map, take}
use Rattle.aat_layout.specs.Switches.{meets}
use Rattle.aat_inspection.proofs.ranges.subtables_on.Given as goal

abbrev pub invariant-loop-subtable : goal.invariant-loop-subtable
invariant-loop-subtable l = l.on.items ≡ map (λ s. meets l.flags s.feature_flags) (take l.subtable-index l.subtables)
