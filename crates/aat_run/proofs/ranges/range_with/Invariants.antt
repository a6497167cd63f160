use Rattle.std.proofs.Common.{◌≡◌, drop}
use Rattle.std.specs.List.{find}
use Rattle.aat_run.specs.Ranges.{holds}
use Rattle.aat_run.proofs.ranges.range_with.Given as goal

abbrev pub invariant-loop-i : goal.invariant-loop-i
invariant-loop-i l = find (holds l.fn.cluster) (drop l.i l.fn.ranges) ≡ find (holds l.fn.cluster) l.fn.ranges
