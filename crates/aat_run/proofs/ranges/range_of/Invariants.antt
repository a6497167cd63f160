use Rattle.std.proofs.Common.{◌-◌}
use Rattle.aat_run.proofs.Bisected.{IsBetween}
use Rattle.aat_run.proofs.ranges.range_of.Given as goal

abbrev pub invariant-loop-low : goal.invariant-loop-low
invariant-loop-low l = IsBetween l.ranges l.cluster l.probes l.low l.high

abbrev pub decreases-loop-low : goal.decreases-loop-low
decreases-loop-low l = l.high - l.low
