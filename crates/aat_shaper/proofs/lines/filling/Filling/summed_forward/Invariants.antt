use Rattle.aat_shaper.specs.inside.Filling.{IsSummed}
use Rattle.aat_shaper.proofs.lines.filling.Filling.summed_forward.Given as goal

abbrev pub invariant-loop-to : goal.invariant-loop-to
invariant-loop-to l = IsSummed l.self (record l.summed { to = l.to; sum = l.sum; past = l.past })
