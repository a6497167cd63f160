use Rattle.std.proofs.Common.{◌-◌}
use Rattle.aat_shaper.specs.inside.Filling.{IsSummed}
use Rattle.aat_shaper.proofs.lines.filling.Filling.summed_back.Given as goal

abbrev pub invariant-loop-before : goal.invariant-loop-before
invariant-loop-before l =
    IsSummed l.self (record l.summed { from = l.summed.from - l.before; sum = l.sum; past = l.past })
