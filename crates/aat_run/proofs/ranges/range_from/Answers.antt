use Rattle.std.proofs.Common.{sym}
use Rattle.aat_run.proofs.Bisected.{no_range}
use Rattle.aat_run.specs.facts.Held.{found_there}
use Rattle.aat_run.proofs.ranges.range_from.Goals as goal

pub returns-in-Some : goal.returns-in-Some
returns-in-Some c =
    sym (found_there c.args.ranges.now c.in-Some.near c.args.cluster no_range c.requires c.in-Some.ensures.within c.in-Some.ensures.held)
