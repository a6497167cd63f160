use Rattle.std.proofs.Common.{sym}
use Rattle.aat_run.proofs.Bisected.{no_range}
use Rattle.aat_run.specs.facts.Held.{found_there}
use Rattle.aat_run.proofs.ranges.range_at.Goals as goal

pub returns-then-ends_at_last : goal.returns-then-ends_at_last
returns-then-ends_at_last c =
    sym (found_there c.args.ranges.now c.range_of-found.result.0 c.args.cluster no_range c.requires c.range_of-found.ensures.within c.range_of-found.ensures.place)
