use Rattle.aat_run.specs.facts.ThroughoutHolds.{driven_everywhere, switched_everywhere}
use Rattle.aat_run.proofs.ranges.ranges_to_ask.Goals as goal

pub returns-then-is_everywhere_on-clause-driven : goal.returns-then-is_everywhere_on-clause-driven
returns-then-is_everywhere_on-clause-driven c =
    driven_everywhere c.args.ranges.now c.args.feature_flags c.is_everywhere_on.result c.is_everywhere_on.ensures c.if-is_everywhere_on.true c.requires

pub returns-then-is_everywhere_on-clause-switched : goal.returns-then-is_everywhere_on-clause-switched
returns-then-is_everywhere_on-clause-switched c =
    switched_everywhere c.args.ranges.now c.args.feature_flags c.is_everywhere_on.result c.is_everywhere_on.ensures c.if-is_everywhere_on.true c.requires
