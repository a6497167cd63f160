use Rattle.aat_map.proofs.WalkLemmas.{walked_live, walked_on}
use Rattle.aat_map.proofs.walk.go_on.Goals as goal

pub returns-clause-live : goal.returns-clause-live
returns-clause-live g c =
    walked_live c.args.cluster c.args.ordered.now c.args.ending.now c.args.live.now.active.items c.args.passed.0 c.args.passed.1 c.requires.walked c.requires.up_to
    c.start_up_to.new.live.active.items c.end_up_to-ended.new.live.active.items c.in_ok-begun.ensures.live c.end_up_to-ended.ensures.live

pub returns-clause-up_to : goal.returns-clause-up_to
returns-clause-up_to g c =
    walked_on c.args.cluster c.args.ordered.now c.args.ending.now c.args.live.now.active.items c.args.passed.0 c.args.passed.1 c.requires.walked c.requires.up_to
    c.start_up_to.new.live.active.items c.end_up_to-ended.new.live.active.items c.in_ok-begun.begun c.end_up_to-ended.result c.in_ok-begun.ensures.live c.end_up_to-ended.ensures.live c.in_ok-begun.ensures.count c.end_up_to-ended.ensures.count
