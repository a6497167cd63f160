use Rattle.aat_findings.proofs.Twins.{twins_more, twins_still}
use Rattle.aat_findings.proofs.classes.add_twin.Goals as goal

pub returns-in_ok-push-in-Some : goal.returns-in_ok-push-in-Some
returns-in_ok-push-in-Some g c =
    twins_more c.args.table.now c.args.pairs.now.items c.push.new.self.items c.args.class c.requires.pairs c.in-Some.before c.in-Some.ensures.some c.in_ok-push-in-Some.ensures.items

pub returns-in-None : goal.returns-in-None
returns-in-None g c = twins_still c.args.table.now c.args.pairs.now.items c.args.pairs.now.items c.args.class c.requires.pairs c.in-None.ensures.none
