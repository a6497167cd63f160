use Rattle.std.proofs.Common.{length, ◌<◌, inl, arith}
use Rattle.aat_cuts.proofs.Raised.{below_raised, here_met, paid_here, still_met}
use Rattle.aat_cuts.proofs.Counted.{looks_here}
use Rattle.aat_cuts.proofs.least.raise.Goals as goal

pub returns-then-asked-labels-clause-met : goal.returns-then-asked-labels-clause-met
returns-then-asked-labels-clause-met c = inl (omega (arith, c.by-asked.ensures.asked))

pub returns-clause-met : goal.returns-clause-met
returns-clause-met c =
    let within : c.args.edge.from < length c.args.labels.now = omega arith in
    here_met c.args.labels.now c.args.waiting.now.items c.push.new.self.items c.args.edge c.by-asked.result within c.by-asked.ensures.asked (omega arith) c.in_ok-push.ensures.items

pub returns-clause-kept : goal.returns-clause-kept
returns-clause-kept c e met =
    let within : c.args.edge.from < length c.args.labels.now = omega arith in
    still_met c.args.labels.now c.args.waiting.now.items c.push.new.self.items c.args.edge c.by-asked.result within c.by-asked.ensures.asked (omega arith) c.in_ok-push.ensures.items e met

pub returns-clause-paid : goal.returns-clause-paid
returns-clause-paid c =
    let within : c.args.edge.from < length c.args.labels.now = omega arith in
    paid_here c.args.labels.now c.args.waiting.now.items c.push.new.self.items c.args.edge c.by-asked.result within c.by-asked.ensures.asked (omega arith) c.in_ok-push.ensures.items

pub returns-clause-looks : goal.returns-clause-looks
returns-clause-looks c =
    let within : c.args.edge.from < length c.args.labels.now = omega arith in
    looks_here c.args.labels.now c.args.edge.from c.by-asked.result within (omega arith) c.args.waiting.now.items c.push.new.self.items c.in_ok-push.ensures.items

pub returns-clause-least : goal.returns-clause-least
returns-clause-least c label met below =
    let within : c.args.edge.from < length c.args.labels.now = omega arith in
    below_raised c.args.labels.now c.args.edge c.by-asked.result label below met within c.by-asked.ensures.asked
