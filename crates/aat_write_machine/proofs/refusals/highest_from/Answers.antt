use Rattle.aat_write_machine.proofs.Rows.{rule_is_read}
use Rattle.aat_write_machine.proofs.refusals.highest_from.Goals as goal

pub loop-rule-preserved : goal.loop-rule-preserved
loop-rule-preserved g c =
    rule_is_read c.args.most c.loop-rule.rule-index c.loop-rule.highest c.max-highest.result c.args.rules.now c.rule-item.result
    c.loop-rule-test.true c.rule-item.is c.loop-rule.invariant c.max-highest.ensures
