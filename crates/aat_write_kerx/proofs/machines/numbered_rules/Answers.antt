use Rattle.aat_write_kerx.proofs.NoneFar.{action_is_near}
use Rattle.aat_write_kerx.proofs.machines.numbered_rules.Goals as goal

pub numbered_rule-requires : goal.numbered_rule-requires
numbered_rule-requires c =
    action_is_near c.args.counts_bytes c.args.rules.now c.loop-rule.rule-index _ c.requires c.loop-rule-test.true
