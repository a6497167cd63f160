use Rattle.aat_write_truetype.proofs.kern.DenseFacts.{below_limit}
use Rattle.aat_write_truetype.proofs.kern.RuleFacts.{are_whole, each_rule, row_is_near}
use Rattle.aat_write_truetype.proofs.kern.machine.machine_bytes.Goals as goal

pub append_classes-requires : goal.append_classes-requires
append_classes-requires c = below_limit 256 c.args.classes.now (are_whole c.args.width c.args.classes.now c.args.rules.now _ c.requires).classes

pub append_entries-requires-clause-near : goal.append_entries-requires-clause-near
append_entries-requires-clause-near c = row_is_near _ _ _ _ (are_whole c.args.width c.args.classes.now c.args.rules.now _ c.requires)

pub append_entries-requires-clause-fit : goal.append_entries-requires-clause-fit
append_entries-requires-clause-fit c =
    λ k d lt. (each_rule _ _ _ 0 0 c.args.rules.now (are_whole c.args.width c.args.classes.now c.args.rules.now _ c.requires).rules k d lt).2
