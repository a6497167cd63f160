use Rattle.std.proofs.Common.{◌≡◌, take}
use Rattle.aat_write_machine.specs.Contextual.{lookups_asked}
use Rattle.aat_write_machine.proofs.contextual.lookups_asked.Given as goal

abbrev pub invariant-loop-rule : goal.invariant-loop-rule
invariant-loop-rule l = l.most ≡ lookups_asked (take l.rule-index l.rules)
