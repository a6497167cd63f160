use Rattle.std.proofs.Common.{◌≡◌, take}
use Rattle.aat_write_machine.specs.MachineRefusals.{highest_from}
use Rattle.aat_write_machine.proofs.refusals.highest_from.Given as goal

abbrev pub invariant-loop-rule : goal.invariant-loop-rule
invariant-loop-rule g l = l.highest ≡ highest_from l.fn.most (take l.rule-index l.rules)
