use Rattle.std.proofs.Common.{◌≡◌, drop}
use Rattle.aat_write_machine.specs.MachineRefusals.{misplaced_from}
use Rattle.aat_write_machine.proofs.refusals.misplaced.Given as goal

abbrev pub invariant-loop-cell : goal.invariant-loop-cell
invariant-loop-cell g l =
    misplaced_from l.class_count l.cell (drop l.cell l.rules) ≡ misplaced_from l.class_count 0 l.rules
