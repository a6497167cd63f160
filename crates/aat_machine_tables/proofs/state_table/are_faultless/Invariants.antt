use Rattle.aat_machine_tables.specs.inside.Grid.{AreFaultless}
use Rattle.aat_machine_tables.proofs.state_table.are_faultless.Given as goal

abbrev pub invariant-loop-i : goal.invariant-loop-i
invariant-loop-i g l = AreFaultless l.fn.class_count l.fn.rules l.i l.lowest
