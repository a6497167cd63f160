use Rattle.aat_machine_tables.proofs.state_table.ExtendedStateTable.over.Goals as goal

pub grid_over-requires-clause-rising : goal.grid_over-requires-clause-rising
grid_over-requires-clause-rising g c = rw c.deref.ensures.value c.requires.rising

pub invariant_of-result : goal.invariant_of-result
invariant_of-result g c =
    (c.requires.classes, (c.requires.rising, rw c.deref.ensures.value at c.in_ok-grid.ensures.answers))
