use Rattle.aat_cuts.proofs.find.find_unsettled.Goals as goal

pub returns-in-Contextual : goal.returns-in-Contextual
returns-in-Contextual c =
    rw (c.in-Contextual.is, ← c.subtable.view_is) (rw c.deref.ensures.value at c.find_in_contextual.ensures)

pub returns-in-Ligature : goal.returns-in-Ligature
returns-in-Ligature c =
    rw (c.in-Ligature.is, ← c.subtable-in-Ligature.view_is) (rw c.deref-in-Ligature.ensures.value at c.find_in_ligature.ensures)

pub returns-in-Insertion : goal.returns-in-Insertion
returns-in-Insertion c =
    rw (c.in-Insertion.is, ← c.subtable-in-Insertion.view_is) c.find_in_insertion.ensures
