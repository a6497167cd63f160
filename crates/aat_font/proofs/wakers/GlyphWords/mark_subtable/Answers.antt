use Rattle.aat_font.specs.Idle.{is_idle}
use Rattle.aat_font.proofs.wakers.GlyphWords.mark_subtable.Goals as goal

pub returns-in-Rearrangement-clause-awake : goal.returns-in-Rearrangement-clause-awake
unfolding is_idle
returns-in-Rearrangement-clause-awake c = rw c.in-Rearrangement.is c.mark_machine.ensures.awake

pub returns-in-Contextual-clause-awake : goal.returns-in-Contextual-clause-awake
unfolding is_idle
returns-in-Contextual-clause-awake c = rw (c.in-Contextual.is, ← c.tables.view_is) c.mark_machine-in-Contextual.ensures.awake

pub returns-in-Ligature-clause-awake : goal.returns-in-Ligature-clause-awake
unfolding is_idle
returns-in-Ligature-clause-awake c = rw (c.in-Ligature.is, ← c.tables-in-Ligature.view_is) c.mark_machine-in-Ligature.ensures.awake

pub returns-in-NonContextual-clause-awake : goal.returns-in-NonContextual-clause-awake
unfolding is_idle
returns-in-NonContextual-clause-awake c = rw c.in-NonContextual.is c.mark_values.ensures.awake

pub returns-in-Insertion-clause-awake : goal.returns-in-Insertion-clause-awake
unfolding is_idle
returns-in-Insertion-clause-awake c = rw (c.in-Insertion.is, ← c.tables-in-Insertion.view_is) c.mark_machine-in-Insertion.ensures.awake
