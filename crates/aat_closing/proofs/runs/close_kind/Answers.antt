use Rattle.aat_kinds.proofs.Woken.{of_contextual, of_insertion, of_ligature, of_rearrangement}
use Rattle.aat_closing.proofs.runs.close_kind.Goals as goal

pub close_rearrangement-requires-clause-wakers : goal.close_rearrangement-requires-clause-wakers
close_rearrangement-requires-clause-wakers g c = of_rearrangement c.args.kind.now c.args.run.now.wakers c.requires.wakers c.in-Rearrangement.table c.in-Rearrangement.is

pub close_contextual-requires-clause-wakers : goal.close_contextual-requires-clause-wakers
close_contextual-requires-clause-wakers g c = of_contextual c.args.kind.now c.args.run.now.wakers c.requires.wakers c.in-Contextual.subtable c.in-Contextual.is

pub close_ligature-requires-clause-wakers : goal.close_ligature-requires-clause-wakers
close_ligature-requires-clause-wakers g c = of_ligature c.args.kind.now c.args.run.now.wakers c.requires.wakers c.in-Ligature.subtable c.in-Ligature.is

pub close_insertion-requires-clause-wakers : goal.close_insertion-requires-clause-wakers
close_insertion-requires-clause-wakers g c = of_insertion c.args.kind.now c.args.run.now.wakers c.requires.wakers c.in-Insertion.subtable c.in-Insertion.is
