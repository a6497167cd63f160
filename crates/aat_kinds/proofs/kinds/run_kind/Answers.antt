use Rattle.aat_run.specs.Ranges.{switch_for}
use Rattle.aat_run.specs.facts.ThroughoutHolds.{switched_nowhere}
use Rattle.aat_kinds.specs.Kinds.{sizes_of}
use Rattle.aat_kinds.proofs.Passed.{run_stays}
use Rattle.aat_kinds.proofs.Woken.{of_rearrangement, of_contextual, of_ligature, of_noncontextual, of_insertion}
use Rattle.aat_kinds.proofs.kinds.run_kind.Goals as goal

pub returns-else-not-is_nowhere_on-clause-run : goal.returns-else-not-is_nowhere_on-clause-run
returns-else-not-is_nowhere_on-clause-run g c =
    let run = c.args.run.now in
    let off = switched_nowhere run.ranges.now run.feature_flags c.is_nowhere_on.result c.is_nowhere_on.ensures c.if-not-is_nowhere_on.false in
    run_stays (sizes_of g.row.SLOTS g.row.LONGEST run.face.now) ((switch_for run.ranges.now).is_on run.feature_flags) c.args.kind.now _ c.args.buffer.now c.len-turns.result off c.in-NonContextual.is c.len-turns.ensures.count

pub run_rearrangement-requires-clause-wakers : goal.run_rearrangement-requires-clause-wakers
run_rearrangement-requires-clause-wakers g c = of_rearrangement c.args.kind.now c.args.run.now.wakers c.requires.wakers c.in-Rearrangement.table c.in-Rearrangement.is

pub run_contextual-requires-clause-wakers : goal.run_contextual-requires-clause-wakers
run_contextual-requires-clause-wakers g c = of_contextual c.args.kind.now c.args.run.now.wakers c.requires.wakers c.in-Contextual.subtable c.in-Contextual.is

pub run_ligature-requires-clause-wakers : goal.run_ligature-requires-clause-wakers
run_ligature-requires-clause-wakers g c = of_ligature c.args.kind.now c.args.run.now.wakers c.requires.wakers c.in-Ligature.subtable c.in-Ligature.is

pub run_insertion-requires-clause-wakers : goal.run_insertion-requires-clause-wakers
run_insertion-requires-clause-wakers g c = of_insertion c.args.kind.now c.args.run.now.wakers c.requires.wakers c.in-Insertion.subtable c.in-Insertion.is

pub replace_all-requires-clause-wakers : goal.replace_all-requires-clause-wakers
replace_all-requires-clause-wakers g c = of_noncontextual c.args.kind.now c.args.run.now.wakers c.requires.wakers c.in-NonContextual.lookup c.in-NonContextual.is
