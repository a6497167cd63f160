use Rattle.std.proofs.Common.{[], ◌∷◌, subst, take}
use Rattle.std.proofs.lemmas.Result.{err_from_is_err_and}
use Rattle.aat_kinds.specs.Kinds.{sizes_of}
use Rattle.aat_morx.proofs.Chained.{subtable_refused}
use Rattle.aat_morx.specs.Substitution.{subtable_run}
use Rattle.aat_run.specs.Ranges.{switch_for}
use Rattle.aat_trace.proofs.ToldMore.{subtable_ran, tells_then, told_more, within_more}
use Rattle.aat_trace.specs.Told.{told_of, told_of_subtables}
use Rattle.aat_trace.specs.inside.Telling.{TellsMore}
use Rattle.aat_trace.proofs.chains.trace_chain.Goals as goal

pub returns-in_err-turns-clause-reason : goal.returns-in_err-turns-clause-reason
returns-in_err-turns-clause-reason g c =
    let p = err_from_is_err_and c.from_residual.result c.from_residual.ensures.1 in
    let l = c.loop-k in
    rw (p.1, p.2) (subtable_refused (sizes_of g.row.SLOTS g.row.LONGEST c.args.face.now) (switch_for c.args.ranges.now) c.args.subtables.now l.k c.index-subtables-k.result
    c.args.buffer.now l.buffer l.turns c.in_err-turns.field-0.0 c.requires.slots c.loop-k-test.true c.index-subtables-k.is l.invariant.same l.invariant.within.settings.max_len
    c.in_err-turns.ensures.reason)

pub loop-k-preserved : goal.loop-k-preserved
loop-k-preserved g c =
    let z = sizes_of g.row.SLOTS g.row.LONGEST c.args.face.now in
    let switch = switch_for c.args.ranges.now in
    let l = c.loop-k in
    let ss = c.args.subtables.now in
    let s = c.index-subtables-k.result in
    record {
      same = subtable_ran (subtable_run z switch) ss l.k s c.args.buffer.now l.buffer c.trace_subtable.new.buffer l.turns c.in_ok-turns.field-0
          c.loop-k-test.true c.index-subtables-k.is l.invariant.same c.in_ok-turns.ensures.run;
      within = within_more l.k c.args.buffer.now l.buffer c.trace_subtable.new.buffer l.turns c.in_ok-turns.field-0 l.invariant.within c.in_ok-turns.ensures.within;
      told = subst (TellsMore c.args.trace.now c.trace_subtable.new.trace)
          (told_more z switch c.args.i ss l.k s c.args.buffer.now l.buffer l.turns c.loop-k-test.true c.index-subtables-k.is l.invariant.same)
          (tells_then c.args.trace.now l.trace c.trace_subtable.new.trace (told_of_subtables z switch c.args.i 0 (take l.k ss) c.args.buffer.now)
          (told_of z switch c.args.i l.k s l.buffer ∷ []) l.invariant.told c.in_ok-turns.ensures.told);
    }
