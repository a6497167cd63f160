use Rattle.std.proofs.Common.{◌≡◌, Some, length, refl}
use Rattle.std.specs.List.{slice_get}
use Rattle.std.proofs.lemmas.Option.{slice_get_read}
use Rattle.std.proofs.lemmas.Result.{err_from_is_err_and}
use Rattle.aat_run.specs.Ranges.{switch_for}
use Rattle.aat_kinds.specs.Kinds.{sizes_of}
use Rattle.aat_morx.proofs.Chained.{subtable_refused}
use Rattle.aat_morx.proofs.chains.run_chain.Goals as goal

pub run_subtable-requires-clause-wake : goal.run_subtable-requires-clause-wake
run_subtable-requires-clause-wake g c =
    let l = c.loop-i in
    let s = c.index-subtables-i.result in
    let here : slice_get c.args.subtables.now l.i ≡ Some s = slice_get_read c.args.subtables.now (length c.args.subtables.now) l.i s refl c.loop-i-test.true c.index-subtables-i.is in
    c.requires.wakers l.i s here

pub run_subtable-requires-clause-wakers : goal.run_subtable-requires-clause-wakers
run_subtable-requires-clause-wakers g c =
    let l = c.loop-i in
    let s = c.index-subtables-i.result in
    let here : slice_get c.args.subtables.now l.i ≡ Some s = slice_get_read c.args.subtables.now (length c.args.subtables.now) l.i s refl c.loop-i-test.true c.index-subtables-i.is in
    c.wakers_at.ensures s (c.requires.wakers l.i s here)

pub returns-in_err-turns-clause-reason : goal.returns-in_err-turns-clause-reason
returns-in_err-turns-clause-reason g c =
    let p = err_from_is_err_and c.from_residual.result c.from_residual.ensures.1 in
    let l = c.loop-i in
    rw (p.1, p.2) (subtable_refused (sizes_of g.row.SLOTS g.row.LONGEST c.args.face.now) (switch_for c.args.ranges.now) c.args.subtables.now l.i c.index-subtables-i.result
    c.args.buffer.now l.buffer l.turns c.in_err-turns.field-0.0 c.requires.slots c.loop-i-test.true c.index-subtables-i.is l.invariant.same l.invariant.within.settings.max_len
    c.in_err-turns.ensures.reason)
