use Rattle.std.proofs.Common.{◌≡◌, ◌+◌, Some, arith, length, refl, subst, sym}
use Rattle.std.proofs.lemmas.Option.{slice_get_read}
use Rattle.std.proofs.lemmas.Result.{err_from_is_err_and}
use Rattle.std.specs.List.{slice_get}
use Rattle.aat_run.specs.Driven.{StaysWithin}
use Rattle.aat_run.specs.Ranges.{switch_for}
use Rattle.aat_run.specs.declared.driver.MachineRun.{MachineRun}
use Rattle.aat_run.specs.facts.Settings.{settings_stay}
use Rattle.aat_kinds.specs.Kinds.{sizes_of}
use Rattle.aat_closing.proofs.ClosingChained.{closing_subtable_refused, one_more_told, within_one_more}
use Rattle.aat_closing.specs.ClosingChains.{closing_subtable}
use Rattle.aat_closing.specs.ClosingRuns.{told_in_order}
use Rattle.aat_closing.proofs.chains.close_chain.Goals as goal

pub loop-i-init : goal.loop-i-init
unfolding told_in_order
loop-i-init g c = record {
  same = refl;
  within = record { ids = c.requires.ids; counted = omega arith; extent = omega arith; settings = settings_stay c.args.buffer.now };
  tells = c.requires.tells;
}

pub close_subtable-requires-clause-wake : goal.close_subtable-requires-clause-wake
close_subtable-requires-clause-wake g c = λ w found.
    let l = c.loop-i in
    let s = c.index-subtables-i.result in
    let here : slice_get c.args.subtables.now l.i ≡ Some s = slice_get_read c.args.subtables.now (length c.args.subtables.now) l.i s refl c.loop-i-test.true c.index-subtables-i.is in
    c.requires.wakers l.i s here w found

pub close_subtable-requires-clause-wakers : goal.close_subtable-requires-clause-wakers
close_subtable-requires-clause-wakers g c =
    let l = c.loop-i in
    let s = c.index-subtables-i.result in
    let here : slice_get c.args.subtables.now l.i ≡ Some s = slice_get_read c.args.subtables.now (length c.args.subtables.now) l.i s refl c.loop-i-test.true c.index-subtables-i.is in
    c.wakers_at.ensures s (c.requires.wakers l.i s here)

pub loop-i-preserved : goal.loop-i-preserved
loop-i-preserved g c =
    let l = c.loop-i in
    let b = c.args.buffer.now in
    let v = c.close_subtable.new.buffer in
    let ran = c.in_ok-ran.ran in
    let told = c.told_after-told in
    record {
      same = one_more_told (closing_subtable (sizes_of g.row.SLOTS g.row.LONGEST c.args.face.now) (switch_for c.args.ranges.now)) c.args.subtables.now l.i c.index-subtables-i.result b l.buffer v l.told ran told.result told.ensures
          c.loop-i-test.true c.index-subtables-i.is l.invariant.same c.in_ok-ran.ensures.run;
      within = subst (λ (o : MachineRun). StaysWithin (l.i + 1) b v o.turns) (sym told.ensures) (within_one_more l.i b l.buffer v l.told.turns ran.turns l.invariant.within c.in_ok-ran.ensures.within);
      tells = c.in_ok-ran.ensures.tells;
    }

pub returns-in_err-ran-clause-reason : goal.returns-in_err-ran-clause-reason
returns-in_err-ran-clause-reason g c =
    let p = err_from_is_err_and c.from_residual.result c.from_residual.ensures.1 in
    let l = c.loop-i in
    rw (p.1, p.2) (closing_subtable_refused (sizes_of g.row.SLOTS g.row.LONGEST c.args.face.now) (switch_for c.args.ranges.now) c.args.subtables.now l.i c.index-subtables-i.result
    c.args.buffer.now l.buffer l.told c.in_err-ran.field-0.0 c.requires.slots c.loop-i-test.true c.index-subtables-i.is l.invariant.same l.invariant.within.settings.max_len
    c.in_err-ran.ensures.reason)
