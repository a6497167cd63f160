use Rattle.std.proofs.Common.{length, List, refl, subst}
use Rattle.std.proofs.lemmas.List.{take_all}
use Rattle.std.proofs.lemmas.List.Elements.{All-more}
use Rattle.std.proofs.lemmas.Option.{slice_get_read}
use Rattle.aat_machine_tables.specs.declared.morx.Subtable.{Subtable}
use Rattle.aat_cuts.specs.Fonts.{AreSettled}
use Rattle.aat_cuts.specs.Kinds.{IsSettled}
use Rattle.aat_cuts.proofs.Verdicts.{settled_of}
use Rattle.aat_cuts.proofs.font.find_in_chain.Goals as goal

pub loop-place-preserved : goal.loop-place-preserved
loop-place-preserved c =
    let subtable = c.index-subtables-place.result in
    let settled = settled_of subtable.kind (rw c.in_default.is at c.in_ok-found.ensures) in
    All-more (λ s. IsSettled s.kind) c.args.subtables.now c.loop-place.place subtable c.loop-place-test.true c.loop-place.invariant (subst (λ (s : Subtable). IsSettled s.kind) c.index-subtables-place.is settled)

pub returns-in-Some-clause-some : goal.returns-in-Some-clause-some
returns-in-Some-clause-some c =
    let subtables = c.args.subtables.now in
    let subtable = c.index-subtables-place.result in
    (subtable, slice_get_read subtables (length subtables) c.loop-place.place subtable refl c.loop-place-test.true c.index-subtables-place.is, rw c.in-Some.is at c.in_ok-found.ensures, c.loop-place.invariant)

pub returns-clause-none : goal.returns-clause-none
returns-clause-none c =
    subst (λ (xs : List Subtable). AreSettled xs) (take_all c.loop-place.place c.args.subtables.now c.loop-place-test.false) c.loop-place.invariant
