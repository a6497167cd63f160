use Rattle.std.proofs.Common.{length, List, refl, subst}
use Rattle.std.proofs.lemmas.List.{take_all}
use Rattle.std.proofs.lemmas.List.Elements.{All-more}
use Rattle.std.proofs.lemmas.Option.{slice_get_read}
use Rattle.aat_machine_tables.specs.declared.morx.Chain.{Chain}
use Rattle.aat_cuts.specs.Fonts.{AreAllSettled, AreSettled}
use Rattle.aat_cuts.proofs.font.find_in_chains.Goals as goal

pub loop-place-preserved : goal.loop-place-preserved
loop-place-preserved c =
    let chain = c.index-chains-place.result in
    let settled = rw (c.in_default.is, c.deref.ensures.value) at c.in_ok-found.ensures.none in
    All-more (λ x. AreSettled x.subtables.items) c.args.chains.now c.loop-place.place chain c.loop-place-test.true c.loop-place.invariant (subst (λ (x : Chain). AreSettled x.subtables.items) c.index-chains-place.is settled)

pub returns-in-Some-clause-some : goal.returns-in-Some-clause-some
returns-in-Some-clause-some c =
    let chains = c.args.chains.now in
    let chain = c.index-chains-place.result in
    let reason = rw (c.in-Some.is, c.deref.ensures.value) at c.in_ok-found.ensures.some in
    (chain, slice_get_read chains (length chains) c.loop-place.place chain refl c.loop-place-test.true c.index-chains-place.is, reason, c.loop-place.invariant)

pub returns-clause-none : goal.returns-clause-none
returns-clause-none c =
    subst (λ (xs : List Chain). AreAllSettled xs) (take_all c.loop-place.place c.args.chains.now c.loop-place-test.false) c.loop-place.invariant
