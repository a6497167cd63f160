use Rattle.std.proofs.Common.{◌≡◌, ◌+◌, ◌<◌, ◌∙◌, ℕ, List, Option, Some, true, length, refl, subst, sym, ap, arith}
use Rattle.std.specs.Prelude.{slice_get}
use Rattle.std.proofs.lemmas.Option.{slice_get_read}
use Rattle.aat_lookup.specs.Truth.{is_some_and}
use Rattle.aat_machine_tables.specs.declared.morx.ChainFeature.{ChainFeature}
use Rattle.aat_machine_tables.specs.declared.morx.Subtable.{Subtable}
use Rattle.aat_findings.specs.Chained.{is_unset, is_unset_at}
use Rattle.aat_findings.specs.Reached.{AreExactly}
use Rattle.aat_findings.proofs.Exactly.{exactly_more, exactly_none}
use Rattle.aat_findings.proofs.chains.unset_subtables.Goals as goal

pub loop-place-init : goal.loop-place-init
loop-place-init c = exactly_none (is_unset_at c.args.chain.now) c.new-places.result.items c.new-places.ensures.items

pub loop-place-preserved : goal.loop-place-preserved
loop-place-preserved c =
    let chain = c.args.chain.now in
    let place = c.loop-place.place in
    let subtable = c.index-subtables-place.result in
    let subtables = c.as_slice-subtables.result.now in
    let read : slice_get subtables place ≡ Some subtable = slice_get_read subtables (length subtables) place subtable refl c.loop-place-test.true c.index-subtables-place.is in
    let there : slice_get chain.subtables.items place ≡ Some subtable = ap (λ (l : List Subtable). slice_get l place) (sym c.as_slice-subtables.ensures.value) ∙ read in
    let test : is_unset_at chain place ≡ is_unset chain.default_flags chain.features.items subtable = ap (λ (o : Option Subtable). is_some_and o (is_unset chain.default_flags chain.features.items)) there in
    let answer : c.is_unset-unset.result ≡ is_unset chain.default_flags chain.features.items subtable = c.is_unset-unset.ensures ∙ ap (λ (l : List ChainFeature). is_unset chain.default_flags l subtable) c.as_slice-features.ensures.value in
    subst (λ (l : List ℕ). AreExactly (λ m. (m < place + 1) × (is_unset_at chain m ≡ true)) l) (sym c.in_ok-push_place.ensures) (exactly_more (is_unset_at chain) place c.loop-place.places.items c.is_unset-unset.result (test ∙ sym answer) c.loop-place.invariant)

pub returns : goal.returns
returns c =
    let long : length c.as_slice-subtables.result.now ≡ length c.args.chain.now.subtables.items = ap length c.as_slice-subtables.ensures.value in
    let all : c.loop-place.place ≡ length c.args.chain.now.subtables.items = omega (arith, long) in
    subst (λ (n : ℕ). AreExactly (λ s. (s < n) × (is_unset_at c.args.chain.now s ≡ true)) c.loop-place.places.items) all c.loop-place.invariant
