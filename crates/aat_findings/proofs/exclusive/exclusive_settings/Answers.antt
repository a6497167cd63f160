use Rattle.std.proofs.Common.{◌≡◌, ◌+◌, ◌<◌, ◌∙◌, ℕ, List, Option, Some, true, take, get_or, subst, sym, ap}
use Rattle.std.specs.Prelude.{slice_get}
use Rattle.std.proofs.lemmas.Option.{slice_get-get_or}
use Rattle.aat_lookup.specs.Truth.{is_some_and}
use Rattle.aat_machine_tables.specs.declared.morx.ChainFeature.{ChainFeature}
use Rattle.aat_findings.specs.Chained.{clashes_with, is_clash_at}
use Rattle.aat_findings.specs.Reached.{AreExactly}
use Rattle.aat_findings.proofs.Exactly.{exactly_more}
use Rattle.aat_findings.proofs.exclusive.exclusive_settings.Goals as goal

pub loop-place-preserved : goal.loop-place-preserved
loop-place-preserved c =
    let names = c.args.feat.now in
    let flags = c.args.default_flags in
    let features = c.args.features.now in
    let place = c.loop-place.place in
    let none : ChainFeature = record { kind = 0; setting = 0; enable_flags = 0; disable_flags = 0 } in
    let before = take place features in
    let there : slice_get features place ≡ Some (get_or features place none) = slice_get-get_or features place none c.loop-place-test.true in
    let test : is_clash_at names flags features place ≡ clashes_with names flags before (get_or features place none) = ap (λ (o : Option ChainFeature). is_some_and o (clashes_with names flags before)) there in
    subst (λ (l : List ℕ). AreExactly (λ m. (m < place + 1) × (is_clash_at names flags features m ≡ true)) l) (sym c.in_ok-push_place.ensures) (exactly_more (is_clash_at names flags features) place c.loop-place.places.items c.clashes_with-clash.result (test ∙ sym c.clashes_with-clash.ensures) c.loop-place.invariant)
