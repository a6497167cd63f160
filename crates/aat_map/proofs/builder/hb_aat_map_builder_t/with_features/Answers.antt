use Rattle.std.proofs.Common.{◌∙◌, ap, sym, cond, Some, find, drop, get_or, ◌+◌, Bool}
use Rattle.std.proofs.lemmas.Result.{err_from_is_err_and}
use Rattle.aat_font.specs.Face.{tables_of}
use Rattle.aat_map.specs.Requests.{is_too_large}
use Rattle.aat_map.proofs.RequestLemmas.{find_step, added_more, refused_lifted, passed_more, no_feature}
use Rattle.aat_map.proofs.builder.hb_aat_map_builder_t.with_features.Goals as goal

pub returns-in_err-add_feature-clause-refused : goal.returns-in_err-add_feature-clause-refused
returns-in_err-add_feature-clause-refused g c =
    let p = err_from_is_err_and c.from_residual.result c.from_residual.ensures.1 in
    rw (p.1, p.2) (refused_lifted (tables_of c.args.face.now).feat c.args.features.now c.loop-feature.feature-index no_feature c.in_err-add_feature.field-0.0 c.loop-feature-test.true c.loop-feature.invariant.same c.loop-feature.invariant.passed c.in_err-add_feature.ensures.refused)

pub loop-feature-preserved : goal.loop-feature-preserved
loop-feature-preserved g c =
    let names = (tables_of c.args.face.now).feat in
    let features = c.args.features.now in
    let i = c.loop-feature.feature-index in
    record {
      added = added_more c.loop-feature.builder c.add_feature.new.self names features i no_feature c.loop-feature-test.true c.loop-feature.invariant.added c.in_ok-add_feature.ensures.ok;
      same =
          sym (ap (λ (b : Bool). cond b (Some (get_or features i no_feature)) (find (is_too_large names) (drop (i + 1) features))) c.in_ok-add_feature.ensures.fits)
          ∙ sym (find_step (is_too_large names) features i no_feature c.loop-feature-test.true)
          ∙ c.loop-feature.invariant.same;
      passed = passed_more names features i no_feature c.loop-feature-test.true c.in_ok-add_feature.ensures.fits c.loop-feature.invariant.passed;
    }
