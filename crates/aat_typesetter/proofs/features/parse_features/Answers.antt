use Rattle.std.proofs.Common.{◌<◌, ◌∙◌, arith, length, sym}
use Rattle.aat_typesetter.proofs.FeaturesRead.{feature_more, feature_refused}
use Rattle.aat_typesetter.proofs.features.parse_features.Goals as goal

pub returns-in-Err-clause-refused : goal.returns-in-Err-clause-refused
returns-in-Err-clause-refused g c =
    let low : c.loop-number.number < length c.in_ok-texts.texts.items = omega arith in
    feature_refused (λ text. text.now) c.in_ok-texts.texts.items c.loop-number.number c.index.result.now c.loop-number.features.items
    c.in-Err.error _ low c.index.ensures (sym c.in-Err.is ∙ c.parse_feature.ensures) c.loop-number.invariant

pub loop-number-preserved : goal.loop-number-preserved
loop-number-preserved g c =
    let low : c.loop-number.number < length c.in_ok-texts.texts.items = omega arith in
    feature_more (λ text. text.now) c.in_ok-texts.texts.items c.loop-number.number c.index.result.now c.loop-number.features.items
    _ c.in-Ok.feature _ low c.index.ensures (sym c.in-Ok.is ∙ c.parse_feature.ensures) c.in_ok-push-in-Ok.ensures.items
    c.loop-number.invariant
