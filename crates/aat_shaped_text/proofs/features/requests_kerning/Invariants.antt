use Rattle.std.proofs.Common.{◌≡◌, ◌&&◌, ◌||◌, take}
use Rattle.aat_shaped_text.specs.TextFeatures.{is_everywhere, is_kern, is_last_on, is_on}
use Rattle.aat_shaped_text.proofs.features.requests_kerning.Given as goal

abbrev pub invariant-loop-feature : goal.invariant-loop-feature
invariant-loop-feature l =
    l.on ≡ is_last_on (λ f. is_kern f && (is_on f || is_everywhere f)) (take l.feature-index l.fn.features)
