use Rattle.std.proofs.Common.{◌≡◌, ◌&&◌, take}
use Rattle.aat_shaped_text.specs.TextFeatures.{holds, is_kern, is_last_on}
use Rattle.aat_shaped_text.proofs.features.is_kerned_at.Given as goal

abbrev pub invariant-loop-feature : goal.invariant-loop-feature
invariant-loop-feature l =
    l.on ≡ is_last_on (λ f. is_kern f && holds l.fn.cluster f) (take l.feature-index l.fn.features)
