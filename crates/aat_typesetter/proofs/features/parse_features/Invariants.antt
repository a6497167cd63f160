use Rattle.std.proofs.Common.{◌≡◌}
use Rattle.aat_typesetter.specs.FeatureLists.{features_of}
use Rattle.aat_typesetter.proofs.FeaturesRead.{behind, left_from}
use Rattle.aat_typesetter.proofs.features.parse_features.Given as goal

abbrev pub invariant-loop-number : goal.invariant-loop-number
invariant-loop-number g l =
    behind l.features.items (left_from (λ text. text.now) l.number l.texts.items) ≡ features_of l.fn.list
