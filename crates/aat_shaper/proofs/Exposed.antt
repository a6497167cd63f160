-- Whether a font has one of two feature types.
use Rattle.std.proofs.Common.{◌≡◌, refl, ◌||◌, Option, Some, None}
use Rattle.std.specs.Prelude.{is_some}
use Rattle.aat_lookup.specs.declared.feat.FeatureName.{FeatureName}
use Rattle.aat_map.specs.Requests.{either_name}

pub either_is_some :
    (first second : Option FeatureName) → is_some (either_name first second) ≡ (is_some first || is_some second)
either_is_some None second = refl
either_is_some (Some n) second = refl
