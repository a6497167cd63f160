-- Why features are refused. Apple's TrueType Reference Manual, "The 'feat' table", feature registry.
use Rattle.std.specs.Prelude.{◌≡◌, ℕ, not, is_some, take_while, Bool, true, false, List, Option, Some, IsSome, IsTrue, find, option_map}
use Rattle.std.specs.List.{list_any}
use Rattle.aat_map.specs.Requests.{addition, is_too_large, request_of}
use Rattle.aat_lookup.specs.declared.feat.FeatureName.{FeatureName}
use Rattle.aat_font.specs.declared.plan.Feature.{Feature}
use Rattle.aat_run.specs.declared.error.AatError.{AatError}
use Rattle.aat_run.specs.declared.error.AatError.TheVariants.{AaltValue, TooLong, OutOfMemory, BufferFailed}

-- a value of alternates that is no setting, which is looked for first, and want of memory only where
-- something would be appended
abbrev pub RefusesFeature : Option (List FeatureName) → Feature → AatError → Type 0
RefusesFeature names f (AaltValue value) = (is_too_large names f ≡ true) × (value ≡ f.value)
RefusesFeature names f OutOfMemory = (is_too_large names f ≡ false) × IsSome (addition names f).appended
RefusesFeature names f TooLong = ⊥
RefusesFeature names f BufferFailed = ⊥

-- the value of the first feature that asks for alternates with a value that is no setting
abbrev pub first_too_large_among : Option (List FeatureName) → List Feature → Option ℕ
first_too_large_among names features = option_map (λ f. f.value) (find (is_too_large names) features)

-- the features before the first that is too large
abbrev pub before_too_large : Option (List FeatureName) → List Feature → List Feature
before_too_large names features = take_while (λ f. not (is_too_large names f)) features

-- some feature makes a request, before any that is too large
abbrev pub makes_request : Option (List FeatureName) → List Feature → Bool
makes_request names features = list_any (λ f. is_some (request_of names f)) (before_too_large names features)

-- why features are refused: the first that is too large, or want of memory where one before it makes a request
abbrev pub RefusesFeatures : Option (List FeatureName) → List Feature → AatError → Type 0
RefusesFeatures names features (AaltValue value) = first_too_large_among names features ≡ Some value
RefusesFeatures names features TooLong = ⊥
RefusesFeatures names features OutOfMemory = IsTrue (makes_request names features)
RefusesFeatures names features BufferFailed = ⊥
