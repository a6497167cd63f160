-- How many settings features have, and how many bytes these take.
use Rattle.std.proofs.Common.{◌≡◌, ◌∙◌, sym, ap, refl, ℕ, ◌+◌, ◌*◌, ◌<◌, ◌≤◌, List, [], ◌∷◌, length, get_or, drop, arith}
use Rattle.std.specs.List.{flat_map}
use Rattle.std.specs.Prelude.{sum_by}
use Rattle.std.proofs.lemmas.List.{length-append}
use Rattle.std.proofs.lemmas.List.Sums.{get_or-le-sum_by, sum_by-cons, sum_by-drop_more}
use Rattle.aat_write_sfnt.specs.NamedFeatures.{FeatFeature, all_setting_bytes, setting_bytes, setting_count, setting_words}
use Rattle.aat_write_sfnt.specs.declared.feat.NamedSetting.{NamedSetting}
use Rattle.aat_write_machine.specs.facts.WordPlaces.{length_words}

-- two words for each setting
pub two_each : (settings : List NamedSetting) → length (flat_map setting_words settings) ≡ 2 * length settings
two_each [] = refl
two_each (setting ∷ settings) = omega (arith, two_each settings)

-- four bytes for each setting
pub four_each : (feature : FeatFeature) → length (setting_bytes feature) ≡ 4 * setting_count feature
four_each feature = length_words (flat_map setting_words feature.settings) ∙ omega (arith, two_each feature.settings)

-- so for those of all features
pub four_all : (features : List FeatFeature) → length (all_setting_bytes features) ≡ 4 * sum_by setting_count features
four_all [] = refl
four_all (feature ∷ features) =
    length-append (setting_bytes feature) (all_setting_bytes features)
    ∙ omega (arith, four_each feature, four_all features, sum_by-cons setting_count feature features)

-- a feature has no more settings than all have
pub count_few :
    (features : List FeatFeature) (i : ℕ) (feature : FeatFeature)
    → i < length features
    → get_or features i feature ≡ feature
    → sum_by setting_count features ≤ 65535
    → setting_count feature ≤ 65535
count_few features i feature below at few =
    omega (arith, get_or-le-sum_by setting_count features i feature below, ap setting_count at, few)

-- its settings are the first of those that remain
pub count_remains :
    (features : List FeatFeature) (i : ℕ) (feature : FeatFeature)
    → i < length features
    → get_or features i feature ≡ feature
    → setting_count feature + sum_by setting_count (drop (i + 1) features) ≡ sum_by setting_count (drop i features)
count_remains features i feature below at =
    ap (λ (n : ℕ). n + sum_by setting_count (drop (i + 1) features)) (sym (ap setting_count at))
    ∙ sym (sum_by-drop_more setting_count features i feature below)
