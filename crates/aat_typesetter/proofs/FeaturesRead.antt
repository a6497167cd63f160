-- The features of a list, read one by one.
use Rattle.std.proofs.Common.{◌≡◌, ℕ, ◌+◌, ◌<◌, List, [], ◌∷◌, ◌++◌, length, get_or, drop, map, refl, sym, ap, ◌∙◌, append_assoc}
use Rattle.std.specs.Prelude.{Result, Ok, Err}
use Rattle.std.proofs.lemmas.List.{drop_more}
use Rattle.aat_layout.specs.features.Reading.{feature_of}
use Rattle.aat_layout.specs.declared.features.error.FeatureError.{FeatureError}
use Rattle.aat_font.specs.declared.plan.Feature.{Feature}
use Rattle.aat_typesetter.specs.FeatureLists.{features_from, with_feature}
use Rattle.aat_typesetter.specs.declared.error.FeatureListError.{FeatureListError}
use Rattle.aat_typesetter.specs.declared.error.FeatureListError.TheVariants.{NoFeature}

-- features before others, unless these are refused
abbrev pub behind : List Feature → Result (List Feature) FeatureListError → Result (List Feature) FeatureListError
behind done (Ok features) = Ok (done ++ features)
behind done (Err error) = Err error

behind_more :
    (done : List Feature) (n : ℕ) (feature : Feature) (others : Result (List Feature) FeatureListError)
    → behind (done ++ feature ∷ []) others ≡ behind done (with_feature n (Ok feature) others)
behind_more done n feature (Ok features) = ap Ok (append_assoc done (feature ∷ []) features)
behind_more done n feature (Err error) = refl

module _ {T : Type 0} (bytes : T → List ℕ) where
  -- what is left of texts from a number on
  abbrev pub left_from : ℕ → List T → Result (List Feature) FeatureListError
  left_from n texts = features_from n (map bytes (drop n texts))

  opened : (n : ℕ) (texts : List T) (d : T) → n < length texts
      → left_from n texts ≡ with_feature n (feature_of (bytes (get_or texts n d))) (left_from (n + 1) texts)
  opened n texts d low = ap (λ ts. features_from n (map bytes ts)) (drop_more texts n d low)

  -- one feature more
  pub feature_more : (texts : List T) (n : ℕ) (text : T) (done made : List Feature) (feature : Feature)
      (all : Result (List Feature) FeatureListError) → n < length texts → text ≡ get_or texts n text
      → Ok feature ≡ feature_of (bytes text) → made ≡ done ++ feature ∷ []
      → behind done (left_from n texts) ≡ all → behind made (left_from (n + 1) texts) ≡ all
  feature_more texts n text done made feature all low here is put held =
      let read : Ok feature ≡ feature_of (bytes (get_or texts n text)) = is ∙ ap (λ t. feature_of (bytes t)) here in
      ap (λ fs. behind fs (left_from (n + 1) texts)) put
      ∙ (behind_more done n feature (left_from (n + 1) texts)
      ∙ (ap (λ r. behind done (with_feature n r (left_from (n + 1) texts))) read
      ∙ (ap (behind done) (sym (opened n texts text low)) ∙ held)))

  -- the first text that is no feature
  pub feature_refused : (texts : List T) (n : ℕ) (text : T) (done : List Feature) (error : FeatureError)
      (all : Result (List Feature) FeatureListError) → n < length texts → text ≡ get_or texts n text
      → Err error ≡ feature_of (bytes text)
      → behind done (left_from n texts) ≡ all → all ≡ Err (NoFeature n error)
  feature_refused texts n text done error all low here is held =
      let read : Err error ≡ feature_of (bytes (get_or texts n text)) = is ∙ ap (λ t. feature_of (bytes t)) here in
      sym held ∙ (ap (behind done) (opened n texts text low)
      ∙ ap (λ r. behind done (with_feature n r (left_from (n + 1) texts))) (sym read))
