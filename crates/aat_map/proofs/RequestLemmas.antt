-- Requests added one after another.
use Rattle.std.proofs.Common.{◌≡◌, ◌∙◌, ap, sym, refl, ℕ, ◌+◌, ◌<◌, Bool, true, false, cond, List, [], ◌∷◌, ◌++◌, take, drop, length, get_or, arith, Option, Some, None, IsSome, is_some, find, option_map, filter_map, add-one, suc, not}
use Rattle.std.specs.List.{list_any, prefix_len}
use Rattle.std.proofs.Math.Bool.{or-true}
use Rattle.std.proofs.Math.Seq.{drop-cons}
use Rattle.std.proofs.lemmas.List.{take_more, append_assoc, append-nil}
use Rattle.std.proofs.lemmas.List.Elements.{filter_map-append}
use Rattle.aat_lookup.specs.declared.feat.FeatureName.{FeatureName}
use Rattle.aat_font.specs.declared.plan.Feature.{Feature}
use Rattle.aat_run.specs.declared.error.AatError.{AatError}
use Rattle.aat_run.specs.declared.error.AatError.TheVariants.{AaltValue, TooLong, OutOfMemory, BufferFailed}
use Rattle.aat_map.specs.declared.feature.feature_range_t.{feature_range_t}
use Rattle.aat_map.specs.declared.feature.feature_info_t.{feature_info_t}
use Rattle.aat_map.specs.Builder.{Builder, builder_with, with_request}
use Rattle.aat_map.specs.Requests.{is_too_large, request_of, requests_of, addition}
use Rattle.aat_map.specs.Adding.{RefusesFeature, RefusesFeatures, before_too_large}

-- any feature: it is never read
abbrev pub no_feature : Feature
no_feature = record { tag = record { 0 = 0 }; value = 0; start = 0; end = 0 }

-- a search, one step
pub find_step : (p : Feature → Bool) (xs : List Feature) (i : ℕ) (d : Feature) → i < length xs → find p (drop i xs) ≡ cond (p (get_or xs i d)) (Some (get_or xs i d)) (find p (drop (i + 1) xs))
find_step p xs i d below = rw (add-one, drop-cons xs i d below) refl

added_one : (rs : List feature_range_t) (o : Option feature_range_t) → with_request (builder_with rs) o ≡ builder_with (rs ++ filter_map (λ x. x) (o ∷ []))
added_one rs None = ap builder_with (sym (append-nil rs))
added_one rs (Some r) = refl

one_request : (names : Option (List FeatureName)) (f : Feature) → requests_of names (f ∷ []) ≡ filter_map (λ x. x) (request_of names f ∷ [])
one_request names f = by_answer (request_of names f) refl
  where
    by_answer : (o : Option feature_range_t) → request_of names f ≡ o → requests_of names (f ∷ []) ≡ filter_map (λ x. x) (o ∷ [])
    by_answer None e = rw e refl
    by_answer (Some r) e = rw e refl

-- a request more, if the feature at place i makes one
pub requests_more : (names : Option (List FeatureName)) (xs : List Feature) (i : ℕ) (d : Feature) → i < length xs → with_request (builder_with (requests_of names (take i xs))) (request_of names (get_or xs i d)) ≡ builder_with (requests_of names (take (i + 1) xs))
requests_more names xs i d below =
    added_one (requests_of names (take i xs)) (request_of names (get_or xs i d))
    ∙ ap (λ fs. builder_with (requests_of names (take i xs) ++ fs)) (sym (one_request names (get_or xs i d)))
    ∙ ap builder_with (sym (filter_map-append (request_of names) (take i xs) (get_or xs i d ∷ [])))
    ∙ ap (λ fs. builder_with (requests_of names fs)) (sym (take_more xs i d below))

-- and the builder that it was added to
pub added_more : (b new : Builder) (names : Option (List FeatureName)) (xs : List Feature) (i : ℕ) (d : Feature) → i < length xs → b ≡ builder_with (requests_of names (take i xs)) → new ≡ with_request b (request_of names (get_or xs i d)) → new ≡ builder_with (requests_of names (take (i + 1) xs))
added_more b new names xs i d below so_far added =
    added ∙ ap (λ (t : Builder). with_request t (request_of names (get_or xs i d))) so_far ∙ requests_more names xs i d below

asks : (names : Option (List FeatureName)) (f : Feature) (o : Option feature_info_t) → (addition names f).appended ≡ o → IsSome o → is_some (request_of names f) ≡ true
asks names f None e h = cc
asks names f (Some info) e h = rw e refl

one_more : (n : ℕ) → 1 + n ≡ suc n
one_more n = omega arith

-- what comes before the first that is too large, one step
passed_step : (names : Option (List FeatureName)) (xs : List Feature) (i : ℕ) (d : Feature) → i < length xs → is_too_large names (get_or xs i d) ≡ false → before_too_large names (drop i xs) ≡ get_or xs i d ∷ before_too_large names (drop (i + 1) xs)
passed_step names xs i d below fits = rw (add-one, drop-cons xs i d below, fits) (ap (λ n. take n (get_or xs i d ∷ drop (suc i) xs)) (one_more (prefix_len (λ f. not (is_too_large names f)) (drop (suc i) xs))))

-- a feature more that is not too large
pub passed_more : (names : Option (List FeatureName)) (xs : List Feature) (i : ℕ) (d : Feature) → i < length xs → is_too_large names (get_or xs i d) ≡ false → before_too_large names xs ≡ take i xs ++ before_too_large names (drop i xs) → before_too_large names xs ≡ take (i + 1) xs ++ before_too_large names (drop (i + 1) xs)
passed_more names xs i d below fits was =
    was
    ∙ ap (λ ys. take i xs ++ ys) (passed_step names xs i d below fits)
    ∙ sym (append_assoc (take i xs) (get_or xs i d ∷ []) (before_too_large names (drop (i + 1) xs)))
    ∙ ap (λ ys. ys ++ before_too_large names (drop (i + 1) xs)) (sym (take_more xs i d below))

any_between : (q : Feature → Bool) (before rest : List Feature) (x : Feature) → q x ≡ true → list_any q (before ++ x ∷ rest) ≡ true
any_between q [] rest x h = rw h refl
any_between q (a ∷ before) rest x h = rw (any_between q before rest x h) (or-true (q a))

-- a refused feature is one of the features
pub refused_lifted : (names : Option (List FeatureName)) (xs : List Feature) (i : ℕ) (d : Feature) (e : AatError) → i < length xs → find (is_too_large names) (drop i xs) ≡ find (is_too_large names) xs → before_too_large names xs ≡ take i xs ++ before_too_large names (drop i xs) → RefusesFeature names (get_or xs i d) e → RefusesFeatures names xs e
refused_lifted names xs i d (AaltValue v) below same passed refused =
    ap (option_map (λ f. f.value)) (sym same ∙ find_step (is_too_large names) xs i d below ∙ ap (λ b. cond b (Some (get_or xs i d)) (find (is_too_large names) (drop (i + 1) xs))) refused.0) ∙ ap Some (sym refused.1)
refused_lifted names xs i d OutOfMemory below same passed refused =
    ap (list_any (λ f. is_some (request_of names f))) (passed ∙ ap (λ ys. take i xs ++ ys) (passed_step names xs i d below refused.0))
    ∙ any_between (λ f. is_some (request_of names f)) (take i xs) (before_too_large names (drop (i + 1) xs)) (get_or xs i d) (asks names (get_or xs i d) (addition names (get_or xs i d)).appended refl refused.1)
refused_lifted names xs i d TooLong below same passed refused = absurd refused
refused_lifted names xs i d BufferFailed below same passed refused = absurd refused
