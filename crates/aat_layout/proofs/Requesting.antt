-- A plan of which requests come, and of which no feature is too large, makes a request.
use Rattle.std.proofs.Common.{◌≡◌, ◌∙◌, ap, ℕ, suc, ◌+◌, ◌==◌, ◌||◌, Bool, true, false, not, cond, List, [], ◌∷◌, take, length, arith, Option, Some, None, is_some, find, option_map}
use Rattle.std.specs.List.{list_any, prefix_len, cons_option}
use Rattle.aat_font.specs.Face.{tables_of}
use Rattle.aat_font.specs.declared.face.hb_font_t.{hb_font_t}
use Rattle.aat_lookup.specs.declared.feat.FeatureName.{FeatureName}
use Rattle.aat_font.specs.declared.plan.Feature.{Feature}
use Rattle.aat_font.specs.declared.plan.hb_ot_shape_plan_t.{hb_ot_shape_plan_t}
use Rattle.aat_layout.specs.Refusals.{first_too_large, wants_memory}
use Rattle.aat_map.specs.Adding.{before_too_large}
use Rattle.aat_map.specs.Requests.{is_too_large, request_of, requests_of}
use Rattle.aat_map.specs.SwitchedChains.{plan_requests}
use Rattle.aat_map.specs.declared.feature.feature_range_t.{feature_range_t}

module _ (names : Option (List FeatureName)) where
  one_more : (n : ℕ) → 1 + n ≡ suc n
  one_more n = omega arith

  -- where none is too large all come before the first that is
  before_step :
      (b : Bool) (f : Feature) (fs : List Feature) (n : ℕ) (found : Option Feature) → cond b (Some f) found ≡ None
      → (found ≡ None → take n fs ≡ fs) → take (cond (not b) (1 + n) 0) (f ∷ fs) ≡ f ∷ fs
  before_step true f fs n found h rest = cc
  before_step false f fs n found h rest = rw (one_more n) (ap (λ gs. f ∷ gs) (rest h))

  all_before : (fs : List Feature) → find (is_too_large names) fs ≡ None → before_too_large names fs ≡ fs
  all_before [] h = cc
  all_before (f ∷ fs) h =
      before_step (is_too_large names f) f fs (prefix_len (λ g. not (is_too_large names g)) fs) (find (is_too_large names) fs) h
      (all_before fs)

  -- a feature makes each request
  made_step :
      (o : Option feature_range_t) (made : List feature_range_t) (b : Bool) → (length (cons_option o made) == 0) ≡ false
      → ((length made == 0) ≡ false → b ≡ true) → (is_some o || b) ≡ true
  made_step None made b h rest = rest h
  made_step (Some r) made b h rest = cc

  some_made :
      (fs : List Feature) → (length (requests_of names fs) == 0) ≡ false
      → list_any (λ f. is_some (request_of names f)) fs ≡ true
  some_made [] h = cc
  some_made (f ∷ fs) h =
      made_step (request_of names f) (requests_of names fs) (list_any (λ g. is_some (request_of names g)) fs) h (some_made fs)

none_found : (o : Option Feature) → option_map (λ f. f.value) o ≡ None → o ≡ None
none_found None h = cc
none_found (Some f) h = cc

pub requests_are_made :
    (plan : hb_ot_shape_plan_t) (face : hb_font_t) (requests : List feature_range_t) → requests ≡ plan_requests plan face
    → first_too_large plan face ≡ None → (length requests == 0) ≡ false → wants_memory plan face ≡ true
requests_are_made plan face requests are fits some =
    let names = (tables_of face).feat in
    let fs = plan.user_features.items in
    let made : (length (requests_of names fs) == 0) ≡ false = rw are at some in
    ap (list_any (λ f. is_some (request_of names f))) (all_before names fs (none_found (find (is_too_large names) fs) fits))
    ∙ some_made names fs made
