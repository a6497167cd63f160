-- The clusters at which ranges begin.
use Rattle.std.proofs.Common.{◌≡◌, ◌∙◌, ap, sym, refl, ℕ, Bool, true, false, not, ◌&&◌, ◌||◌, cond, eqb, ◌==◌, nat_le, List, [], ◌∷◌, ◌++◌, filter, fold, arith, IsPermutation, IsSorted}
use Rattle.std.proofs.Math.Bool.{or-false, and-false, and-true}
use Rattle.std.specs.List.{list_any, dedup, dedup_from}
use Rattle.std.specs.Ordering.{nat_cmp}
use Rattle.std.proofs.lemmas.List.Folds.{list_any-append}
use Rattle.std.proofs.lemmas.List.Sorted.{list_any-IsPermutation}
use Rattle.std.proofs.lemmas.Map.Keys.{IsStrictlyIncreasing-dedup}
use Rattle.std.proofs.lemmas.Map.Views.{any-filter_same}
use Rattle.std.proofs.lemmas.Bool.Decides.{nat_tests}
use Rattle.aat_map.specs.declared.feature.feature_range_t.{feature_range_t}
use Rattle.aat_map.specs.Live.{is_edge, cuts_at, admitted, placed_by_start, by_start}
use Rattle.aat_map.specs.Map.{AreStarts}
use Rattle.aat_map.specs.inside.Collected.{with_cut, with_starts, with_ends, starts_at, ends_at, AreCollected}
use Rattle.aat_map.specs.inside.Walked.{ends_within}

-- a cluster more is the one that is looked for, or another
cut_step :
    (b : Bool) (xs : List ℕ) (y x : ℕ)
    → list_any (λ s. s == x) (cond b xs (xs ++ y ∷ [])) ≡ (list_any (λ s. s == x) xs || ((y == x) && not b))
cut_step true xs y x = sym (ap (λ b. list_any (λ s. s == x) xs || b) (and-false (y == x)) ∙ or-false _)
cut_step false xs y x = list_any-append (λ s. s == x) xs (y ∷ []) ∙ ap (λ b. list_any (λ s. s == x) xs || b) (or-false (y == x) ∙ sym (and-true (y == x)))

-- whether a cluster is an end of the text may be asked of either of two that are equal
same_edge : (b : Bool) (y x : ℕ) → (y == x) ≡ b → (b && not (is_edge y)) ≡ (b && not (is_edge x))
same_edge true y x e = let same : y ≡ x = grind (arith, nat_tests, e) in ap (λ z. not (is_edge z)) same
same_edge false y x e = refl

one_step : (l a b : Bool) → ((l || a) || b) ≡ (l || (a || b))
one_step true a b = refl
one_step false a b = refl

-- what was collected, of starts and of ends
collected_starts :
    (x : ℕ) (xs : List ℕ) (rs : List feature_range_t)
    → list_any (λ s. s == x) (with_starts xs rs) ≡ (list_any (λ s. s == x) xs || list_any (starts_at x) rs)
collected_starts x xs [] = sym (or-false _)
collected_starts x xs (r ∷ rs) =
    let l = list_any (λ s. s == x) xs in
    collected_starts x (with_cut xs r.start) rs
    ∙ ap (λ b. b || list_any (starts_at x) rs)
    (cut_step (is_edge r.start) xs r.start x ∙ ap (λ b. l || b) (same_edge (r.start == x) r.start x refl))
    ∙ one_step l (starts_at x r) (list_any (starts_at x) rs)

collected_ends :
    (x : ℕ) (xs : List ℕ) (rs : List feature_range_t)
    → list_any (λ s. s == x) (with_ends xs rs) ≡ (list_any (λ s. s == x) xs || list_any (ends_at x) rs)
collected_ends x xs [] = sym (or-false _)
collected_ends x xs (r ∷ rs) =
    let l = list_any (λ s. s == x) xs in
    collected_ends x (with_cut xs r.end) rs
    ∙ ap (λ b. b || list_any (ends_at x) rs)
    (cut_step (is_edge r.end) xs r.end x ∙ ap (λ b. l || b) (same_edge (r.end == x) r.end x refl))
    ∙ one_step l (ends_at x r) (list_any (ends_at x) rs)

twice : (b c : Bool) → (b || c) ≡ (b || (b || c))
twice true c = refl
twice false c = refl

dedup_step :
    (b : Bool) (x k y : ℕ) (ds es ys : List ℕ) → eqb y k ≡ b
    → list_any (λ s. s == x) ds ≡ ((k == x) || list_any (λ s. s == x) ys)
    → list_any (λ s. s == x) es ≡ ((y == x) || list_any (λ s. s == x) ys)
    → list_any (λ s. s == x) (cond b ds (k ∷ es)) ≡ ((k == x) || ((y == x) || list_any (λ s. s == x) ys))
dedup_step true x k y ds es ys e d h =
    let same : k ≡ y = grind (arith, nat_tests, e) in
    d ∙ twice (k == x) _ ∙ ap (λ z. (k == x) || ((z == x) || list_any (λ s. s == x) ys)) same
dedup_step false x k y ds es ys e d h = ap (λ b. (k == x) || b) h

any_dedup :
    (x k : ℕ) (xs : List ℕ)
    → list_any (λ s. s == x) (dedup_from eqb k xs) ≡ ((k == x) || list_any (λ s. s == x) xs)
any_dedup x k [] = refl
any_dedup x k (y ∷ ys) = dedup_step (eqb y k) x k y (dedup_from eqb k ys) (dedup_from eqb y ys) ys refl (any_dedup x k ys) (any_dedup x y ys)

deduped : (x : ℕ) (xs : List ℕ) → list_any (λ s. s == x) (dedup eqb xs) ≡ list_any (λ s. s == x) xs
deduped x [] = refl
deduped x (y ∷ ys) = any_dedup x y ys

zero_or : (x : ℕ) (b : Bool) → (((0 == x) || false) || b) ≡ ((x == 0) || b)
zero_or x b = ap (λ c. c || b) (or-false (0 == x) ∙ turned x)
  where
    turned : (y : ℕ) → (0 == y) ≡ (y == 0)
    turned y = grind (arith, nat_tests)

-- what was collected, sorted, with each number once
pub starts_made :
    (ordered ending : List feature_range_t) (ys : List ℕ)
    → IsPermutation (with_ends (with_starts (0 ∷ []) ordered) ending) ys → IsSorted nat_cmp ys
    → AreCollected ordered ending (dedup eqb ys)
starts_made ordered ending ys moved sorted = record {
  rising = IsStrictlyIncreasing-dedup ys sorted;
  exact = λ x.
      deduped x ys
      ∙ sym (list_any-IsPermutation (λ s. s == x) _ ys moved)
      ∙ collected_ends x (with_starts (0 ∷ []) ordered) ending
      ∙ ap (λ b. b || list_any (ends_at x) ending) (collected_starts x (0 ∷ []) ordered ∙ zero_or x (list_any (starts_at x) ordered))
      ∙ one_step (x == 0) (list_any (starts_at x) ordered) (list_any (ends_at x) ending);
}

-- one that ends at x, which is no end of the text, ends within the text
ends_inside : (x : ℕ) (r : feature_range_t) → ends_at x r ≡ true → ends_within r ≡ true
ends_inside x r h = grind (arith, nat_tests, h)

regrouped : (a c n p q : Bool) → (((a && n) || p) || ((c && n) || q)) ≡ (((a || c) && n) || (p || q))
regrouped true true true p q = refl
regrouped true false true p q = refl
regrouped false true true true q = refl
regrouped false true true false q = refl
regrouped false false true p q = refl
regrouped true c false p q = ap (λ b. p || (b || q)) (and-false c)
regrouped false c false p q =
    ap (λ b. p || (b || q)) (and-false c) ∙ sym (ap (λ b. b || (p || q)) (and-false c))

both_ways :
    (x : ℕ) (rs : List feature_range_t)
    → (list_any (starts_at x) rs || list_any (ends_at x) rs) ≡ list_any (cuts_at x) rs
both_ways x [] = refl
both_ways x (r ∷ rs) =
    regrouped (r.start == x) (r.end == x) (not (is_edge x)) (list_any (starts_at x) rs) (list_any (ends_at x) rs)
    ∙ ap (λ b. cuts_at x r || b) (both_ways x rs)

-- requests by start are those that were put there
put_step :
    (b : Bool) (t : feature_range_t → Bool) (q r : feature_range_t) (qs ps : List feature_range_t)
    → list_any t ps ≡ (list_any t qs || t r)
    → list_any t (cond b (q ∷ ps) (r ∷ (q ∷ qs))) ≡ ((t q || list_any t qs) || t r)
put_step true t q r qs ps h = ap (λ b. t q || b) h ∙ sym (one_step (t q) (list_any t qs) (t r))
put_step false t q r qs ps h = turned (t r) (t q || list_any t qs)
  where
    turned : (a b : Bool) → (a || b) ≡ (b || a)
    turned true true = refl
    turned true false = refl
    turned false true = refl
    turned false false = refl

any_placed :
    (t : feature_range_t → Bool) (qs : List feature_range_t) (r : feature_range_t)
    → list_any t (placed_by_start qs r) ≡ (list_any t qs || t r)
any_placed t [] r = or-false (t r)
any_placed t (q ∷ qs) r = put_step (nat_le q.start r.start) t q r qs (placed_by_start qs r) (any_placed t qs r)

pub any_ordered :
    (t : feature_range_t → Bool) (qs rs : List feature_range_t)
    → list_any t (fold placed_by_start qs rs) ≡ (list_any t qs || list_any t rs)
any_ordered t qs [] = sym (or-false _)
any_ordered t qs (r ∷ rs) =
    any_ordered t (placed_by_start qs r) rs
    ∙ ap (λ b. b || list_any t rs) (any_placed t qs r)
    ∙ one_step (list_any t qs) (t r) (list_any t rs)

-- from the requests by start, and those by end that end within the text, the starts of all ranges are collected
pub starts_of_requests :
    (requests ordered ending : List feature_range_t) (starts : List ℕ) → ordered ≡ by_start requests
    → IsPermutation (filter ends_within ordered) ending → AreCollected ordered ending starts
    → AreStarts requests starts
starts_of_requests requests ordered ending starts is moved made = record {
  rising = made.rising;
  exact = λ x.
      made.exact x
      ∙ ap (λ b. (x == 0) || (list_any (starts_at x) ordered || b))
      (sym (list_any-IsPermutation (ends_at x) _ ending moved) ∙ any-filter_same (ends_at x) ends_within true (ends_inside x) ordered)
      ∙ ap (λ b. (x == 0) || b) (both_ways x ordered ∙ ap (list_any (cuts_at x)) is ∙ any_ordered (cuts_at x) [] (admitted requests));
}
