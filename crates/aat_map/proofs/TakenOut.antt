-- Taking settings out of a list, in any order and with more behind.
use Rattle.std.proofs.Common.{◌≡◌, ◌∙◌, ap, sym, refl, ℕ, zero, suc, ◌<◌, Bool, true, false, cond, eqb, List, [], ◌∷◌, ◌++◌, set, filter, fold, length, get_or, arith, IsPermutation}
use Rattle.std.specs.List.{AllByRecursion}
use Rattle.std.proofs.lemmas.List.{append-nil, append_assoc}
use Rattle.std.proofs.lemmas.List.Edits.{swap_is}
use Rattle.std.proofs.lemmas.List.Sorted.{IsPermutation-keeps}
use Rattle.std.proofs.lemmas.Bool.Decides.{nat_tests}
use Rattle.aat_map.specs.declared.feature.feature_info_t.{feature_info_t}
use Rattle.aat_map.specs.declared.feature.feature_range_t.{feature_range_t}
use Rattle.aat_map.specs.Live.{infos, is_equal, without_earliest}
use Rattle.aat_map.proofs.Truth.{true_not_false}
use Rattle.aat_map.proofs.GatherLemmas.{same_bool_is, same_bool_self, both, both_made}

module _ {A B : Type 0} (f : B → A → B) (turns : (b : B) (x y : A) → f (f b x) y ≡ f (f b y) x) where
  -- the first changes places with another
  fold_first :
      (b : B) (x y d : A) (xs : List A) (k : ℕ) → k < length xs → get_or xs k d ≡ y
      → fold f b (y ∷ set xs k x) ≡ fold f b (x ∷ xs)
  fold_first b x y d [] k lt read = absurd (omega arith)
  fold_first b x y d (z ∷ zs) zero lt read =
      ap (λ a. fold f a zs) (turns b y x) ∙ ap (λ w. fold f (f (f b x) w) zs) (sym read)
  fold_first b x y d (z ∷ zs) (suc k) lt read =
      ap (λ a. fold f a (set zs k x)) (turns b y z)
      ∙ fold_first (f b z) x y d zs k (omega arith) read
      ∙ ap (λ a. fold f a zs) (turns b z x)

  -- so do any two
  fold_exchanged :
      (b : B) (d : A) (l : List A) (i j : ℕ) → i < length l → j < length l
      → fold f b (set (set l i (get_or l j d)) j (get_or l i d)) ≡ fold f b l
  fold_exchanged b d [] i j li lj = absurd (omega arith)
  fold_exchanged b d (x ∷ xs) zero zero li lj = refl
  fold_exchanged b d (x ∷ xs) zero (suc j) li lj = fold_first b x (get_or xs j d) d xs j (omega arith) refl
  fold_exchanged b d (x ∷ xs) (suc i) zero li lj = fold_first b x (get_or xs i d) d xs i (omega arith) refl
  fold_exchanged b d (x ∷ xs) (suc i) (suc j) li lj = fold_exchanged (f b x) d xs i j (omega arith) (omega arith)

  -- where two steps may change places, the order of a list does not matter
  fold_permuted : (d : A) (b : B) (xs ys : List A) → IsPermutation xs ys → fold f b ys ≡ fold f b xs
  fold_permuted d b xs ys moved =
      IsPermutation-keeps xs (λ l. fold f b l ≡ fold f b xs) refl
      (λ l i j li lj h. ap (fold f b) (sym (swap_is l i j d li lj)) ∙ fold_exchanged b d l i j li lj ∙ h) ys moved

-- settings that are equal are one
pub equal_is : (a b : feature_info_t) → is_equal a b ≡ true → a ≡ b
equal_is a b h =
    let h1 = both (eqb a.kind b.kind) _ h in
    let h2 = both (eqb a.setting b.setting) _ h1.1 in
    let k : a.kind ≡ b.kind = grind (arith, nat_tests, h1.0) in
    let s : a.setting ≡ b.setting = grind (arith, nat_tests, h2.0) in
    let x : a.is_exclusive ≡ b.is_exclusive = same_bool_is a.is_exclusive b.is_exclusive h2.1 in
    λ i. record { kind = k i; setting = s i; is_exclusive = x i }

equal_self : (a : feature_info_t) → is_equal a a ≡ true
equal_self a =
    both_made (eqb a.kind a.kind) _ (grind (arith, nat_tests))
    (both_made (eqb a.setting a.setting) _ (grind (arith, nat_tests)) (same_bool_self a.is_exclusive))

turn_step :
    (s t : Bool) (q a b : feature_info_t) (qs : List feature_info_t) → is_equal q a ≡ s → is_equal q b ≡ t
    → without_earliest (without_earliest qs a) b ≡ without_earliest (without_earliest qs b) a
    → without_earliest (cond s qs (q ∷ without_earliest qs a)) b
    ≡ without_earliest (cond t qs (q ∷ without_earliest qs b)) a
turn_step true true q a b qs e f h = ap (without_earliest qs) (sym (equal_is q b f) ∙ equal_is q a e)
turn_step true false q a b qs e f h = sym (ap (λ c. cond c (without_earliest qs b) (q ∷ without_earliest (without_earliest qs b) a)) e)
turn_step false true q a b qs e f h = ap (λ c. cond c (without_earliest qs a) (q ∷ without_earliest (without_earliest qs a) b)) f
turn_step false false q a b qs e f h =
    ap (λ c. cond c (without_earliest qs a) (q ∷ without_earliest (without_earliest qs a) b)) f
    ∙ ap (λ l. q ∷ l) h
    ∙ sym (ap (λ c. cond c (without_earliest qs b) (q ∷ without_earliest (without_earliest qs b) a)) e)

-- two settings may be taken out in either order
turned :
    (qs : List feature_info_t) (a b : feature_info_t)
    → without_earliest (without_earliest qs a) b ≡ without_earliest (without_earliest qs b) a
turned [] a b = refl
turned (q ∷ qs) a b = turn_step (is_equal q a) (is_equal q b) q a b qs refl refl (turned qs a b)

-- a request that passes a test takes out the earliest setting that is equal to its own
abbrev taken : (feature_range_t → Bool) → List feature_info_t → feature_range_t → List feature_info_t
taken p list r = cond (p r) (without_earliest list r.info) list

taken_turns :
    (p : feature_range_t → Bool) (list : List feature_info_t) (r s : feature_range_t)
    → taken p (taken p list r) s ≡ taken p (taken p list s) r
taken_turns p list r s = by_tests (p r) (p s)
  where
    by_tests :
        (b c : Bool)
        → cond c (without_earliest (cond b (without_earliest list r.info) list) s.info) (cond b (without_earliest list r.info) list)
        ≡ cond b (without_earliest (cond c (without_earliest list s.info) list) r.info) (cond c (without_earliest list s.info) list)
    by_tests true true = turned list r.info s.info
    by_tests true false = refl
    by_tests false true = refl
    by_tests false false = refl

taken_step :
    (b : Bool) (list : List feature_info_t) (r : feature_range_t) (fs rs : List feature_range_t)
    (p : feature_range_t → Bool)
    → ((l : List feature_info_t) → fold without_earliest l (infos fs) ≡ fold (taken p) l rs)
    → fold without_earliest list (infos (cond b (r ∷ fs) fs)) ≡ fold (taken p) (cond b (without_earliest list r.info) list) rs
taken_step true list r fs rs p h = h (without_earliest list r.info)
taken_step false list r fs rs p h = h list

taken_is :
    (p : feature_range_t → Bool) (rs : List feature_range_t) (list : List feature_info_t)
    → fold without_earliest list (infos (filter p rs)) ≡ fold (taken p) list rs
taken_is p [] list = refl
taken_is p (r ∷ rs) list = taken_step (p r) list r (filter p rs) rs p (taken_is p rs)

-- what requests that pass a test take out does not depend on their order
pub taken_permuted :
    (p : feature_range_t → Bool) (list : List feature_info_t) (rs ss : List feature_range_t) → IsPermutation rs ss
    → fold without_earliest list (infos (filter p ss)) ≡ fold without_earliest list (infos (filter p rs))
taken_permuted p list rs ss moved =
    let none : feature_range_t = record { info = record { kind = 0; setting = 0; is_exclusive = false }; start = 0; end = 0 } in
    taken_is p ss list ∙ fold_permuted (taken p) (taken_turns p) none list rs ss moved ∙ sym (taken_is p rs list)

front_step :
    (b : Bool) (q i : feature_info_t) (qs more : List feature_info_t)
    → without_earliest (qs ++ (i ∷ more)) i ≡ without_earliest (qs ++ (i ∷ [])) i ++ more
    → cond b (qs ++ (i ∷ more)) (q ∷ without_earliest (qs ++ (i ∷ more)) i)
    ≡ cond b (qs ++ (i ∷ [])) (q ∷ without_earliest (qs ++ (i ∷ [])) i) ++ more
front_step true q i qs more h = sym (append_assoc qs (i ∷ []) more)
front_step false q i qs more h = ap (λ l. q ∷ l) h

-- what is equal to one behind is found there or before
front :
    (qs more : List feature_info_t) (i : feature_info_t)
    → without_earliest (qs ++ (i ∷ more)) i ≡ without_earliest (qs ++ (i ∷ [])) i ++ more
front [] more i =
    ap (λ b. cond b more (i ∷ without_earliest more i)) (equal_self i)
    ∙ sym (ap (λ b. cond b [] (i ∷ []) ++ more) (equal_self i))
front (q ∷ qs) more i = front_step (is_equal q i) q i qs more (front qs more i)

more_step :
    (b e : Bool) (r : feature_range_t) (before more : List feature_info_t) (fs gs : List feature_range_t)
    → (e ≡ true → b ≡ true)
    → ((l : List feature_info_t) → fold without_earliest (l ++ (infos fs ++ more)) (infos gs) ≡ fold without_earliest (l ++ infos fs) (infos gs) ++ more)
    → fold without_earliest (before ++ (infos (cond b (r ∷ fs) fs) ++ more)) (infos (cond e (r ∷ gs) gs))
    ≡ fold without_earliest (before ++ infos (cond b (r ∷ fs) fs)) (infos (cond e (r ∷ gs) gs)) ++ more
more_step true true r before more fs gs k h =
    ap (λ l. fold without_earliest l (infos gs)) (front before (infos fs ++ more) r.info)
    ∙ h (without_earliest (before ++ (r.info ∷ [])) r.info)
    ∙ sym (ap (λ l. fold without_earliest l (infos gs) ++ more) (front before (infos fs) r.info))
more_step true false r before more fs gs k h =
    ap (λ l. fold without_earliest l (infos gs)) (sym (append_assoc before (r.info ∷ []) (infos fs ++ more)))
    ∙ h (before ++ (r.info ∷ []))
    ∙ ap (λ l. fold without_earliest l (infos gs) ++ more) (append_assoc before (r.info ∷ []) (infos fs))
more_step false true r before more fs gs k h = absurd (true_not_false (sym (k refl)))
more_step false false r before more fs gs k h = h before

-- where each request that ends has begun, what is put behind stays behind
pub taken_before :
    (begun ended : feature_range_t → Bool) (more : List feature_info_t) (rs : List feature_range_t)
    (before : List feature_info_t)
    → AllByRecursion (λ r. ended r ≡ true → begun r ≡ true) rs
    → fold without_earliest (before ++ (infos (filter begun rs) ++ more)) (infos (filter ended rs))
    ≡ fold without_earliest (before ++ infos (filter begun rs)) (infos (filter ended rs)) ++ more
taken_before begun ended more [] before h = ap (λ l. l ++ more) (sym (append-nil before))
taken_before begun ended more (r ∷ rs) before h =
    more_step (begun r) (ended r) r before more (filter begun rs) (filter ended rs) h.0
    (λ l. taken_before begun ended more rs l h.1)
