-- Of each group the first that is live.
use Rattle.std.proofs.Common.{◌≡◌, ◌∙◌, ap, sym, refl, ℕ, suc, ◌+◌, ◌<◌, ◌≤◌, Bool, true, false, not, cond, List, [], ◌∷◌, ◌++◌, set, take_while, length, get_or, arith, Option, Some, None}
use Rattle.std.specs.List.{AllByRecursion, prefix_len}
use Rattle.std.specs.Option.{option_or}
use Rattle.std.proofs.lemmas.List.{get_or-map, length-map}
use Rattle.std.proofs.lemmas.List.Folds.{length-prefix_len}
use Rattle.aat_map.specs.declared.feature.feature_info_t.{feature_info_t}
use Rattle.aat_map.specs.Live.{is_equal, in_group, without_earliest}
use Rattle.aat_map.specs.inside.Firsts.{first_of, firsts_of, AreApart}
use Rattle.aat_map.proofs.Truth.{true_not_false}
use Rattle.aat_map.proofs.GatherLemmas.{group_trans, group_sym, both_made, same_bool_self}
use Rattle.aat_map.proofs.TakenOut.{equal_is}
use Rattle.std.proofs.lemmas.Bool.Decides.{nat_tests}

one_more : (n : ℕ) → 1 + n ≡ suc n
one_more n = omega arith

pub false_is : (b : Bool) → (b ≡ true → ⊥) → b ≡ false
false_is true f = absurd (f refl)
false_is false f = refl

pub group_self : (a : feature_info_t) → in_group a a ≡ true
group_self a = both_made _ _ (grind (arith, nat_tests)) (both_made _ _ (same_bool_self a.is_exclusive) (grind (arith, nat_tests)))

-- where two are apart, one that is of the group of the first is apart from the second
pub apart_from :
    (i g h : feature_info_t) → in_group i g ≡ true → in_group g h ≡ false → in_group i h ≡ false
apart_from i g h e f = false_is (in_group i h) (λ k. true_not_false (sym (group_trans g i h (group_sym i g e) k) ∙ f))

-- the first is found behind those that are not of the group
found_step :
    (b : Bool) (x d : feature_info_t) (xs : List feature_info_t) (n : ℕ) (f : Option feature_info_t)
    → (n < length xs → Some (get_or xs n d) ≡ f)
    → cond (not b) (1 + n) 0 < length (x ∷ xs)
    → Some (get_or (x ∷ xs) (cond (not b) (1 + n) 0) d) ≡ cond b (Some x) f
found_step true x d xs n f h lt = refl
found_step false x d xs n f h lt = rw (one_more n) (h (omega (arith, lt)))

found :
    (xs : List feature_info_t) (g d : feature_info_t)
    → prefix_len (λ i. not (in_group i g)) xs < length xs
    → Some (get_or xs (prefix_len (λ i. not (in_group i g)) xs) d) ≡ first_of xs g
found [] g d lt = absurd (omega arith)
found (x ∷ xs) g d lt = found_step (in_group x g) x d xs (prefix_len (λ i. not (in_group i g)) xs) (first_of xs g) (found xs g d) lt

pub first_found :
    (xs : List feature_info_t) (g d : feature_info_t) (n : ℕ)
    → n ≡ length (take_while (λ i. not (in_group i g)) xs) → n < length xs → Some (get_or xs n d) ≡ first_of xs g
first_found xs g d n e lt =
    let is : n ≡ prefix_len (λ i. not (in_group i g)) xs = e ∙ length-prefix_len _ xs in
    ap (λ k. Some (get_or xs k d)) is ∙ found xs g d (rw is at lt)

missing_step :
    (b : Bool) (x : feature_info_t) (xs : List feature_info_t) (n : ℕ) (f : Option feature_info_t)
    → (length xs ≤ n → None ≡ f) → length (x ∷ xs) ≤ cond (not b) (1 + n) 0 → None ≡ cond b (Some x) f
missing_step true x xs n f h le = absurd (omega (arith, le))
missing_step false x xs n f h le = h (omega (arith, le))

missing :
    (xs : List feature_info_t) (g : feature_info_t)
    → length xs ≤ prefix_len (λ i. not (in_group i g)) xs → None ≡ first_of xs g
missing [] g le = refl
missing (x ∷ xs) g le = missing_step (in_group x g) x xs (prefix_len (λ i. not (in_group i g)) xs) (first_of xs g) (missing xs g) le

pub first_missing :
    (xs : List feature_info_t) (g : feature_info_t) (n : ℕ)
    → n ≡ length (take_while (λ i. not (in_group i g)) xs) → length xs ≤ n → None ≡ first_of xs g
first_missing xs g n e le = missing xs g (rw (e ∙ length-prefix_len _ xs) at le)

-- the first of a group, where one more of it comes last
more_step :
    (b : Bool) (x i : feature_info_t) (f h : Option feature_info_t) → f ≡ option_or h (Some i)
    → cond b (Some x) f ≡ option_or (cond b (Some x) h) (Some i)
more_step true x i f h e = refl
more_step false x i f h e = e

last_step : (b : Bool) (i : feature_info_t) → b ≡ true → cond b (Some i) None ≡ Some i
last_step b i e = rw e refl

first_more :
    (xs : List feature_info_t) (i g : feature_info_t) → in_group i g ≡ true
    → first_of (xs ++ i ∷ []) g ≡ option_or (first_of xs g) (Some i)
first_more [] i g e = last_step (in_group i g) i e
first_more (x ∷ xs) i g e = more_step (in_group x g) x i (first_of (xs ++ i ∷ []) g) (first_of xs g) (first_more xs i g e)

-- the first of another group stays
other_last : (b : Bool) (i : feature_info_t) → b ≡ false → cond b (Some i) None ≡ None
other_last b i e = rw e refl

first_other_more :
    (xs : List feature_info_t) (i g : feature_info_t) → in_group i g ≡ false
    → first_of xs g ≡ first_of (xs ++ i ∷ []) g
first_other_more [] i g e = sym (other_last (in_group i g) i e)
first_other_more (x ∷ xs) i g e = ap (λ f. cond (in_group x g) (Some x) f) (first_other_more xs i g e)

less_step :
    (b : Bool) (x i g : feature_info_t) (xs : List feature_info_t) → is_equal x i ≡ b → in_group i g ≡ false
    → first_of xs g ≡ first_of (without_earliest xs i) g
    → first_of (x ∷ xs) g ≡ first_of (cond b xs (x ∷ without_earliest xs i)) g
less_step true x i g xs e f h =
    ap (λ c. cond c (Some x) (first_of xs g)) (ap (λ y. in_group y g) (equal_is x i e) ∙ f)
less_step false x i g xs e f h = ap (λ o. cond (in_group x g) (Some x) o) h

first_other_less :
    (xs : List feature_info_t) (i g : feature_info_t) → in_group i g ≡ false
    → first_of xs g ≡ first_of (without_earliest xs i) g
first_other_less [] i g f = refl
first_other_less (x ∷ xs) i g f = less_step (is_equal x i) x i g xs refl f (first_other_less xs i g f)

-- where the first of the group of i changes alone
module _ (was now : List feature_info_t) (i : feature_info_t)
    (others : (g : feature_info_t) → in_group i g ≡ false → first_of was g ≡ first_of now g) where
  rest_same :
      (g : feature_info_t) (gs : List feature_info_t) → in_group i g ≡ true
      → AllByRecursion (λ h. in_group g h ≡ false) gs → firsts_of gs was ≡ firsts_of gs now
  rest_same g [] e h = refl
  rest_same g (k ∷ ks) e h =
      ap (λ o. o ∷ firsts_of ks was) (others k (apart_from i g k e h.0))
      ∙ ap (λ os. first_of now k ∷ os) (rest_same g ks e h.1)

  put_step :
      (b : Bool) (g d : feature_info_t) (gs : List feature_info_t) (n : ℕ) (f : Option feature_info_t)
      → in_group i g ≡ b → AllByRecursion (λ h. in_group g h ≡ false) gs
      → (f ≡ first_of now (get_or gs n d) → set (firsts_of gs was) n f ≡ firsts_of gs now)
      → f ≡ first_of now (get_or (g ∷ gs) (cond (not b) (1 + n) 0) d)
      → set (firsts_of (g ∷ gs) was) (cond (not b) (1 + n) 0) f ≡ firsts_of (g ∷ gs) now
  put_step true g d gs n f e apart h is =
      ap (λ o. o ∷ firsts_of gs was) is ∙ ap (λ os. first_of now g ∷ os) (rest_same g gs e apart)
  put_step false g d gs n f e apart h is =
      rw (one_more n)
      (ap (λ o. o ∷ set (firsts_of gs was) n f) (others g e)
      ∙ ap (λ os. first_of now g ∷ os) (h (rw (one_more n) at is)))

  put_at :
      (gs : List feature_info_t) (d : feature_info_t) (f : Option feature_info_t) → AreApart gs
      → f ≡ first_of now (get_or gs (prefix_len (λ g. not (in_group i g)) gs) d)
      → set (firsts_of gs was) (prefix_len (λ g. not (in_group i g)) gs) f ≡ firsts_of gs now
  put_at [] d f apart is = refl
  put_at (g ∷ gs) d f apart is =
      put_step (in_group i g) g d gs (prefix_len (λ h. not (in_group i h)) gs) f refl apart.0 (put_at gs d f apart.1) is

  pub first_put :
      (gs : List feature_info_t) (d : feature_info_t) (f : Option feature_info_t) (n : ℕ) → AreApart gs
      → n ≡ length (take_while (λ g. not (in_group i g)) gs) → f ≡ first_of now (get_or gs n d)
      → set (firsts_of gs was) n f ≡ firsts_of gs now
  first_put gs d f n apart e is =
      let p : n ≡ prefix_len (λ g. not (in_group i g)) gs = e ∙ length-prefix_len _ gs in
      ap (λ k. set (firsts_of gs was) k f) p ∙ put_at gs d f apart (rw p at is)

  none_step :
      (b : Bool) (g : feature_info_t) (gs : List feature_info_t) (n : ℕ) → in_group i g ≡ b
      → (length gs ≤ n → firsts_of gs was ≡ firsts_of gs now)
      → length (g ∷ gs) ≤ cond (not b) (1 + n) 0 → firsts_of (g ∷ gs) was ≡ firsts_of (g ∷ gs) now
  none_step true g gs n e h le = absurd (omega (arith, le))
  none_step false g gs n e h le =
      ap (λ o. o ∷ firsts_of gs was) (others g e) ∙ ap (λ os. first_of now g ∷ os) (h (omega (arith, le)))

  none_put :
      (gs : List feature_info_t) → length gs ≤ prefix_len (λ g. not (in_group i g)) gs
      → firsts_of gs was ≡ firsts_of gs now
  none_put [] le = refl
  none_put (g ∷ gs) le = none_step (in_group i g) g gs (prefix_len (λ h. not (in_group i h)) gs) refl (none_put gs) le

  pub first_not_put :
      (gs : List feature_info_t) (n : ℕ) → n ≡ length (take_while (λ g. not (in_group i g)) gs) → length gs ≤ n
      → firsts_of gs was ≡ firsts_of gs now
  first_not_put gs n e le = none_put gs (rw (e ∙ length-prefix_len _ gs) at le)

stopped_step :
    (b : Bool) (g i d : feature_info_t) (gs : List feature_info_t) (n : ℕ) → in_group i g ≡ b
    → (n < length gs → in_group i (get_or gs n d) ≡ true)
    → cond (not b) (1 + n) 0 < length (g ∷ gs) → in_group i (get_or (g ∷ gs) (cond (not b) (1 + n) 0) d) ≡ true
stopped_step true g i d gs n e h lt = e
stopped_step false g i d gs n e h lt = rw (one_more n) (h (omega (arith, lt)))

-- where a search for the group stops, the group is
stopped :
    (gs : List feature_info_t) (i d : feature_info_t) → prefix_len (λ g. not (in_group i g)) gs < length gs
    → in_group i (get_or gs (prefix_len (λ g. not (in_group i g)) gs) d) ≡ true
stopped [] i d lt = absurd (omega arith)
stopped (g ∷ gs) i d lt =
    stopped_step (in_group i g) g i d gs (prefix_len (λ h. not (in_group i h)) gs) refl (stopped gs i d) lt

-- what is put where one begins
pub begun_put :
    (gs was : List feature_info_t) (i d : feature_info_t) (n : ℕ) (o f : Option feature_info_t) → AreApart gs
    → n ≡ length (take_while (λ g. not (in_group i g)) gs) → n < length gs
    → o ≡ first_of was (get_or gs n d) → f ≡ option_or o (Some i)
    → set (firsts_of gs was) n f ≡ firsts_of gs (was ++ i ∷ [])
begun_put gs was i d n o f apart e lt was_is now_is =
    let p : n ≡ prefix_len (λ g. not (in_group i g)) gs = e ∙ length-prefix_len _ gs in
    let there : in_group i (get_or gs n d) ≡ true = rw p (stopped gs i d (rw p at lt)) in
    first_put was (was ++ i ∷ []) i (λ g h. first_other_more was i g h) gs d f n apart e
    (now_is ∙ ap (λ k. option_or k (Some i)) was_is ∙ sym (first_more was i (get_or gs n d) there))

pub begun_not_put :
    (gs was : List feature_info_t) (i : feature_info_t) (n : ℕ)
    → n ≡ length (take_while (λ g. not (in_group i g)) gs) → length gs ≤ n
    → firsts_of gs was ≡ firsts_of gs (was ++ i ∷ [])
begun_not_put gs was i n e le = first_not_put was (was ++ i ∷ []) i (λ g h. first_other_more was i g h) gs n e le

-- what is put where one ends
pub ended_put :
    (gs was now : List feature_info_t) (i d : feature_info_t) (n : ℕ) (f : Option feature_info_t) → AreApart gs
    → now ≡ without_earliest was i
    → n ≡ length (take_while (λ g. not (in_group i g)) gs) → f ≡ first_of now (get_or gs n d)
    → set (firsts_of gs was) n f ≡ firsts_of gs now
ended_put gs was now i d n f apart gone e is =
    first_put was now i (λ g h. first_other_less was i g h ∙ ap (λ l. first_of l g) (sym gone)) gs d f n apart e is

pub ended_not_put :
    (gs was now : List feature_info_t) (i : feature_info_t) (n : ℕ) → now ≡ without_earliest was i
    → n ≡ length (take_while (λ g. not (in_group i g)) gs) → length gs ≤ n
    → firsts_of gs was ≡ firsts_of gs now
ended_not_put gs was now i n gone e le =
    first_not_put was now i (λ g h. first_other_less was i g h ∙ ap (λ l. first_of l g) (sym gone)) gs n e le

-- the same of what the code reads and writes
pub begun_set :
    (gs was now : List feature_info_t) (firsts : List (Option feature_info_t)) (i d : feature_info_t) (n : ℕ)
    (o f : Option feature_info_t) (fs : List (Option feature_info_t))
    → firsts ≡ firsts_of gs was → AreApart gs → now ≡ was ++ i ∷ []
    → n ≡ length (take_while (λ g. not (in_group i g)) gs) → n < length gs
    → o ≡ get_or firsts n o → f ≡ option_or o (Some i) → fs ≡ set firsts n f → fs ≡ firsts_of gs now
begun_set gs was now firsts i d n o f fs are apart more e lt read is wrote =
    let there : o ≡ first_of was (get_or gs n d) = read ∙ ap (λ os. get_or os n o) are ∙ get_or-map (first_of was) gs n d o lt in
    wrote ∙ ap (λ os. set os n f) are ∙ begun_put gs was i d n o f apart e lt there is ∙ ap (firsts_of gs) (sym more)

pub begun_kept :
    (gs was now : List feature_info_t) (firsts : List (Option feature_info_t)) (i : feature_info_t) (n : ℕ)
    → firsts ≡ firsts_of gs was → now ≡ was ++ i ∷ []
    → n ≡ length (take_while (λ g. not (in_group i g)) gs) → length gs ≤ n → firsts ≡ firsts_of gs now
begun_kept gs was now firsts i n are more e le = are ∙ begun_not_put gs was i n e le ∙ ap (firsts_of gs) (sym more)

pub ended_set :
    (gs was now : List feature_info_t) (firsts : List (Option feature_info_t)) (i g : feature_info_t) (n : ℕ)
    (f : Option feature_info_t) (fs : List (Option feature_info_t))
    → firsts ≡ firsts_of gs was → AreApart gs → now ≡ without_earliest was i
    → n ≡ length (take_while (λ h. not (in_group i h)) gs)
    → g ≡ get_or gs n g → f ≡ first_of now g → fs ≡ set firsts n f → fs ≡ firsts_of gs now
ended_set gs was now firsts i g n f fs are apart gone e read is wrote =
    wrote ∙ ap (λ os. set os n f) are ∙ ended_put gs was now i g n f apart gone e (is ∙ ap (first_of now) read)

-- there are as many as groups
pub length_firsts :
    (gs list : List feature_info_t) (firsts : List (Option feature_info_t)) → firsts ≡ firsts_of gs list
    → length firsts ≡ length gs
length_firsts gs list firsts are = ap length are ∙ length-map gs (first_of list)
