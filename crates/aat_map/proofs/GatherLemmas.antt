-- Requests in order, and what is live and kept.
use Rattle.std.proofs.Common.{◌≡◌, ◌≢◌, ◌∙◌, ap, sym, refl, ℕ, suc, ◌+◌, ◌<◌, ◌≤◌, Bool, true, false, not, ltb, ◌&&◌, ◌||◌, cond, eqb, List, [], ◌∷◌, ◌++◌, take, insert, remove, filter, take_while, length, get_or, arith, nat_le, IsPermutation, swap}
use Rattle.std.specs.List.{list_any, AllPairs, prefix_len}
use Rattle.std.specs.Cmp.{IsTotalOrder, bool_cmp_total}
use Rattle.std.specs.Ordering.{is_lt, ordering_reverse, ordering_then, nat_cmp, bool_cmp}
use Rattle.std.proofs.lemmas.Cmp.{ranked, then_total, on_total, nat_cmp_total}
use Rattle.std.specs.List.Sorted.{IsSortedBy}
use Rattle.std.specs.declared.cmp.Ordering.{Ordering}
use Rattle.std.specs.declared.cmp.Ordering.TheVariants.{Less, Equal, Greater}
use Rattle.std.proofs.lemmas.List.{append-nil, drop_all, take_all, take_more, get_or-set_same, get_or-set_other}
use Rattle.std.proofs.lemmas.List.Folds.{length-prefix_len}
use Rattle.std.proofs.lemmas.List.Elements.{filter-append, filter_passes}
use Rattle.std.proofs.lemmas.List.Kept.{AllPairs-filter, AllPairs-cons}
use Rattle.std.proofs.lemmas.List.Edits.{swap_is, length-swap}
use Rattle.std.proofs.lemmas.List.Sorted.{IsPermutation-keeps}
use Rattle.std.proofs.lemmas.Bool.Decides.{nat_tests}
use Rattle.std.proofs.lemmas.Bool.{cases_eq}
use Rattle.std.proofs.lemmas.Grind.{common_steps}
use Rattle.aat_lookup.specs.Truth.{is_alike}
use Rattle.aat_map.specs.declared.feature.feature_info_t.{feature_info_t}
use Rattle.aat_map.specs.declared.feature.feature_range_t.{feature_range_t}
use Rattle.aat_map.specs.Live.{placed_by_start, without_earliest, is_equal, kept, in_group, group_order, IsRisingByGroup, group_setting}
use Rattle.aat_map.proofs.Truth.{true_not_false}

one_more : (n : ℕ) → 1 + n ≡ suc n
one_more n = omega arith

placed_step :
    (b : Bool) (q r : feature_range_t) (qs later : List feature_range_t) (n : ℕ) → insert qs n r ≡ later
    → insert (q ∷ qs) (cond b (1 + n) 0) r ≡ cond b (q ∷ later) (r ∷ (q ∷ qs))
placed_step true q r qs later n e = rw (one_more n) (ap (λ l. q ∷ l) e)
placed_step false q r qs later n e = refl

pub placed_behind :
    (qs : List feature_range_t) (r : feature_range_t)
    → insert qs (prefix_len (λ q. nat_le q.start r.start) qs) r ≡ placed_by_start qs r
placed_behind [] r = refl
placed_behind (q ∷ qs) r = placed_step (nat_le q.start r.start) q r qs (placed_by_start qs r) (prefix_len (λ q. nat_le q.start r.start) qs) (placed_behind qs r)

removed_step :
    (b : Bool) (q : feature_info_t) (qs later : List feature_info_t) (n : ℕ) → remove qs n ≡ later
    → remove (q ∷ qs) (cond (not b) (1 + n) 0) ≡ cond b qs (q ∷ later)
removed_step true q qs later n e = refl
removed_step false q qs later n e = rw (one_more n) (ap (λ l. q ∷ l) e)

removed_first :
    (qs : List feature_info_t) (i : feature_info_t)
    → remove qs (prefix_len (λ q. not (is_equal q i)) qs) ≡ without_earliest qs i
removed_first [] i = refl
removed_first (q ∷ qs) i = removed_step (is_equal q i) q qs (without_earliest qs i) (prefix_len (λ q. not (is_equal q i)) qs) (removed_first qs i)

-- a removal of the first that is equal
pub taken_out :
    (qs ys : List feature_info_t) (i : feature_info_t) (k : ℕ)
    → k ≡ length (take_while (λ q. not (is_equal q i)) qs) → ys ≡ remove qs k → ys ≡ without_earliest qs i
taken_out qs ys i k e is = is ∙ ap (remove qs) (e ∙ length-prefix_len _ qs) ∙ removed_first qs i

remove_past : (qs : List feature_info_t) (k : ℕ) → length qs ≤ k → remove qs k ≡ qs
remove_past qs k le =
    let le' : length qs ≤ suc k = omega arith in
    rw (take_all k qs le, drop_all (suc k) qs le') (append-nil qs)

-- where none is equal nothing goes
pub none_taken_out :
    (qs : List feature_info_t) (i : feature_info_t) (k : ℕ)
    → k ≡ length (take_while (λ q. not (is_equal q i)) qs) → length qs ≤ k → qs ≡ without_earliest qs i
none_taken_out qs i k e le = sym (remove_past qs k le) ∙ ap (remove qs) (e ∙ length-prefix_len _ qs) ∙ removed_first qs i

-- what one group is, as equations
record OneGroup (a b : feature_info_t) : Type 0 where
  kind : a.kind ≡ b.kind
  exclusive : a.is_exclusive ≡ b.is_exclusive
  setting : group_setting a ≡ group_setting b

pub same_bool_is : (a b : Bool) → is_alike a b ≡ true → a ≡ b
same_bool_is true true h = refl
same_bool_is true false h = cc
same_bool_is false true h = cc
same_bool_is false false h = refl

pub same_bool_self : (a : Bool) → is_alike a a ≡ true
same_bool_self true = refl
same_bool_self false = refl

pub both : (a b : Bool) → (a && b) ≡ true → (a ≡ true) × (b ≡ true)
both true b h = (refl, h)
both false b h = cc

pub both_made : (a b : Bool) → a ≡ true → b ≡ true → (a && b) ≡ true
both_made a b p q = rw (p, q) refl

group_opened : (a b : feature_info_t) → in_group a b ≡ true → OneGroup a b
group_opened a b h =
    let h1 = both (eqb a.kind b.kind) _ h in
    let h2 = both (is_alike a.is_exclusive b.is_exclusive) _ h1.1 in
    record { kind = grind (arith, nat_tests, h1.0); exclusive = same_bool_is _ _ h2.0; setting = grind (arith, nat_tests, h2.1) }

group_made : (a b : feature_info_t) → OneGroup a b → in_group a b ≡ true
group_made a b h =
    both_made (eqb a.kind b.kind) _ (grind (arith, nat_tests, h.kind))
    (both_made (is_alike a.is_exclusive b.is_exclusive) _ (rw h.exclusive (same_bool_self b.is_exclusive)) (grind (arith, nat_tests, h.setting)))

-- one group with one is one group with the other
pub group_trans : (a b c : feature_info_t) → in_group a b ≡ true → in_group b c ≡ true → in_group a c ≡ true
group_trans a b c h k =
    let p = group_opened a b h in
    let q = group_opened b c k in
    group_made a c (record { kind = p.kind ∙ q.kind; exclusive = p.exclusive ∙ q.exclusive; setting = p.setting ∙ q.setting })

pub group_sym : (a b : feature_info_t) → in_group a b ≡ true → in_group b a ≡ true
group_sym a b h = let p = group_opened a b h in group_made b a (record { kind = sym p.kind; exclusive = sym p.exclusive; setting = sym p.setting })

filtered_step :
    (b c : Bool) (x : feature_info_t) (q : feature_info_t → Bool) (fs xs : List feature_info_t) → q x ≡ c
    → (c ≡ true → b ≡ true) → list_any q fs ≡ list_any q xs
    → list_any q (cond b (x ∷ fs) fs) ≡ (c || list_any q xs)
filtered_step true c x q fs xs k h e = ap (λ d. d || list_any q fs) k ∙ ap (λ d. c || d) e
filtered_step false true x q fs xs k h e = absurd (true_not_false (sym (h refl)))
filtered_step false false x q fs xs k h e = e

-- a test of what a filter leaves, where it passes nothing that goes
any_filtered :
    (p q : feature_info_t → Bool) (xs : List feature_info_t) → ((x : feature_info_t) → q x ≡ true → p x ≡ true)
    → list_any q (filter p xs) ≡ list_any q xs
any_filtered p q [] h = refl
any_filtered p q (x ∷ xs) h = filtered_step (p x) (q x) x q (filter p xs) xs refl (h x) (any_filtered p q xs h)

pub kept_step :
    (b c : Bool) (x : feature_info_t) (p : feature_info_t → Bool) → p x ≡ not b
    → filter p (cond c [] (x ∷ [])) ≡ cond (b || c) [] (x ∷ [])
kept_step true true x p e = refl
kept_step true false x p e = rw e refl
kept_step false true x p e = refl
kept_step false false x p e = rw e refl

pub apart_is : (c : Bool) → (c ≡ true → ⊥) → not c ≡ true
apart_is true f = absurd (f refl)
apart_is false f = refl

pub any_kept_step :
    (b : Bool) (i x : feature_info_t) (ks : List feature_info_t) → in_group i x ≡ b
    → (b || list_any (λ j. in_group j x) (filter (λ j. not (in_group i j)) ks)) ≡ (b || list_any (λ j. in_group j x) ks)
any_kept_step true i x ks e = refl
any_kept_step false i x ks e = any_filtered (λ j. not (in_group i j)) (λ j. in_group j x) ks
    (λ j h. apart_is (in_group i j) (λ k. true_not_false (sym (group_trans i j x k h) ∙ e)))

-- one more is kept where its group is new
pub kept_more :
    (xs : List feature_info_t) (x : feature_info_t)
    → kept (xs ++ x ∷ []) ≡ kept xs ++ cond (list_any (λ i. in_group i x) (kept xs)) [] (x ∷ [])
kept_more [] x = refl
kept_more (i ∷ is) x =
    let p : feature_info_t → Bool = λ j. not (in_group i j) in
    let later = list_any (λ j. in_group j x) (kept is) in
    ap (λ ks. i ∷ filter p ks) (kept_more is x)
    ∙ ap (λ ks. i ∷ ks) (filter-append p (kept is) (cond later [] (x ∷ [])) ∙ ap (λ ks. filter p (kept is) ++ ks) (kept_step (in_group i x) later x p refl))
    ∙ ap (λ c. (i ∷ filter p (kept is)) ++ cond c [] (x ∷ [])) (sym (any_kept_step (in_group i x) i x (kept is) refl))

-- no two of a list are of one group
abbrev pub IsApart : List feature_info_t → Type 0
IsApart xs = AllPairs (λ a b. in_group a b ≡ false) xs

-- the same at a step of a loop, where x is the element at place i
pub kept_step_at :
    (xs ys zs : List feature_info_t) (x : feature_info_t) (i : ℕ) → i < length xs → x ≡ get_or xs i x
    → ys ≡ kept (take i xs) → zs ≡ ys ++ cond (list_any (λ j. in_group j x) ys) [] (x ∷ [])
    → zs ≡ kept (take (i + 1) xs)
kept_step_at xs ys zs x i below read was now =
    now ∙ ap (λ (ks : List feature_info_t). ks ++ cond (list_any (λ j. in_group j x) ks) [] (x ∷ [])) was
    ∙ sym (kept_more (take i xs) x)
    ∙ ap kept (ap (λ y. take i xs ++ (y ∷ [])) read ∙ sym (take_more xs i x below))

not_true : (b : Bool) → not b ≡ true → b ≡ false
not_true true h = cc
not_true false h = refl

pub not_group_sym : (a b : feature_info_t) (c : Bool) → in_group a b ≡ c → in_group b a ≡ false → in_group a b ≡ false
not_group_sym a b true e h = absurd (true_not_false (sym (group_sym a b e) ∙ h))
not_group_sym a b false e h = e

-- what is kept is apart
kept_apart : (xs : List feature_info_t) → IsApart (kept xs)
kept_apart [] = λ i j d lt within. absurd (omega arith)
kept_apart (x ∷ xs) =
    let p : feature_info_t → Bool = λ j. not (in_group x j) in
    AllPairs-cons (λ a b. in_group a b ≡ false) x (filter p (kept xs))
    (λ k d lt. not_true _ (filter_passes p (kept xs) k d lt))
    (AllPairs-filter (λ a b. in_group a b ≡ false) p (kept xs) (kept_apart xs))

-- the same without an order of the places
abbrev pub IsDistinct : List feature_info_t → Type 0
IsDistinct l =
    (i j : ℕ) (d : feature_info_t)
    → i < length l → j < length l → i ≢ j
    → in_group (get_or l i d) (get_or l j d) ≡ false

distinct_from_apart : (l : List feature_info_t) → IsApart l → IsDistinct l
distinct_from_apart l apart i j d li lj ne = by_order (ltb i j) refl
  where
    by_order : (b : Bool) → ltb i j ≡ b → in_group (get_or l i d) (get_or l j d) ≡ false
    by_order true e = apart i j d (grind (arith, nat_tests, e)) lj
    by_order false e = let lt : j < i = grind (arith, nat_tests, e, ne) in not_group_sym (get_or l i d) (get_or l j d) (in_group (get_or l i d) (get_or l j d)) refl (apart j i d lt li)

-- where an element of a list with two places swapped stood
swapped_place : ℕ → ℕ → ℕ → ℕ
swapped_place a b k = cond (eqb k b) a (cond (eqb k a) b k)

get_or-swap :
    (l : List feature_info_t) (a b k : ℕ) (d : feature_info_t) → a < length l → b < length l → k < length l
    → get_or (swap l a b) k d ≡ get_or l (swapped_place a b k) d
unfolding swapped_place
get_or-swap l a b k d la lb lk = rw (← swap_is l a b d la lb) (grind (arith, nat_tests, common_steps, get_or-set_same, get_or-set_other, cases_eq k b, cases_eq k a))

swap_distinct :
    (l : List feature_info_t) (a b : ℕ) → a < length l → b < length l → IsDistinct l → IsDistinct (swap l a b)
unfolding swapped_place
swap_distinct l a b la lb distinct i j d li lj ne =
    let n : length (swap l a b) ≡ length l = length-swap l a b in
    let li' : i < length l = omega arith in
    let lj' : j < length l = omega arith in
    let pi : swapped_place a b i < length l = grind (arith, nat_tests, cases_eq i b, cases_eq i a) in
    let pj : swapped_place a b j < length l = grind (arith, nat_tests, cases_eq j b, cases_eq j a) in
    let apart : swapped_place a b i ≢ swapped_place a b j = λ e. grind (arith, nat_tests, e, ne, cases_eq i b, cases_eq i a, cases_eq j b, cases_eq j a) in
    rw (get_or-swap l a b i d la lb li', get_or-swap l a b j d la lb lj') (distinct _ _ d pi pj apart)

-- what is kept, in any order
pub kept_distinct : (xs ys : List feature_info_t) → IsPermutation (kept xs) ys → IsDistinct ys
kept_distinct xs ys moved = IsPermutation-keeps (kept xs) IsDistinct (distinct_from_apart (kept xs) (kept_apart xs)) (λ l a b la lb distinct. swap_distinct l a b la lb distinct) ys moved

rising_order : (o : Ordering) → o ≢ Equal → is_lt (ordering_reverse o) ≡ false → o ≡ Less
rising_order Less ne h = refl
rising_order Equal ne h = absurd (ne refl)
rising_order Greater ne h = cc

then_equal : (o p : Ordering) → ordering_then o p ≡ Equal → (o ≡ Equal) × (p ≡ Equal)
then_equal Less p h = cc
then_equal Equal p h = (refl, h)
then_equal Greater p h = cc

bool_equal : (a b : Bool) → bool_cmp a b ≡ Equal → a ≡ b
bool_equal true true h = refl
bool_equal true false h = cc
bool_equal false true h = cc
bool_equal false false h = refl

-- equal in the order of groups is of one group
equal_is_group : (a b : feature_info_t) → group_order a b ≡ Equal → in_group a b ≡ true
equal_is_group a b h =
    let h1 = then_equal (nat_cmp a.kind b.kind) _ h in
    let h2 = then_equal (bool_cmp a.is_exclusive b.is_exclusive) _ h1.1 in
    group_made a b (record { kind = ranked a.kind b.kind Equal (sym h1.0); exclusive = bool_equal _ _ h2.0; setting = ranked (group_setting a) (group_setting b) Equal (sym h2.1) })

-- the order of groups is total
pub group_total : IsTotalOrder group_order
group_total =
    then_total (on_total (λ (i : feature_info_t). i.kind) nat_cmp_total)
    (then_total (on_total (λ (i : feature_info_t). i.is_exclusive) bool_cmp_total) (on_total group_setting nat_cmp_total))

-- kept settings, sorted, rise strictly
pub kept_rising :
    (xs ys : List feature_info_t) → IsPermutation (kept xs) ys → IsSortedBy (λ a b. is_lt (group_order a b)) ys
    → IsRisingByGroup ys
kept_rising xs ys moved sorted k d lt =
    rising_order (group_order (get_or ys k d) (get_or ys (k + 1) d))
    (λ e. true_not_false (sym (equal_is_group (get_or ys k d) (get_or ys (k + 1) d) e) ∙ kept_distinct xs ys moved k (k + 1) d (omega arith) lt (omega arith)))
    (ap is_lt (sym (group_total.antisymm (get_or ys (k + 1) d) (get_or ys k d))) ∙ sorted k d (omega arith) lt)
