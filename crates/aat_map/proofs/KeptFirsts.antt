-- What is kept is the first of each group.
use Rattle.std.proofs.Common.{◌≡◌, ◌∙◌, ap, sym, refl, arith, ℕ, suc, ◌+◌, ◌<◌, take, length, get_or, Bool, true, false, not, ◌||◌, cond, List, [], ◌∷◌, ◌++◌, filter, fold, IsPermutation, Option, Some, None}
use Rattle.std.proofs.Math.Bool.{or-true}
use Rattle.std.specs.List.{list_any, AllByRecursion}
use Rattle.std.proofs.lemmas.List.{map-append, take_more}
use Rattle.std.proofs.lemmas.List.Sorted.{IsPermutation-refl, IsPermutation-trans, IsPermutation-append_right, IsPermutation-filter_both, list_any-IsPermutation}
use Rattle.aat_map.specs.declared.feature.feature_info_t.{feature_info_t}
use Rattle.aat_map.specs.declared.feature.feature_range_t.{feature_range_t}
use Rattle.aat_map.specs.Live.{is_equal, in_group, kept, infos, without_earliest, live_among, has_begun, has_ended}
use Rattle.aat_map.specs.inside.Firsts.{first_of, firsts_of, present, AreApart, AreGrouped, AreGroupsOf}
use Rattle.aat_map.proofs.Truth.{true_not_false}
use Rattle.aat_map.proofs.GatherLemmas.{IsDistinct, group_trans, group_sym, any_kept_step, kept_distinct, kept_more}
use Rattle.aat_map.proofs.FirstLemmas.{apart_from, group_self, false_is}

abbrev of_group : feature_info_t → feature_info_t → Bool
of_group g j = in_group j g

abbrev of_others : feature_info_t → feature_info_t → Bool
of_others g j = not (in_group j g)

abbrev apart_of : feature_info_t → feature_info_t → Bool
apart_of i j = not (in_group i j)

abbrev there : Option feature_info_t → List feature_info_t
there None = []
there (Some i) = i ∷ []

-- two filters, of which one passes nothing that the other passes
none_step :
    (b c : Bool) (x : feature_info_t) (q : feature_info_t → Bool) (fs : List feature_info_t) → q x ≡ c
    → (c ≡ true → b ≡ false) → filter q fs ≡ [] → filter q (cond b (x ∷ fs) fs) ≡ []
none_step true true x q fs e h none = absurd (true_not_false (h refl))
none_step true false x q fs e h none = ap (λ d. cond d (x ∷ filter q fs) (filter q fs)) e ∙ none
none_step false c x q fs e h none = none

none_both :
    (p q : feature_info_t → Bool) (xs : List feature_info_t) → ((x : feature_info_t) → q x ≡ true → p x ≡ false)
    → filter q (filter p xs) ≡ []
none_both p q [] h = refl
none_both p q (x ∷ xs) h = none_step (p x) (q x) x q (filter p xs) refl (h x) (none_both p q xs h)

-- two filters, of which one passes all that the other passes
inside_step :
    (b c : Bool) (x : feature_info_t) (q : feature_info_t → Bool) (fs gs : List feature_info_t) → q x ≡ c
    → (c ≡ true → b ≡ true) → filter q fs ≡ gs → filter q (cond b (x ∷ fs) fs) ≡ cond c (x ∷ gs) gs
inside_step true c x q fs gs e h same = ap (λ d. cond d (x ∷ filter q fs) (filter q fs)) e ∙ ap (λ l. cond c (x ∷ l) l) same
inside_step false true x q fs gs e h same = absurd (true_not_false (sym (h refl)))
inside_step false false x q fs gs e h same = same

inside :
    (p q : feature_info_t → Bool) (xs : List feature_info_t) → ((x : feature_info_t) → q x ≡ true → p x ≡ true)
    → filter q (filter p xs) ≡ filter q xs
inside p q [] h = refl
inside p q (x ∷ xs) h = inside_step (p x) (q x) x q (filter p xs) (filter q xs) refl (h x) (inside p q xs h)

swapped_step :
    (b c : Bool) (x : feature_info_t) (p q : feature_info_t → Bool) (ps qs : List feature_info_t) → p x ≡ b → q x ≡ c
    → filter q ps ≡ filter p qs → filter q (cond b (x ∷ ps) ps) ≡ filter p (cond c (x ∷ qs) qs)
swapped_step true true x p q ps qs e f h =
    ap (λ d. cond d (x ∷ filter q ps) (filter q ps)) f ∙ ap (λ l. x ∷ l) h
    ∙ sym (ap (λ d. cond d (x ∷ filter p qs) (filter p qs)) e)
swapped_step true false x p q ps qs e f h = ap (λ d. cond d (x ∷ filter q ps) (filter q ps)) f ∙ h
swapped_step false true x p q ps qs e f h = h ∙ sym (ap (λ d. cond d (x ∷ filter p qs) (filter p qs)) e)
swapped_step false false x p q ps qs e f h = h

swapped :
    (p q : feature_info_t → Bool) (xs : List feature_info_t) → filter q (filter p xs) ≡ filter p (filter q xs)
swapped p q [] = refl
swapped p q (x ∷ xs) = swapped_step (p x) (q x) x p q (filter p xs) (filter q xs) refl refl (swapped p q xs)

-- of a group the first is kept
first_step :
    (b : Bool) (i g : feature_info_t) (ks : List feature_info_t) (f : Option feature_info_t) → in_group i g ≡ b
    → filter (of_group g) ks ≡ there f
    → cond b (i ∷ filter (of_group g) (filter (apart_of i) ks)) (filter (of_group g) (filter (apart_of i) ks))
    ≡ there (cond b (Some i) f)
first_step true i g ks f e h =
    ap (λ l. i ∷ l)
    (none_both (apart_of i) (of_group g) ks (λ j k. ap not (group_trans i g j e (group_sym j g k))))
first_step false i g ks f e h =
    inside (apart_of i) (of_group g) ks
    (λ j k. ap not (false_is (in_group i j) (λ m. true_not_false (sym (group_trans i j g m k) ∙ e)))) ∙ h

first_kept :
    (list : List feature_info_t) (g : feature_info_t) → filter (of_group g) (kept list) ≡ there (first_of list g)
first_kept [] g = refl
first_kept (i ∷ is) g = first_step (in_group i g) i g (kept is) (first_of is g) refl (first_kept is g)

not_false : (b : Bool) → not b ≡ true → b ≡ false
not_false true h = absurd (true_not_false (sym h))
not_false false h = refl

-- of the others the same are kept
others_step :
    (b : Bool) (i g : feature_info_t) (is ks : List feature_info_t) → in_group i g ≡ b → ks ≡ kept is
    → filter (of_others g) ks ≡ kept (filter (of_others g) is)
    → cond (not b) (i ∷ filter (of_others g) (filter (apart_of i) ks)) (filter (of_others g) (filter (apart_of i) ks))
    ≡ kept (cond (not b) (i ∷ filter (of_others g) is) (filter (of_others g) is))
others_step true i g is ks e k h =
    inside (apart_of i) (of_others g) ks
    (λ j m. ap not (false_is (in_group i j) (λ n. true_not_false (sym (group_trans j i g (group_sym i j n) e) ∙ not_false _ m)))) ∙ h
others_step false i g is ks e k h =
    ap (λ l. i ∷ l) (swapped (apart_of i) (of_others g) ks ∙ ap (filter (apart_of i)) h)

others_kept :
    (list : List feature_info_t) (g : feature_info_t)
    → filter (of_others g) (kept list) ≡ kept (filter (of_others g) list)
others_kept [] g = refl
others_kept (i ∷ is) g = others_step (in_group i g) i g is (kept is) refl refl (others_kept is g)

-- the first of another group is the first of what remains
remains_step :
    (b : Bool) (i g h : feature_info_t) (xs : List feature_info_t) (f : Option feature_info_t) → in_group i g ≡ b
    → in_group g h ≡ false → f ≡ first_of xs h
    → cond (in_group i h) (Some i) f ≡ first_of (cond (not b) (i ∷ xs) xs) h
remains_step true i g h xs f e apart same =
    ap (λ c. cond c (Some i) f) (apart_from i g h e apart) ∙ same
remains_step false i g h xs f e apart same = ap (λ o. cond (in_group i h) (Some i) o) same

remains :
    (list : List feature_info_t) (g h : feature_info_t) → in_group g h ≡ false
    → first_of list h ≡ first_of (filter (of_others g) list) h
remains [] g h apart = refl
remains (i ∷ is) g h apart =
    remains_step (in_group i g) i g h (filter (of_others g) is) (first_of is h) refl apart (remains is g h apart)

all_remain :
    (gs list : List feature_info_t) (g : feature_info_t) → AllByRecursion (λ h. in_group g h ≡ false) gs
    → firsts_of gs list ≡ firsts_of gs (filter (of_others g) list)
all_remain [] list g apart = refl
all_remain (h ∷ hs) list g apart =
    ap (λ o. o ∷ firsts_of hs list) (remains list g h apart.0)
    ∙ ap (λ os. first_of (filter (of_others g) list) h ∷ os) (all_remain hs list g apart.1)

-- what remains is of one of the other groups
grouped_step :
    (b : Bool) (i g : feature_info_t) (gs xs : List feature_info_t) → in_group i g ≡ b
    → (in_group g i || list_any (λ h. in_group h i) gs) ≡ true → AreGrouped gs xs
    → AreGrouped gs (cond (not b) (i ∷ xs) xs)
grouped_step true i g gs xs e one rest = rest
grouped_step false i g gs xs e one rest =
    let other : in_group g i ≡ false = false_is (in_group g i) (λ k. true_not_false (sym (group_sym g i k) ∙ e)) in
    (rw other at one, rest)

grouped_rest :
    (gs list : List feature_info_t) (g : feature_info_t) → AreGrouped (g ∷ gs) list
    → AreGrouped gs (filter (of_others g) list)
grouped_rest gs [] g h = tt
grouped_rest gs (i ∷ is) g h = grouped_step (in_group i g) i g gs (filter (of_others g) is) refl h.0 (grouped_rest gs is g h.1)

present_is : (o : Option feature_info_t) (os : List (Option feature_info_t)) → present (o ∷ os) ≡ there o ++ present os
present_is None os = refl
present_is (Some i) os = refl

-- what is kept is the first of each group, in some order
pub kept_present :
    (gs list : List feature_info_t) → AreApart gs → AreGrouped gs list
    → IsPermutation (kept list) (present (firsts_of gs list))
kept_present [] [] apart grouped = IsPermutation-refl []
kept_present [] (i ∷ is) apart grouped = absurd (true_not_false (sym grouped.0))
kept_present (g ∷ gs) list apart grouped =
    let rest = filter (of_others g) list in
    let later : IsPermutation (kept rest) (present (firsts_of gs rest)) = kept_present gs rest apart.1 (grouped_rest gs list g grouped) in
    let parts : IsPermutation (kept list) (filter (of_group g) (kept list) ++ filter (of_others g) (kept list)) =
    IsPermutation-filter_both (of_group g) (of_others g) (λ j. refl) (kept list) in
    let is : filter (of_group g) (kept list) ++ filter (of_others g) (kept list) ≡ there (first_of list g) ++ kept rest =
    ap (λ l. l ++ filter (of_others g) (kept list)) (first_kept list g) ∙ ap (λ l. there (first_of list g) ++ l) (others_kept list g) in
    let whole : there (first_of list g) ++ present (firsts_of gs rest) ≡ present (firsts_of (g ∷ gs) list) =
    ap (λ os. there (first_of list g) ++ present os) (sym (all_remain gs list g apart.0)) ∙ sym (present_is (first_of list g) (firsts_of gs list)) in
    IsPermutation-trans (kept list) (there (first_of list g) ++ kept rest) (present (firsts_of (g ∷ gs) list))
    (rw is at parts)
    (rw whole at (IsPermutation-append_right (there (first_of list g)) (kept rest) (present (firsts_of gs rest)) later))

-- each of a list is of a group that is kept
any_kept :
    (i : feature_info_t) (xs : List feature_info_t)
    → list_any (λ g. in_group g i) xs ≡ list_any (λ g. in_group g i) (kept xs)
any_kept i [] = refl
any_kept i (x ∷ xs) =
    ap (λ b. in_group x i || b) (any_kept i xs) ∙ sym (any_kept_step (in_group x i) x i (kept xs) refl)

grouped_more :
    (x : feature_info_t) (xs ys : List feature_info_t) → AreGrouped xs ys → AreGrouped (x ∷ xs) ys
grouped_more x xs [] h = tt
grouped_more x xs (y ∷ ys) h = (rw h.0 (or-true (in_group x y)), grouped_more x xs ys h.1)

grouped_self : (xs : List feature_info_t) → AreGrouped xs xs
grouped_self [] = tt
grouped_self (x ∷ xs) = (rw (group_self x) refl, grouped_more x xs xs (grouped_self xs))

grouped_kept : (xs ys : List feature_info_t) → AreGrouped xs ys → AreGrouped (kept xs) ys
grouped_kept xs [] h = tt
grouped_kept xs (y ∷ ys) h = (sym (any_kept y xs) ∙ h.0, grouped_kept xs ys h.1)

-- so is what is live of them
without_step :
    (P : feature_info_t → Type 0) (b : Bool) (x : feature_info_t) (xs ys : List feature_info_t) → P x
    → AllByRecursion P xs → AllByRecursion P ys → AllByRecursion P (cond b xs (x ∷ ys))
without_step P true x xs ys h k l = k
without_step P false x xs ys h k l = (h, l)

without_all :
    (P : feature_info_t → Type 0) (i : feature_info_t) (xs : List feature_info_t)
    → AllByRecursion P xs → AllByRecursion P (without_earliest xs i)
without_all P i [] h = tt
without_all P i (x ∷ xs) h = without_step P (is_equal x i) x xs (without_earliest xs i) h.0 h.1 (without_all P i xs h.1)

taken_all :
    (P : feature_info_t → Type 0) (is xs : List feature_info_t)
    → AllByRecursion P xs → AllByRecursion P (fold without_earliest xs is)
taken_all P [] xs h = h
taken_all P (i ∷ is) xs h = taken_all P is (without_earliest xs i) (without_all P i xs h)

begun_step :
    (P : feature_info_t → Type 0) (b : Bool) (r : feature_range_t) (rs : List feature_range_t) → P r.info
    → AllByRecursion P (infos rs) → AllByRecursion P (infos (cond b (r ∷ rs) rs))
begun_step P true r rs h k = (h, k)
begun_step P false r rs h k = k

begun_all :
    (P : feature_info_t → Type 0) (p : feature_range_t → Bool) (rs : List feature_range_t)
    → AllByRecursion P (infos rs) → AllByRecursion P (infos (filter p rs))
begun_all P p [] h = tt
begun_all P p (r ∷ rs) h = begun_step P (p r) r (filter p rs) h.0 (begun_all P p rs h.1)

-- what is kept of what is live, from the first of each group of requests
pub live_present :
    (x : ℕ) (ordered : List feature_range_t) (groups : List feature_info_t) (active : List feature_info_t)
    → AreGroupsOf (infos ordered) groups → active ≡ live_among x ordered
    → IsPermutation (kept active) (present (firsts_of groups active))
live_present x ordered groups active one_each live =
    let each : AreGrouped groups (live_among x ordered) =
    taken_all (λ i. list_any (λ g. in_group g i) groups ≡ true) (infos (filter (has_ended x) ordered)) (infos (filter (has_begun x) ordered))
    (begun_all (λ i. list_any (λ g. in_group g i) groups ≡ true) (has_begun x) ordered one_each.each) in
    rw live (kept_present groups (live_among x ordered) one_each.apart each)

-- what is so of each element
each_of :
    (P : feature_info_t → Type 0) (xs : List feature_info_t)
    → ((j : ℕ) (d : feature_info_t) → j < length xs → P (get_or xs j d)) → AllByRecursion P xs
each_of P [] h = tt
each_of P (x ∷ xs) h = (h 0 x (omega arith), each_of P xs (λ j d low. h (suc j) d (omega (arith, low))))

-- what is of different groups at different places is apart
apart_from_distinct : (xs : List feature_info_t) → IsDistinct xs → AreApart xs
apart_from_distinct [] distinct = tt
apart_from_distinct (x ∷ xs) distinct = (
  each_of (λ h. in_group x h ≡ false) xs (λ j d low. distinct 0 (suc j) d (omega arith) (omega (arith, low)) (λ same. absurd (omega (arith, same)))),
  apart_from_distinct xs (λ i j d low high other. distinct (suc i) (suc j) d (omega (arith, low)) (omega (arith, high)) (λ same. other (omega (arith, same)))),
)

grouped_moved :
    (xs ys list : List feature_info_t) → IsPermutation xs ys → AreGrouped xs list → AreGrouped ys list
grouped_moved xs ys [] moved h = tt
grouped_moved xs ys (i ∷ is) moved h =
    (sym (list_any-IsPermutation (λ g. in_group g i) xs ys moved) ∙ h.0, grouped_moved xs ys is moved h.1)

-- what is kept of a list, in any order, is one of each group
pub groups_moved :
    (list groups : List feature_info_t) → IsPermutation (kept list) groups → AreGroupsOf list groups
groups_moved list groups moved = record {
  apart = apart_from_distinct groups (kept_distinct list groups moved);
  each = grouped_moved (kept list) groups list moved (grouped_kept list list (grouped_self list));
}

-- of one request more the group is there where it is new
pub group_more :
    (rs : List feature_range_t) (ys zs : List feature_info_t) (r : feature_range_t) (i : ℕ) → i < length rs
    → r ≡ get_or rs i r → ys ≡ kept (infos (take i rs))
    → zs ≡ ys ++ cond (list_any (λ j. in_group j r.info) ys) [] (r.info ∷ []) → zs ≡ kept (infos (take (i + 1) rs))
group_more rs ys zs r i below read was now =
    now ∙ ap (λ (ks : List feature_info_t). ks ++ cond (list_any (λ j. in_group j r.info) ks) [] (r.info ∷ [])) was
    ∙ sym (kept_more (infos (take i rs)) r.info)
    ∙ ap kept
    (sym (map-append (λ (q : feature_range_t). q.info) (take i rs) (r ∷ []))
    ∙ ap infos (ap (λ q. take i rs ++ (q ∷ [])) read ∙ sym (take_more rs i r below)))

present_append :
    (xs ys : List (Option feature_info_t)) → present (xs ++ ys) ≡ present xs ++ present ys
present_append [] ys = refl
present_append (None ∷ xs) ys = present_append xs ys
present_append (Some i ∷ xs) ys = ap (λ l. i ∷ l) (present_append xs ys)

-- one more of what is there
pub present_more :
    (os : List (Option feature_info_t)) (ys zs : List feature_info_t) (o : Option feature_info_t) (i : ℕ)
    → i < length os → o ≡ get_or os i o → ys ≡ present (take i os) → zs ≡ ys ++ present (o ∷ [])
    → zs ≡ present (take (i + 1) os)
present_more os ys zs o i below read was now =
    now ∙ ap (λ l. l ++ present (o ∷ [])) was
    ∙ sym (present_append (take i os) (o ∷ []))
    ∙ ap present (ap (λ q. take i os ++ (q ∷ [])) read ∙ sym (take_more os i o below))
