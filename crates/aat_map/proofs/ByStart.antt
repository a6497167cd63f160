-- A stable sort by start gives the requests in order of start and then of adding.
use Rattle.std.proofs.Common.{◌≡◌, ◌∙◌, ap, sym, refl, ℕ, suc, ◌<◌, ◌≤◌, Bool, true, false, cond, leb, ◌==◌, List, [], ◌∷◌, ◌++◌, filter, fold, length, arith, nat_le, slice_index_or}
use Rattle.std.specs.List.Sorted.{IsNonDecreasingBy, IsStableByKey, ties}
use Rattle.std.specs.Ordering.{is_lt, nat_cmp}
use Rattle.std.proofs.lemmas.List.{append-nil, append_assoc}
use Rattle.std.proofs.lemmas.List.Elements.{filter-append, filter_agree}
use Rattle.std.proofs.lemmas.List.Sorted.{IsNonDecreasingBy-short}
use Rattle.std.proofs.lemmas.Bool.Decides.{nat_tests}
use Rattle.aat_map.specs.declared.feature.feature_range_t.{feature_range_t}
use Rattle.aat_map.specs.Live.{placed_by_start}
use Rattle.aat_map.proofs.WalkLemmas.{nothing_left, placed_rising, ordered_rising}

abbrev pub at_start : ℕ → feature_range_t → Bool
at_start s r = r.start == s

abbrev pub Rises : List feature_range_t → Type 0
Rises rs = IsNonDecreasingBy (λ r. r.start) rs

rest_rises : (r : feature_range_t) (rs : List feature_range_t) → Rises (r ∷ rs) → Rises rs
rest_rises r rs up = λ i j d le lt. up (suc i) (suc j) d (omega arith) (omega arith)

-- one that starts before the others may stand behind them, for those of one start
last_step :
    (t : feature_range_t → Bool) (b : Bool) (r : feature_range_t) (rs : List feature_range_t) → t r ≡ b
    → (b ≡ true → filter t rs ≡ [])
    → cond b (r ∷ filter t rs) (filter t rs) ≡ filter t rs ++ cond b (r ∷ []) []
last_step t true r rs e none = ap (λ l. r ∷ l) (none refl) ∙ sym (ap (λ l. l ++ (r ∷ [])) (none refl))
last_step t false r rs e none = sym (append-nil (filter t rs))

moved_last :
    (s : ℕ) (r : feature_range_t) (rs : List feature_range_t)
    → ((j : ℕ) (d : feature_range_t) → j < length rs → r.start < (slice_index_or rs j d).start)
    → filter (at_start s) (r ∷ rs) ≡ filter (at_start s) (rs ++ r ∷ [])
moved_last s r rs later =
    last_step (at_start s) (at_start s r) r rs refl
    (λ e. nothing_left (at_start s) rs (λ j d lt. let h = later j d lt in grind (arith, nat_tests, e, h)))
    ∙ sym (filter-append (at_start s) rs (r ∷ []))

placed_step :
    (s : ℕ) (b : Bool) (q r : feature_range_t) (qs ps : List feature_range_t) → nat_le q.start r.start ≡ b
    → Rises (q ∷ qs) → filter (at_start s) ps ≡ filter (at_start s) (qs ++ r ∷ [])
    → filter (at_start s) (cond b (q ∷ ps) (r ∷ (q ∷ qs))) ≡ filter (at_start s) ((q ∷ qs) ++ r ∷ [])
placed_step s true q r qs ps e up h = ap (λ l. cond (at_start s q) (q ∷ l) l) h
placed_step s false q r qs ps e up h =
    moved_last s r (q ∷ qs) (λ j d lt. let first = up 0 j d (omega arith) lt in grind (arith, nat_tests, e, first))

placed_alike :
    (s : ℕ) (qs : List feature_range_t) (r : feature_range_t) → Rises qs
    → filter (at_start s) (placed_by_start qs r) ≡ filter (at_start s) (qs ++ r ∷ [])
placed_alike s [] r up = refl
placed_alike s (q ∷ qs) r up =
    placed_step s (nat_le q.start r.start) q r qs (placed_by_start qs r) refl up (placed_alike s qs r (rest_rises q qs up))

-- in order of start those of one start are as they were added
ordered_alike :
    (s : ℕ) (qs rs : List feature_range_t) → Rises qs
    → filter (at_start s) (fold placed_by_start qs rs) ≡ filter (at_start s) (qs ++ rs)
ordered_alike s qs [] up = ap (filter (at_start s)) (sym (append-nil qs))
ordered_alike s qs (r ∷ rs) up =
    ordered_alike s (placed_by_start qs r) rs (placed_rising qs r up)
    ∙ filter-append (at_start s) (placed_by_start qs r) rs
    ∙ ap (λ l. l ++ filter (at_start s) rs) (placed_alike s qs r up)
    ∙ sym (filter-append (at_start s) (qs ++ r ∷ []) rs)
    ∙ ap (filter (at_start s)) (append_assoc qs (r ∷ []) rs)

self_start : (r : feature_range_t) → at_start r.start r ≡ true
self_start r = grind (arith, nat_tests)

-- those of its start begin with the first
own_first :
    (y : feature_range_t) (ys : List feature_range_t)
    → filter (at_start y.start) (y ∷ ys) ≡ y ∷ filter (at_start y.start) ys
own_first y ys = ap (λ b. cond b (y ∷ filter (at_start y.start) ys) (filter (at_start y.start) ys)) (self_start y)

no_first :
    (y : feature_range_t) (ys : List feature_range_t) → y ∷ ys ≡ [] → ⊥
no_first y ys h = cc

starts_by :
    (y z : feature_range_t) (ys zs : List feature_range_t) → Rises (z ∷ zs)
    → filter (at_start y.start) (y ∷ ys) ≡ filter (at_start y.start) (z ∷ zs) → z.start ≤ y.start
starts_by y z ys zs up h = by_place (leb z.start y.start) refl
  where
    by_place : (b : Bool) → leb z.start y.start ≡ b → z.start ≤ y.start
    by_place true e = grind (arith, nat_tests, e)
    by_place false e =
        let none : filter (at_start y.start) (z ∷ zs) ≡ [] =
        nothing_left (at_start y.start) (z ∷ zs) (λ j d lt. let first = up 0 j d (omega arith) lt in grind (arith, nat_tests, e, first)) in
        absurd (no_first y (filter (at_start y.start) ys) (sym (own_first y ys) ∙ h ∙ none))

first_same : (y z : feature_range_t) (ys zs : List feature_range_t) → y ∷ ys ≡ z ∷ zs → y ≡ z
first_same y z ys zs h = cc

rest_same : (y z : feature_range_t) (ys zs : List feature_range_t) → y ∷ ys ≡ z ∷ zs → ys ≡ zs
rest_same y z ys zs h = cc

rest_step :
    (b : Bool) (y z : feature_range_t) (fs gs : List feature_range_t)
    → cond b (y ∷ fs) fs ≡ cond b (z ∷ gs) gs → fs ≡ gs
rest_step true y z fs gs h = rest_same y z fs gs h
rest_step false y z fs gs h = h

-- two lists that rise and have the same of each start are one
pub one_order :
    (ys zs : List feature_range_t) → Rises ys → Rises zs
    → ((s : ℕ) → filter (at_start s) ys ≡ filter (at_start s) zs) → ys ≡ zs
one_order [] [] uy uz h = refl
one_order [] (z ∷ zs) uy uz h = absurd (no_first z (filter (at_start z.start) zs) (sym (own_first z zs) ∙ sym (h z.start)))
one_order (y ∷ ys) [] uy uz h = absurd (no_first y (filter (at_start y.start) ys) (sym (own_first y ys) ∙ h y.start))
one_order (y ∷ ys) (z ∷ zs) uy uz h =
    let le = starts_by y z ys zs uz (h y.start) in
    let ge = starts_by z y zs ys uy (sym (h z.start)) in
    let level : z.start ≡ y.start = omega arith in
    let at : filter (at_start y.start) (z ∷ zs) ≡ z ∷ filter (at_start y.start) zs =
    ap (λ s. filter (at_start s) (z ∷ zs)) (sym level) ∙ own_first z zs ∙ ap (λ s. z ∷ filter (at_start s) zs) level in
    let first : y ≡ z = first_same y z (filter (at_start y.start) ys) (filter (at_start y.start) zs) (sym (own_first y ys) ∙ h y.start ∙ at) in
    let rest : ys ≡ zs = one_order ys zs (rest_rises y ys uy) (rest_rises z zs uz)
    (λ s. rest_step (at_start s z) y z (filter (at_start s) ys) (filter (at_start s) zs)
    (sym (ap (λ r. cond (at_start s r) (y ∷ filter (at_start s) ys) (filter (at_start s) ys)) first) ∙ h s)) in
    ap (λ r. r ∷ ys) first ∙ ap (λ l. z ∷ l) rest

tied : (s : ℕ) (r x : feature_range_t) → x.start ≡ s → at_start s r ≡ ties (λ a b. is_lt (nat_cmp a.start b.start)) x r
tied s r x e = grind (arith, nat_tests, e)

-- what a stable sort by start makes of a list
pub stable_is :
    (xs ys : List feature_range_t) → Rises ys → IsStableByKey (λ r. r.start) nat_cmp xs ys
    → ys ≡ fold placed_by_start [] xs
stable_is xs ys up stays =
    let none : Rises [] = IsNonDecreasingBy-short (λ (q : feature_range_t). q.start) [] (omega arith) in
    one_order ys (fold placed_by_start [] xs) up (ordered_rising [] xs none)
    (λ s.
    let x : feature_range_t = record { info = record { kind = 0; setting = 0; is_exclusive = false }; start = s; end = 0 } in
    filter_agree (at_start s) (ties (λ a b. is_lt (nat_cmp a.start b.start)) x) (λ r. tied s r x refl) ys
    ∙ stays x
    ∙ sym (filter_agree (at_start s) (ties (λ a b. is_lt (nat_cmp a.start b.start)) x) (λ r. tied s r x refl) xs)
    ∙ sym (ordered_alike s [] xs none))
