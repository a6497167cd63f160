-- What is kept of a setting's groups is looked for where they stand.
use Rattle.std.proofs.Common.{◌≡◌, ◌∙◌, ap, sym, refl, ℕ, zero, suc, ◌+◌, ◌<◌, ◌≤◌, ◌==◌, ◌&&◌, ◌||◌, Bool, true, false, not, cond, List, [], ◌∷◌, ◌++◌, map, fold, take, drop, get_or, length, arith, Option, Some, None, Vec, bit_and, bit_or}
use Rattle.std.specs.List.{AllByRecursion, prefix_len}
use Rattle.std.proofs.lemmas.List.{get_or-map, length-map, map-append, map_more, take_more}
use Rattle.std.proofs.lemmas.List.Folds.{length-prefix_len}
use Rattle.std.proofs.lemmas.List.Sums.{fold_push}
use Rattle.std.proofs.lemmas.Bool.Decides.{nat_tests}
use Rattle.aat_machine_tables.specs.declared.morx.Chain.{Chain}
use Rattle.aat_machine_tables.specs.declared.morx.ChainFeature.{ChainFeature}
use Rattle.aat_map.specs.declared.feature.feature_info_t.{feature_info_t}
use Rattle.aat_map.specs.ChainFlags.{is_asked, after_feature}
use Rattle.aat_map.specs.Live.{in_group, has_setting}
use Rattle.aat_map.specs.inside.Firsts.{first_of, firsts_of, present, AreApart}
use Rattle.aat_map.specs.inside.Placed.{setting_of, place_in, places_of, places_for, place_lists, has_at, has_first}
use Rattle.aat_map.proofs.Truth.{true_not_false}
use Rattle.aat_map.proofs.FirstLemmas.{apart_from, false_is}

one_more : (n : ℕ) → 1 + n ≡ suc n
one_more n = omega arith

-- behind a group that is not a setting's
behind_step :
    (b : Bool) (o : Option feature_info_t) (os : List (Option feature_info_t)) (n v : ℕ) → b ≡ false
    → has_at (o ∷ os) (cond (not b) (1 + n) 0) v ≡ has_at os n v
behind_step true o os n v e = absurd (true_not_false e)
behind_step false o os n v e = rw (one_more n) refl

-- a setting of a group that is apart from each of these is none of their firsts
absent :
    (gs list : List feature_info_t) (x g : feature_info_t) (v : ℕ) → in_group x g ≡ true
    → AllByRecursion (λ h. in_group g h ≡ false) gs
    → has_at (firsts_of gs list) (prefix_len (λ h. not (in_group x h)) gs) v ≡ false
absent [] list x g v e apart = refl
absent (h ∷ hs) list x g v e apart =
    behind_step (in_group x h) (first_of list h) (firsts_of hs list) (prefix_len (λ k. not (in_group x k)) hs) v (apart_from x g h e apart.0)
    ∙ absent hs list x g v e apart.1

-- the first of a group is of it
abbrev IsOf : feature_info_t → Option feature_info_t → Type 0
IsOf g None = Unit {0}
IsOf g (Some i) = in_group i g ≡ true

of_step :
    (b : Bool) (i g : feature_info_t) (o : Option feature_info_t) → in_group i g ≡ b → IsOf g o → IsOf g (cond b (Some i) o)
of_step true i g o e h = e
of_step false i g o e h = h

first_is_of : (list : List feature_info_t) (g : feature_info_t) → IsOf g (first_of list g)
first_is_of [] g = tt
first_is_of (i ∷ is) g = of_step (in_group i g) i g (first_of is g) refl (first_is_of is g)

same_kind :
    (a i g : feature_info_t) → in_group a g ≡ true → in_group i g ≡ true → (i.kind == a.kind) ≡ true
same_kind a i g e f = grind (arith, nat_tests, e, f)

-- one that has a kind and setting is of one of their two groups
of_two :
    (k v : ℕ) (i g : feature_info_t) → in_group i g ≡ true → in_group (setting_of false k v) g ≡ false
    → in_group (setting_of true k v) g ≡ false → ((i.kind == k) && (i.setting == v)) ≡ false
of_two k v i g e f h = false_is ((i.kind == k) && (i.setting == v)) (λ is. by_kind is i.is_exclusive refl)
  where
    by_kind : ((i.kind == k) && (i.setting == v)) ≡ true → (x : Bool) → i.is_exclusive ≡ x → ⊥
    by_kind is true ex =
        let kind_is : i.kind ≡ k = grind (arith, nat_tests, is) in
        let setting_is : i.setting ≡ v = grind (arith, nat_tests, is) in
        let same : in_group i g ≡ in_group (setting_of true k v) g = rw (kind_is, setting_is, ex) refl in
        true_not_false (sym e ∙ same ∙ h)
    by_kind is false ex =
        let kind_is : i.kind ≡ k = grind (arith, nat_tests, is) in
        let setting_is : i.setting ≡ v = grind (arith, nat_tests, is) in
        let same : in_group i g ≡ in_group (setting_of false k v) g = rw (kind_is, setting_is, ex) refl in
        true_not_false (sym e ∙ same ∙ f)

turned : (a b : Bool) → (a || (b || false)) ≡ (b || a)
turned true true = refl
turned true false = refl
turned false true = refl
turned false false = refl

twice : (a : Bool) → (a || (false || false)) ≡ (a || a)
twice true = refl
twice false = refl

module _ (k v : ℕ) (g : feature_info_t) (os : List (Option feature_info_t)) (n m : ℕ)
    (rest : has_setting (present os) k v ≡ (has_at os n v || has_at os m v)) where
  none_step :
      (b c : Bool) → (b ≡ true → has_at os n v ≡ false) → (c ≡ true → has_at os m v ≡ false)
      → has_setting (present os) k v
      ≡ (has_at (None ∷ os) (cond (not b) (1 + n) 0) v || has_at (None ∷ os) (cond (not c) (1 + m) 0) v)
  none_step true true p q = rest ∙ ap (λ b. b || has_at os m v) (p refl) ∙ q refl
  none_step true false p q = rw (one_more m) (rest ∙ ap (λ b. b || has_at os m v) (p refl))
  none_step false true p q = rw (one_more n) (rest ∙ ap (λ b. has_at os n v || b) (q refl))
  none_step false false p q = rw (one_more n, one_more m) rest

  some_step :
      (b c : Bool) (i : feature_info_t) → (b ≡ true → (i.kind == k) ≡ true) → (c ≡ true → (i.kind == k) ≡ true)
      → (b ≡ false → c ≡ false → ((i.kind == k) && (i.setting == v)) ≡ false)
      → (b ≡ true → has_at os n v ≡ false) → (c ≡ true → has_at os m v ≡ false)
      → (((i.kind == k) && (i.setting == v)) || has_setting (present os) k v)
      ≡ (has_at (Some i ∷ os) (cond (not b) (1 + n) 0) v || has_at (Some i ∷ os) (cond (not c) (1 + m) 0) v)
  some_step true true i kb kc other p q =
      ap (λ t. (t && (i.setting == v)) || has_setting (present os) k v) (kb refl)
      ∙ ap (λ t. (i.setting == v) || t) (rest ∙ ap (λ t. t || has_at os m v) (p refl) ∙ ap (λ t. false || t) (q refl))
      ∙ twice (i.setting == v)
  some_step true false i kb kc other p q =
      rw (one_more m)
      (ap (λ t. (t && (i.setting == v)) || has_setting (present os) k v) (kb refl)
      ∙ ap (λ t. (i.setting == v) || t) (rest ∙ ap (λ t. t || has_at os m v) (p refl)))
  some_step false true i kb kc other p q =
      rw (one_more n)
      (ap (λ t. (t && (i.setting == v)) || has_setting (present os) k v) (kc refl)
      ∙ ap (λ t. (i.setting == v) || t) (rest ∙ ap (λ t. has_at os n v || t) (q refl))
      ∙ turned (i.setting == v) (has_at os n v))
  some_step false false i kb kc other p q =
      rw (one_more n, one_more m) (ap (λ t. t || has_setting (present os) k v) (other refl refl) ∙ rest)

  first_step :
      (b c : Bool) (o : Option feature_info_t) → IsOf g o → in_group (setting_of false k v) g ≡ b
      → in_group (setting_of true k v) g ≡ c
      → (b ≡ true → has_at os n v ≡ false) → (c ≡ true → has_at os m v ≡ false)
      → has_setting (present (o ∷ os)) k v
      ≡ (has_at (o ∷ os) (cond (not b) (1 + n) 0) v || has_at (o ∷ os) (cond (not c) (1 + m) 0) v)
  first_step b c None is e f p q = none_step b c p q
  first_step b c (Some i) is e f p q =
      some_step b c i
      (λ on. same_kind (setting_of false k v) i g (e ∙ on) is)
      (λ on. same_kind (setting_of true k v) i g (f ∙ on) is)
      (λ off off'. of_two k v i g is (e ∙ off) (f ∙ off'))
      p q

found :
    (k v : ℕ) (gs list : List feature_info_t) → AreApart gs
    → has_setting (present (firsts_of gs list)) k v
    ≡ (has_at (firsts_of gs list) (prefix_len (λ g. not (in_group (setting_of false k v) g)) gs) v
    || has_at (firsts_of gs list) (prefix_len (λ g. not (in_group (setting_of true k v) g)) gs) v)
found k v [] list apart = refl
found k v (g ∷ gs) list apart =
    first_step k v g (firsts_of gs list) _ _ (found k v gs list apart.1)
    (in_group (setting_of false k v) g) (in_group (setting_of true k v) g) (first_of list g) (first_is_of list g) refl refl
    (λ on. absent gs list (setting_of false k v) g v on apart.0)
    (λ on. absent gs list (setting_of true k v) g v on apart.0)

-- a setting is kept where the first of one of its two groups has it
pub first_has :
    (k v : ℕ) (gs list : List feature_info_t) → AreApart gs
    → has_setting (present (firsts_of gs list)) k v ≡ has_first (firsts_of gs list) (places_of gs k v) v
first_has k v gs list apart =
    found k v gs list apart
    ∙ ap (λ n. has_at (firsts_of gs list) n v || has_at (firsts_of gs list) (prefix_len (λ g. not (in_group (setting_of true k v) g)) gs) v)
    (sym (length-prefix_len (λ g. not (in_group (setting_of false k v) g)) gs))
    ∙ ap (λ n. has_at (firsts_of gs list) (place_in gs (setting_of false k v)) v || has_at (firsts_of gs list) n v)
    (sym (length-prefix_len (λ g. not (in_group (setting_of true k v) g)) gs))

-- one chain feature more
pub asked_more :
    (groups list : List feature_info_t) (firsts : List (Option feature_info_t)) (fs : List ChainFeature)
    (places : List (ℕ × ℕ)) (small p : ℕ × ℕ) (f : ChainFeature) (i default_flags was now : ℕ) (asked : Bool)
    → AreApart groups → firsts ≡ firsts_of groups list
    → places ≡ map (λ (h : ChainFeature). places_of groups h.kind h.setting) fs → small ≡ places_of groups 37 1
    → i < length fs → p ≡ get_or places i p → f ≡ get_or fs i f
    → asked ≡ (has_first firsts p f.setting || ((f.kind == 3) && (f.setting == 3) && has_first firsts small 1))
    → was ≡ fold (after_feature (has_setting (present firsts))) default_flags (take i fs)
    → now ≡ cond asked (bit_or (bit_and was f.disable_flags) f.enable_flags) was
    → now ≡ fold (after_feature (has_setting (present firsts))) default_flags (take (i + 1) fs)
asked_more groups list firsts fs places small p f i default_flags was now asked apart firsts_are places_are small_is below p_read f_read asked_is was_is now_is =
    let has : ℕ → ℕ → Bool = has_setting (present firsts) in
    let place : ChainFeature → ℕ × ℕ = λ h. places_of groups h.kind h.setting in
    let looked : (k v : ℕ) → has_first firsts (places_of groups k v) v ≡ has k v = λ k v.
    ap (λ os. has_first os (places_of groups k v) v) firsts_are
    ∙ sym (first_has k v groups list apart)
    ∙ ap (λ os. has_setting (present os) k v) (sym firsts_are) in
    let p_is : p ≡ place f =
    p_read ∙ ap (λ ps. get_or ps i p) places_are ∙ get_or-map place fs i f p below ∙ ap place (sym f_read) in
    let here : has_first firsts p f.setting ≡ has f.kind f.setting =
    ap (λ q. has_first firsts q f.setting) p_is ∙ looked f.kind f.setting in
    let newer : has_first firsts small 1 ≡ has 37 1 = ap (λ q. has_first firsts q 1) small_is ∙ looked 37 1 in
    let is : asked ≡ is_asked has f =
    asked_is
    ∙ ap (λ b. b || ((f.kind == 3) && (f.setting == 3) && has_first firsts small 1)) here
    ∙ ap (λ b. has f.kind f.setting || ((f.kind == 3) && (f.setting == 3) && b)) newer in
    now_is
    ∙ ap (λ b. cond b (bit_or (bit_and was f.disable_flags) f.enable_flags) was) is
    ∙ ap (λ w. after_feature has w f) was_is
    ∙ sym (fold_push (after_feature has) default_flags (take i fs) f)
    ∙ ap (fold (after_feature has) default_flags) (ap (λ (h : ChainFeature). take i fs ++ (h ∷ [])) f_read ∙ sym (take_more fs i f below))

-- the places for a chain's features, as they are read
pub places_at :
    {Z : Type 0} (vectors : List (Vec (ℕ × ℕ) Z)) (v : Vec (ℕ × ℕ) Z) (groups : List feature_info_t)
    (chains : List Chain) (c : Chain) (i : ℕ)
    → place_lists vectors ≡ map (places_for groups) chains → i < length chains → v ≡ get_or vectors i v
    → c ≡ get_or chains i c → v.items ≡ places_for groups c
places_at {Z} vectors v groups chains c i are below v_read c_read =
    let items : Vec (ℕ × ℕ) Z → List (ℕ × ℕ) = λ w. w.items in
    let many : length vectors ≡ length chains =
    sym (length-map vectors items) ∙ ap length are ∙ length-map chains (places_for groups) in
    ap items v_read
    ∙ sym (get_or-map items vectors i v [] (omega (arith, many, below)))
    ∙ ap (λ ls. get_or ls i []) are
    ∙ get_or-map (places_for groups) chains i c [] below
    ∙ ap (places_for groups) (sym c_read)

-- groups of lower kinds are passed
lower_step :
    (b : Bool) (n p rest : ℕ) → b ≡ false → n ≡ p + rest → cond (not b) (1 + n) 0 ≡ suc p + rest
lower_step true n p rest e h = absurd (true_not_false e)
lower_step false n p rest e h = omega (arith, h)

other_kind : (x g : feature_info_t) → g.kind < x.kind → in_group x g ≡ false
other_kind x g lower = grind (arith, nat_tests, lower)

passed :
    (gs : List feature_info_t) (x : feature_info_t) (p : ℕ) → p ≤ length gs
    → ((i : ℕ) (d : feature_info_t) → i < p → (get_or gs i d).kind < x.kind)
    → prefix_len (λ g. not (in_group x g)) gs ≡ p + prefix_len (λ g. not (in_group x g)) (drop p gs)
passed gs x zero le lower = omega arith
passed [] x (suc p) le lower = absurd (omega (arith, le))
passed (g ∷ gs) x (suc p) le lower =
    lower_step (in_group x g) _ p _ (other_kind x g (lower 0 g (omega arith)))
    (passed gs x p (omega (arith, le)) (λ i d lt. lower (suc i) d (omega (arith, lt))))

-- so a place among groups is looked for behind them
pub place_behind :
    (gs : List feature_info_t) (x : feature_info_t) (p n : ℕ) → p ≤ length gs
    → ((i : ℕ) (d : feature_info_t) → i < p → (get_or gs i d).kind < x.kind)
    → n ≡ place_in (drop p gs) x → p + n ≡ place_in gs x
place_behind gs x p n le lower is =
    let q : feature_info_t → Bool = λ g. not (in_group x g) in
    ap (λ m. p + m) (is ∙ length-prefix_len q (drop p gs)) ∙ sym (passed gs x p le lower) ∙ sym (length-prefix_len q gs)

-- what is made of one thing more is pushed
pub mapped_more :
    {X Y : Type 0} (f : X → Y) (xs : List X) (i : ℕ) (x : X) (done now : List Y) (y : Y)
    → i < length xs → x ≡ get_or xs i x → done ≡ map f (take i xs) → y ≡ f x → now ≡ done ++ y ∷ []
    → now ≡ map f (take (i + 1) xs)
mapped_more {Y = Y} f xs i x done now y below read so_far made pushed =
    pushed
    ∙ ap (λ (ys : List Y). ys ++ y ∷ []) so_far
    ∙ ap (λ (z : Y). map f (take i xs) ++ z ∷ []) (made ∙ ap f read)
    ∙ sym (map_more f xs i x below)

-- a list more in a vector of vectors
pub lists_pushed :
    {Z : Type 0} (vectors now : List (Vec (ℕ × ℕ) Z)) (v : Vec (ℕ × ℕ) Z)
    → now ≡ vectors ++ v ∷ [] → place_lists now ≡ place_lists vectors ++ v.items ∷ []
lists_pushed {Z} vectors now v is = ap place_lists is ∙ map-append (λ (w : Vec (ℕ × ℕ) Z). w.items) vectors (v ∷ [])
