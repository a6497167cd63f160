-- Lists of ranges, and the vectors that hold them.
use Rattle.std.proofs.Common.{refl, zero, true, false, IsTrue, ◌≡◌, ◌∙◌, ap, sym, ℕ, ◌+◌, ◌-◌, ◌<◌, ◌≤◌, Bool, List, [], ◌∷◌, ◌++◌, take, min, length, get_or, set, arith, All, Vec, fold, drop, suc, ◌&&◌, add-one, drop-cons}
use Rattle.std.specs.List.{list_all}
use Rattle.std.proofs.lemmas.Bool.{false≢true}
use Rattle.std.proofs.Math.Seq.{map-set_same}
use Rattle.std.proofs.lemmas.List.{length-map, take-map, take_all, map-set, get_or-map, replicate_more, append_assoc, map_push, same_lists, length-replicate}
use Rattle.std.proofs.lemmas.Grind.{common_steps}
use Rattle.std.proofs.lemmas.List.Elements.{All-append, All-take, All-set, All-replicate}
use Rattle.aat_run.specs.declared.ranges.range_flags_t.{range_flags_t}
use Rattle.aat_run.specs.Ranges.{FollowFrom, IsGapless, is_whole_list, next_start}
use Rattle.aat_map.specs.Map.{list_at, lists, resized}
use Rattle.aat_map.specs.inside.MapLists.{with_range_at}

module _ {Z : Type 0} where
  -- a test of each list from place i on, where v stands there
  all_from :
      (p : List range_flags_t → Bool) (vectors : List (Vec range_flags_t Z)) (i : ℕ) (v : Vec range_flags_t Z)
      → i < length vectors → v ≡ get_or vectors i v
      → list_all p (drop i (lists vectors)) ≡ (p v.items && list_all p (drop (i + 1) (lists vectors)))
  all_from p vectors i v below read =
      let within : i < length (lists vectors) = omega (arith, length-map vectors (λ (v : Vec range_flags_t Z). v.items)) in
      let same : get_or (lists vectors) i v.items ≡ v.items = get_or-map (λ (v : Vec range_flags_t Z). v.items) vectors i v v.items below ∙ sym (ap (λ (v : Vec range_flags_t Z). v.items) read) in
      rw add-one (ap (list_all p) (drop-cons (lists vectors) i v.items within) ∙ ap (λ l. p l && list_all p (drop (suc i) (lists vectors))) same)

  -- so a test of each list comes one list further, where xs is the lists
  pub all_step :
      (p : List range_flags_t → Bool) (vectors : List (Vec range_flags_t Z)) (xs : List (List range_flags_t)) (i : ℕ)
      (v : Vec range_flags_t Z) (b : Bool)
      → lists vectors ≡ xs → i < length vectors → v ≡ get_or vectors i v → b ≡ p v.items
      → list_all p (drop i xs) ≡ list_all p xs
      → (b && list_all p (drop (i + 1) xs)) ≡ list_all p xs
  all_step p vectors xs i v b is below read tested inv =
      ap (λ a. a && list_all p (drop (i + 1) xs)) tested
      ∙ ap (λ ls. p v.items && list_all p (drop (i + 1) ls)) (sym is)
      ∙ sym (all_from p vectors i v below read)
      ∙ ap (λ ls. list_all p (drop i ls)) is
      ∙ inv

  -- a vector with a range more in the place of one
  pub lists_pushed :
      (vectors : List (Vec range_flags_t Z)) (k : ℕ) (was now : Vec range_flags_t Z) (r : range_flags_t)
      → k < length vectors → was ≡ get_or vectors k was → now.items ≡ was.items ++ r ∷ []
      → lists (set vectors k now) ≡ with_range_at (lists vectors) k r
  lists_pushed vectors k was now r below read more =
      map-set (λ (v : Vec range_flags_t Z). v.items) vectors k now
      ∙ ap (set (lists vectors) k) (more ∙ ap (λ (xs : List range_flags_t). xs ++ (r ∷ [])) (ap (λ (v : Vec range_flags_t Z). v.items) read ∙ sym (get_or-map (λ (v : Vec range_flags_t Z). v.items) vectors k was [] below)))

  -- a vector that was not changed in its place
  pub lists_kept :
      (vectors : List (Vec range_flags_t Z)) (k : ℕ) (was now : Vec range_flags_t Z)
      → was ≡ get_or vectors k was → now.items ≡ was.items → lists (set vectors k now) ≡ lists vectors
  lists_kept vectors k was now read same = map-set_same (λ (v : Vec range_flags_t Z). v.items) vectors k now was (same ∙ ap (λ (v : Vec range_flags_t Z). v.items) read)

  pub length_lists : (vectors : List (Vec range_flags_t Z)) → length (lists vectors) ≡ length vectors
  length_lists vectors = length-map vectors (λ (v : Vec range_flags_t Z). v.items)

  -- the first vectors
  pub lists_take : (vectors : List (Vec range_flags_t Z)) (n : ℕ) → lists (take n vectors) ≡ take n (lists vectors)
  lists_take vectors n = sym (take-map (λ (v : Vec range_flags_t Z). v.items) n vectors)

  -- an empty vector more
  pub lists_more :
      (vectors : List (Vec range_flags_t Z)) (v : Vec range_flags_t Z) → v.items ≡ []
      → lists (vectors ++ v ∷ []) ≡ lists vectors ++ [] ∷ []
  lists_more vectors v empty = map_push (λ (v : Vec range_flags_t Z). v.items) vectors v ∙ ap (λ (l : List range_flags_t). lists vectors ++ (l ∷ [])) empty

-- one empty list more
pub resized_more :
    (n : ℕ) (xs : List (List range_flags_t)) → length xs ≤ n → resized n xs ++ [] ∷ [] ≡ resized (n + 1) xs
resized_more n xs le =
    let e : n + 1 - length xs ≡ n - length xs + 1 = omega arith in
    let le' : length xs ≤ n + 1 = omega arith in
    rw (take_all n xs le, take_all (n + 1) xs le', e) (append_assoc xs _ _ ∙ ap (λ ys. xs ++ ys) (replicate_more (n - length xs) []))

-- where only lists past a count went
pub resized_start :
    (count n : ℕ) (xs : List (List range_flags_t)) → n ≡ min (length xs) count → take count xs ≡ resized n xs
resized_start count n xs e = same_lists _ _ (grind (arith, common_steps, length-replicate)) (λ k d h. grind (arith, common_steps))

-- ranges from n on, and one more behind them
follow_more :
    (n : ℕ) (rs : List range_flags_t) (r : range_flags_t) → FollowFrom n rs
    → fold (λ m q. q.cluster_last + 1) n rs ≡ r.cluster_first → r.cluster_first ≤ r.cluster_last
    → FollowFrom n (rs ++ r ∷ [])
follow_more n [] r follow next ordered = (sym next, ordered, tt)
follow_more n (q ∷ qs) r follow next ordered = (follow.0, follow.1, follow_more (q.cluster_last + 1) qs r follow.2 next ordered)

-- a range that follows the others leaves no gap
pub gapless_more :
    (rs : List range_flags_t) (r : range_flags_t) → IsGapless rs → next_start rs ≡ r.cluster_first
    → r.cluster_first ≤ r.cluster_last → IsGapless (rs ++ r ∷ [])
gapless_more rs r gapless next ordered = follow_more 0 rs r gapless next ordered

-- and so in a map
pub gapless_pushed :
    (m : List (List range_flags_t)) (k : ℕ) (r : range_flags_t) → All IsGapless m → k < length m
    → next_start (list_at m k) ≡ r.cluster_first → r.cluster_first ≤ r.cluster_last
    → All IsGapless (with_range_at m k r)
gapless_pushed m k r gapless below next ordered = All-set IsGapless m k (list_at m k ++ (r ∷ [])) (gapless_more (list_at m k) r (gapless k [] below) next ordered) gapless

pub gapless_resized : (n : ℕ) (m : List (List range_flags_t)) → All IsGapless m → All IsGapless (resized n m)
gapless_resized n m gapless = All-append IsGapless (take n m) _ (All-take IsGapless n m gapless) (All-replicate IsGapless (n - length m) [] tt)

-- each list of a whole map is empty or ends at the last cluster, and so is the one of a chain that has none
pub whole_at : (map : List (List range_flags_t)) (k : ℕ) (ranges : List range_flags_t) → IsTrue (list_all is_whole_list map) → ranges ≡ list_at map k → IsTrue (is_whole_list ranges)
whole_at map k ranges whole same = ap is_whole_list same ∙ at_place map k whole
  where
    split : (x y : Bool) → (x && y) ≡ true → (x ≡ true) × (y ≡ true)
    split true true h = (refl, refl)
    split true false h = (refl, h)
    split false y h = absurd (false≢true h)

    at_place : (ls : List (List range_flags_t)) (n : ℕ) → list_all is_whole_list ls ≡ true → is_whole_list (list_at ls n) ≡ true
    at_place [] n h = refl
    at_place (l ∷ ls) zero h = (split (is_whole_list l) (list_all is_whole_list ls) h).0
    at_place (l ∷ ls) (suc n) h = at_place ls n (split (is_whole_list l) (list_all is_whole_list ls) h).1
