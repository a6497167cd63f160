-- Ranges put behind those of each chain.
use Rattle.std.proofs.Common.{◌≡◌, ◌∙◌, ap, sym, refl, ℕ, zero, suc, ◌+◌, ◌<◌, ◌≤◌, List, [], ◌∷◌, ◌++◌, map, take, length, get_or, arith, Result, Ok, Err}
use Rattle.std.proofs.lemmas.Grind.{common_steps}
use Rattle.std.specs.Result.{OnOk}
use Rattle.std.proofs.lemmas.List.{length-replicate, map_push, take_more}
use Rattle.std.proofs.lemmas.Result.{on_ok_weaker}
use Rattle.aat_machine_tables.specs.declared.morx.Chain.{Chain}
use Rattle.aat_map.specs.declared.feature.feature_range_t.{feature_range_t}
use Rattle.aat_map.specs.Builder.{Builder}
use Rattle.aat_map.specs.inside.CompiledSpans.{IsCompiled}
use Rattle.aat_run.specs.declared.ranges.range_flags_t.{range_flags_t}
use Rattle.aat_run.specs.Ranges.{next_start}
use Rattle.aat_map.specs.Map.{list_at, resized, with_ranges}
use Rattle.aat_map.specs.inside.MapLists.{with_range_at}

-- a range behind those of the next chain
pub with_ranges_more :
    (rs : List range_flags_t) (m : List (List range_flags_t)) (r : range_flags_t) → length rs < length m
    → with_range_at (with_ranges rs m) (length rs) r ≡ with_ranges (rs ++ r ∷ []) m
with_ranges_more [] [] r lt = absurd (omega arith)
with_ranges_more [] (l ∷ ls) r lt = refl
with_ranges_more (q ∷ qs) [] r lt = absurd (omega arith)
with_ranges_more (q ∷ qs) (l ∷ ls) r lt = ap (λ xs. (l ++ (q ∷ [])) ∷ xs) (with_ranges_more qs ls r (omega arith))

-- the lists past them are as they were
pub list_at-with_ranges :
    (rs : List range_flags_t) (m : List (List range_flags_t)) (k : ℕ) → length rs ≤ k
    → list_at (with_ranges rs m) k ≡ list_at m k
list_at-with_ranges [] m k le = refl
list_at-with_ranges (q ∷ qs) [] k le = refl
list_at-with_ranges (q ∷ qs) (l ∷ ls) zero le = absurd (omega arith)
list_at-with_ranges (q ∷ qs) (l ∷ ls) (suc k) le = list_at-with_ranges qs ls k (omega arith)

pub length-with_ranges :
    (rs : List range_flags_t) (m : List (List range_flags_t)) → length (with_ranges rs m) ≡ length m
length-with_ranges [] m = refl
length-with_ranges (q ∷ qs) [] = refl
length-with_ranges (q ∷ qs) (l ∷ ls) = ap suc (length-with_ranges qs ls)

pub length-resized : (n : ℕ) (m : List (List range_flags_t)) → length (resized n m) ≡ n
length-resized n m = grind (arith, common_steps, length-replicate)

pub list_at-resized : (n : ℕ) (m : List (List range_flags_t)) (k : ℕ) → k < n → list_at (resized n m) k ≡ list_at m k
list_at-resized n m k lt = grind (arith, common_steps)

pub length_taken : {X Y : Type 0} (f : X → Y) (xs : List X) (i : ℕ) → i < length xs → length (map f (take i xs)) ≡ i
length_taken f xs i below = grind (arith, common_steps)

-- the next list gets its range
pub pushed_more :
    {X : Type 0} (f : X → range_flags_t) (xs : List X) (m ls new : List (List range_flags_t)) (i : ℕ) (x : X) (r : range_flags_t)
    → i < length xs → length m ≡ length xs → x ≡ get_or xs i x
    → ls ≡ with_ranges (map f (take i xs)) m → r ≡ f x → new ≡ with_range_at ls i r
    → new ≡ with_ranges (map f (take (i + 1) xs)) m
pushed_more {X} f xs m ls new i x r lt many read so_far is wrote =
    let taken = map f (take i xs) in
    let same : length taken ≡ i = length_taken f xs i lt in
    let below : length taken < length m = omega (arith, many, same) in
    wrote
    ∙ ap (λ ks. with_range_at ks i r) so_far
    ∙ ap (with_range_at (with_ranges taken m) i) is
    ∙ ap (λ k. with_range_at (with_ranges taken m) k (f x)) (sym same)
    ∙ with_ranges_more taken m (f x) below
    ∙ ap (λ rs. with_ranges rs m) (sym (map_push f (take i xs) x))
    ∙ ap (λ ys. with_ranges (map f ys) m) (ap (λ (y : X). take i xs ++ (y ∷ [])) read ∙ sym (take_more xs i x lt))

-- where the range of the next list follows that list, it follows what stands there when it is put in
pub pushed_follows :
    {X : Type 0} (f : X → range_flags_t) (xs : List X) (m ls : List (List range_flags_t)) (i : ℕ) (x : X) (r : range_flags_t)
    → i < length xs → ls ≡ with_ranges (map f (take i xs)) m → r ≡ f x
    → next_start (list_at m i) ≡ (f x).cluster_first → next_start (list_at ls i) ≡ r.cluster_first
pushed_follows f xs m ls i x r lt so_far is follows =
    let short : length (map f (take i xs)) ≤ i = omega (arith, length_taken f xs i lt) in
    ap next_start (ap (λ ks. list_at ks i) so_far ∙ list_at-with_ranges (map f (take i xs)) m i short)
    ∙ follows
    ∙ sym (ap (λ (q : range_flags_t). q.cluster_first) is)

-- what an answer and its map say, where both were handed on
pub compiled_kept :
    {T E : Type 0} (asked answer : Result T E) (requests : List feature_range_t) (chains : List Chain) (was now : List (List range_flags_t)) (b : Builder)
    → answer ≡ asked → OnOk answer (now ≡ was) → OnOk asked (IsCompiled requests chains was b)
    → OnOk answer (IsCompiled requests chains now b)
compiled_kept asked answer requests chains was now b same kept made = on_ok_weaker answer (λ both. rw both.0 both.1) (on_ok_both answer _ _ kept (rw same made))
  where
    on_ok_both : {T E : Type 0} (r : Result T E) (P Q : Type 0) → OnOk r P → OnOk r Q → OnOk r (P × Q)
    on_ok_both (Ok v) P Q p q = (p, q)
    on_ok_both (Err e) P Q p q = tt
