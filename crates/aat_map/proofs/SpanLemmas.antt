-- Ranges as they are compiled, one span after another.
use Rattle.std.proofs.Common.{◌≡◌, ◌∙◌, ap, sym, refl, ℕ, zero, suc, ◌+◌, ◌-◌, ◌<◌, List, [], ◌∷◌, ◌++◌, map, take, replicate, length, get_or, arith, Some, slice_get, fold, add-one, IsPermutation, ◌==◌, ◌&&◌, Bool}
use Rattle.std.proofs.lemmas.List.{take_all, map_push, take_more}
use Rattle.std.proofs.lemmas.List.Sums.{fold_push}
use Rattle.std.proofs.lemmas.Option.{get_or_from_slice_get}
use Rattle.aat_map.specs.declared.feature.feature_range_t.{feature_range_t}
use Rattle.aat_run.specs.declared.ranges.range_flags_t.{range_flags_t}
use Rattle.aat_machine_tables.specs.declared.morx.Chain.{Chain}
use Rattle.std.proofs.lemmas.List.Sorted.{list_any-IsPermutation}
use Rattle.aat_map.specs.declared.feature.feature_info_t.{feature_info_t}
use Rattle.aat_map.specs.ChainFlags.{flags_by}
use Rattle.aat_run.specs.Ranges.{last_cluster, next_start, range}
use Rattle.aat_map.specs.Live.{kept_at, has_setting, requested_at, by_start, live, live_among}
use Rattle.aat_map.specs.Map.{list_at, resized, with_ranges}
use Rattle.aat_map.specs.Spans.{spans}
use Rattle.aat_map.specs.inside.CompiledSpans.{all_flags_for, ranges_with, span_range, compiled_lists, RiseFromZero}

-- a span that another follows ends before it
pub span_inner :
    (ss : List ℕ) (i : ℕ) → suc i < length ss
    → slice_get (spans ss) i ≡ Some (get_or ss i 0, get_or ss (suc i) 0 - 1)
span_inner [] i lt = absurd (omega arith)
span_inner (s ∷ []) i lt = absurd (omega arith)
span_inner (s ∷ (t ∷ ss)) zero lt = refl
span_inner (s ∷ (t ∷ ss)) (suc i) lt = span_inner (t ∷ ss) i (omega arith)

-- the last span ends at the last cluster
pub span_last : (ss : List ℕ) (i : ℕ) → suc i ≡ length ss → slice_get (spans ss) i ≡ Some (get_or ss i 0, last_cluster)
span_last [] i e = absurd (omega arith)
span_last (s ∷ []) zero e = refl
span_last (s ∷ []) (suc i) e = absurd (omega arith)
span_last (s ∷ (t ∷ ss)) zero e = absurd (omega arith)
span_last (s ∷ (t ∷ ss)) (suc i) e = span_last (t ∷ ss) i (omega arith)

pub length-spans : (ss : List ℕ) → length (spans ss) ≡ length ss
length-spans [] = refl
length-spans (s ∷ []) = refl
length-spans (s ∷ (t ∷ ss)) = ap suc (length-spans (t ∷ ss))

-- one element more, as it was read
pub take_read :
    {X : Type 0} (xs : List X) (i : ℕ) (x : X) → i < length xs → slice_get xs i ≡ Some x
    → take (i + 1) xs ≡ take i xs ++ x ∷ []
take_read xs i x below read = take_more xs i x below ∙ ap (λ y. take i xs ++ (y ∷ [])) (get_or_from_slice_get xs i x x read)

-- where the span after these begins
abbrev pub after_spans : List (ℕ × ℕ) → ℕ
after_spans ss = fold (λ n s. s.1 + 1) 0 ss

-- that is the next start
pub next_of_spans :
    (ss : List ℕ) (i : ℕ) → RiseFromZero ss → i < length ss → after_spans (take i (spans ss)) ≡ get_or ss i 0
next_of_spans ss zero rise lt = sym (get_or_from_slice_get ss 0 0 0 rise.zero)
next_of_spans ss (suc j) rise lt =
    let n : length (spans ss) ≡ length ss = length-spans ss in
    let below : j < length (spans ss) = omega arith in
    let more = take_read (spans ss) j (get_or ss j 0, get_or ss (suc j) 0 - 1) below (span_inner ss j lt) in
    let up : get_or ss j 0 < get_or ss (j + 1) 0 = rise.rising j (omega arith) in
    let up' : get_or ss j 0 < get_or ss (suc j) 0 = rw add-one at up in
    let e : get_or ss (suc j) 0 - 1 + 1 ≡ get_or ss (suc j) 0 = omega arith in
    ap after_spans (rw add-one at more)
    ∙ fold_push (λ n s. s.1 + 1) 0 (take j (spans ss)) (get_or ss j 0, get_or ss (suc j) 0 - 1)
    ∙ e

-- each chain's range over a span
abbrev pub ranges_over : List feature_range_t → List Chain → ℕ × ℕ → List range_flags_t
ranges_over requests chains s = map (λ c. span_range requests c s) chains

-- each chain's range over one span more
pub compiled_more :
    (requests : List feature_range_t) (chains : List Chain) (ss : List (ℕ × ℕ)) (s : ℕ × ℕ)
    → with_ranges (ranges_over requests chains s) (compiled_lists requests chains ss) ≡ compiled_lists requests chains (ss ++ s ∷ [])
compiled_more requests [] ss s = refl
compiled_more requests (c ∷ cs) ss s =
    ap (λ l. l ∷ with_ranges (ranges_over requests cs s) (compiled_lists requests cs ss)) (sym (map_push (span_range requests c) ss s))
    ∙ ap (λ ls. map (span_range requests c) (ss ++ s ∷ []) ∷ ls) (compiled_more requests cs ss s)

pub after_ranges :
    (requests : List feature_range_t) (c : Chain) (n : ℕ) (ss : List (ℕ × ℕ))
    → fold (λ m r. r.cluster_last + 1) n (map (span_range requests c) ss) ≡ fold (λ m s. s.1 + 1) n ss
after_ranges requests c n [] = refl
after_ranges requests c n (s ∷ ss) = after_ranges requests c (s.1 + 1) ss

-- where a chain's next range begins
pub next_of_lists :
    (requests : List feature_range_t) (chains : List Chain) (ss : List (ℕ × ℕ)) (k : ℕ) → k < length chains
    → next_start (list_at (compiled_lists requests chains ss) k) ≡ after_spans ss
next_of_lists requests [] ss k lt = absurd (omega arith)
next_of_lists requests (c ∷ cs) ss zero lt = after_ranges requests c 0 ss
next_of_lists requests (c ∷ cs) ss (suc k) lt = next_of_lists requests cs ss k (omega arith)

-- the kept settings in any order ask for the same
settings_alike :
    (x : ℕ) (requests : List feature_range_t) (list : List feature_info_t)
    → IsPermutation (kept_at x requests) list → has_setting list ≡ requested_at x requests
settings_alike x requests list moved = λ i kind setting. sym (list_any-IsPermutation (λ j. (j.kind == kind) && (j.setting == setting)) (kept_at x requests) list moved) i

-- so the ranges of the flags that these settings give the chains are those of the requests
pub ranges_of_settings :
    (requests : List feature_range_t) (chains : List Chain) (list : List feature_info_t) (s : ℕ × ℕ)
    → IsPermutation (kept_at s.0 requests) list
    → ranges_with s (all_flags_for list chains) ≡ ranges_over requests chains s
ranges_of_settings requests [] list s moved = refl
ranges_of_settings requests (c ∷ cs) list s moved =
    ap (λ (h : ℕ → ℕ → Bool). range s.0 s.1 (flags_by h c.default_flags c.features.items) ∷ ranges_with s (all_flags_for list cs))
    (settings_alike s.0 requests list moved)
    ∙ ap (λ rs. span_range requests c s ∷ rs) (ranges_of_settings requests cs list s moved)

-- no ranges for each chain
empty_lists :
    (requests : List feature_range_t) (chains : List Chain)
    → replicate (length chains) [] ≡ compiled_lists requests chains []
empty_lists requests [] = refl
empty_lists requests (c ∷ cs) = ap (λ ls. [] ∷ ls) (empty_lists requests cs)

-- that is what resizing an empty map gives
pub resized_empty :
    (requests : List feature_range_t) (chains : List Chain)
    → resized (length chains) [] ≡ compiled_lists requests chains []
resized_empty requests chains =
    let e : length chains - 0 ≡ length chains = omega arith in
    let t : take {A = List range_flags_t} (length chains) [] ≡ [] = take_all (length chains) [] (omega arith) in
    rw (t, e) (empty_lists requests chains)

-- what is live, from the requests by start
pub live_of :
    (x : ℕ) (requests ordered : List feature_range_t) → ordered ≡ by_start requests
    → live_among x ordered ≡ live x requests
live_of x requests ordered same = ap (live_among x) same

-- where one can be read there is one
pub some_start : (ss : List ℕ) → slice_get ss 0 ≡ Some 0 → 0 < length ss
some_start [] h = cc
some_start (s ∷ ss) h = omega arith
