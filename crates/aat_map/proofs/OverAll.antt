-- Requests over the whole text give each chain one range.
use Rattle.std.proofs.Common.{◌≡◌, ◌∙◌, ap, sym, refl, ℕ, true, false, ◌||◌, ◌==◌, cond, nat_le, List, [], ◌∷◌, ◌++◌, filter, fold, length, arith, zero, suc, All, Some, IsPermutation}
use Rattle.std.proofs.lemmas.List.{append-nil, append_assoc}
use Rattle.std.proofs.Math.Bool.{or-false}
use Rattle.std.specs.List.{list_any}
use Rattle.std.proofs.lemmas.Bool.Decides.{nat_tests}
use Rattle.aat_machine_tables.specs.declared.morx.Chain.{Chain}
use Rattle.aat_run.specs.declared.ranges.range_flags_t.{range_flags_t}
use Rattle.aat_run.specs.Ranges.{last_cluster, range}
use Rattle.aat_map.specs.declared.feature.feature_info_t.{feature_info_t}
use Rattle.aat_map.specs.declared.feature.feature_range_t.{feature_range_t}
use Rattle.aat_map.specs.Builder.{Builder}
use Rattle.aat_map.specs.Compiled.{compiled_ranges, flags_for}
use Rattle.aat_map.specs.Live.{admitted, by_start, cuts_at, has_begun, has_ended, infos, is_admitted, is_cut, kept, live_among, placed_by_start, without_earliest, IsRisingByGroup}
use Rattle.aat_map.specs.Map.{AreStarts, resized, with_ranges}
use Rattle.aat_map.specs.inside.CompiledSpans.{all_flags_for, ranges_with, EndsWithinText, IsCompiled}
use Rattle.aat_map.specs.inside.OverAll.{is_over_all, are_over_all}
use Rattle.aat_map.proofs.GatherLemmas.{both}
use Rattle.aat_map.proofs.SpanLemmas.{compiled_more, ranges_of_settings, ranges_over, resized_empty}
use Rattle.aat_map.proofs.StartLemmas.{any_ordered}

-- each has begun at 0
begun_step : (r : feature_range_t) → is_over_all r ≡ true → has_begun 0 r ≡ true
begun_step r h = grind (arith, nat_tests, h)

all_begun : (rs : List feature_range_t) → are_over_all rs ≡ true → filter (has_begun 0) rs ≡ rs
all_begun [] h = refl
all_begun (r ∷ rs) h =
    let b = both (is_over_all r) (are_over_all rs) h in
    ap (λ c. cond c (r ∷ filter (has_begun 0) rs) (filter (has_begun 0) rs)) (begun_step r b.0)
    ∙ ap (λ l. r ∷ l) (all_begun rs b.1)

-- such requests stand in the order of their starts
admitted_step : (r : feature_range_t) → is_over_all r ≡ true → is_admitted r ≡ true
admitted_step r h = grind (arith, nat_tests, h)

all_admitted : (rs : List feature_range_t) → are_over_all rs ≡ true → admitted rs ≡ rs
all_admitted [] h = refl
all_admitted (r ∷ rs) h =
    let b = both (is_over_all r) (are_over_all rs) h in
    ap (λ c. cond c (r ∷ admitted rs) (admitted rs)) (admitted_step r b.0)
    ∙ ap (λ l. r ∷ l) (all_admitted rs b.1)

no_later : (q r : feature_range_t) → is_over_all q ≡ true → nat_le q.start r.start ≡ true
no_later q r h = grind (arith, nat_tests, h)

placed_last : (qs : List feature_range_t) (r : feature_range_t) → are_over_all qs ≡ true → placed_by_start qs r ≡ qs ++ r ∷ []
placed_last [] r h = refl
placed_last (q ∷ qs) r h =
    let b = both (is_over_all q) (are_over_all qs) h in
    ap (λ c. cond c (q ∷ placed_by_start qs r) (r ∷ (q ∷ qs))) (no_later q r b.0)
    ∙ ap (λ l. q ∷ l) (placed_last qs r b.1)

more_over_all : (qs : List feature_range_t) (r : feature_range_t) → are_over_all qs ≡ true → is_over_all r ≡ true → are_over_all (qs ++ r ∷ []) ≡ true
more_over_all [] r h is = rw is refl
more_over_all (q ∷ qs) r h is =
    let b = both (is_over_all q) (are_over_all qs) h in
    rw (b.0, more_over_all qs r b.1 is) refl

all_placed : (qs rs : List feature_range_t) → are_over_all qs ≡ true → are_over_all rs ≡ true → fold placed_by_start qs rs ≡ qs ++ rs
all_placed qs [] h over = sym (append-nil qs)
all_placed qs (r ∷ rs) h over =
    let b = both (is_over_all r) (are_over_all rs) over in
    ap (λ l. fold placed_by_start l rs) (placed_last qs r h)
    ∙ all_placed (qs ++ r ∷ []) rs (more_over_all qs r h b.0) b.1
    ∙ append_assoc qs (r ∷ []) rs

pub over_all_ordered : (rs : List feature_range_t) → are_over_all rs ≡ true → rs ≡ by_start rs
over_all_ordered rs h = sym (ap (fold placed_by_start []) (all_admitted rs h) ∙ all_placed [] rs refl h)

-- and end within the text
end_step : (r : feature_range_t) → is_over_all r ≡ true → EndsWithinText r
end_step r h = grind (arith, nat_tests, h)

pub over_all_bounded : (rs : List feature_range_t) → are_over_all rs ≡ true → All EndsWithinText rs
over_all_bounded [] h k d lt = absurd (omega arith)
over_all_bounded (r ∷ rs) h zero d lt = end_step r (both (is_over_all r) (are_over_all rs) h).0
over_all_bounded (r ∷ rs) h (suc k) d lt = over_all_bounded rs (both (is_over_all r) (are_over_all rs) h).1 k d (omega arith)

-- none has ended there
ended_step : (r : feature_range_t) → is_over_all r ≡ true → has_ended 0 r ≡ false
ended_step r h = grind (arith, nat_tests, h)

none_ended : (rs : List feature_range_t) → are_over_all rs ≡ true → filter (has_ended 0) rs ≡ []
none_ended [] h = refl
none_ended (r ∷ rs) h =
    let b = both (is_over_all r) (are_over_all rs) h in
    ap (λ c. cond c (r ∷ filter (has_ended 0) rs) (filter (has_ended 0) rs)) (ended_step r b.0)
    ∙ none_ended rs b.1

-- so all are live there
live_over_all : (rs : List feature_range_t) → are_over_all rs ≡ true → live_among 0 rs ≡ infos rs
live_over_all rs h =
    ap (λ fs. fold without_earliest (infos fs) (infos (filter (has_ended 0) rs))) (all_begun rs h)
    ∙ ap (λ fs. fold without_earliest (infos rs) (infos fs)) (none_ended rs h)

-- none cuts
cut_step : (x : ℕ) (r : feature_range_t) → is_over_all r ≡ true → cuts_at x r ≡ false
cut_step x r h = grind (arith, nat_tests, h)

none_cut : (x : ℕ) (rs : List feature_range_t) → are_over_all rs ≡ true → list_any (cuts_at x) rs ≡ false
none_cut x [] h = refl
none_cut x (r ∷ rs) h =
    let b = both (is_over_all r) (are_over_all rs) h in
    rw (cut_step x r b.0, none_cut x rs b.1) refl

turned : (x : ℕ) → (0 == x) ≡ (x == 0)
turned x = grind (arith, nat_tests)

-- so ranges begin at 0 alone
pub one_start :
    (requests ordered : List feature_range_t) → ordered ≡ by_start requests → are_over_all ordered ≡ true
    → AreStarts requests (0 ∷ [])
one_start requests ordered is over = record {
  rising = λ i lt. absurd (omega (arith, lt));
  exact = λ x. or-false (0 == x) ∙ turned x ∙ sym (or-false (x == 0)) ∙ ap (λ b. (x == 0) || b) (sym (uncut x));
}
  where
    uncut : (x : ℕ) → is_cut requests x ≡ false
    uncut x =
        sym (any_ordered (cuts_at x) [] (admitted requests))
        ∙ ap (list_any (cuts_at x)) (sym is)
        ∙ none_cut x ordered over

-- the range of a builder for each chain, by what the builder tells
ranges_are :
    (chains : List Chain) (b : Builder) (settings : List feature_info_t) → b.current_features ≡ settings
    → b.range_first ≡ 0 → b.range_last ≡ last_cluster
    → compiled_ranges b chains ≡ ranges_with (0, last_cluster) (all_flags_for settings chains)
ranges_are [] b settings s f l = refl
ranges_are (c ∷ cs) b settings s f l =
    ap (λ n. range n b.range_last (flags_for b.current_features c) ∷ compiled_ranges b cs) f
    ∙ ap (λ n. range 0 n (flags_for b.current_features c) ∷ compiled_ranges b cs) l
    ∙ ap (λ (xs : List feature_info_t). range 0 last_cluster (flags_for xs c) ∷ compiled_ranges b cs) s
    ∙ ap (λ rs. range 0 last_cluster (flags_for settings c) ∷ rs) (ranges_are cs b settings s f l)

-- what compiling leaves of a map and a builder, where what is first of each group is told
pub compiled_over_all :
    (requests ordered : List feature_range_t) (chains : List Chain) (settings : List feature_info_t)
    (old b : Builder) (m : List (List range_flags_t))
    → ordered ≡ by_start requests → are_over_all ordered ≡ true → All EndsWithinText requests
    → IsPermutation (kept (infos ordered)) settings → IsRisingByGroup settings
    → b ≡ (record old { current_features = settings; range_first = 0; range_last = last_cluster })
    → m ≡ with_ranges (compiled_ranges b chains) (resized (length chains) [])
    → IsCompiled requests chains m b
compiled_over_all requests ordered chains settings old b m is over bounded moved rising told made =
    let first : b.range_first ≡ 0 = ap (λ (t : Builder). t.range_first) told in
    let last : b.range_last ≡ last_cluster = ap (λ (t : Builder). t.range_last) told in
    let settings_are : b.current_features ≡ settings = ap (λ (t : Builder). t.current_features) told in
    let live : infos ordered ≡ live_among 0 (by_start requests) = sym (live_over_all ordered over) ∙ ap (live_among 0) is in
    let kept_here : IsPermutation (kept (live_among 0 (by_start requests))) settings = rw live at moved in
    record {
      starts = 0 ∷ [];
      are_starts = one_start requests ordered is over;
      bounded = bounded;
      lists_are =
          made
          ∙ ap (λ rs. with_ranges rs (resized (length chains) [])) (ranges_are chains b settings settings_are first last ∙ ranges_of_settings requests chains settings (0, last_cluster) kept_here)
          ∙ ap (with_ranges (ranges_over requests chains (0, last_cluster))) (resized_empty requests chains)
          ∙ compiled_more requests chains [] (0, last_cluster);
      range = record { first = ap Some (sym first); last = last };
      current = record { kept = rw (first, settings_are) kept_here; rising = rw settings_are rising };
    }
