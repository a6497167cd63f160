-- A walk over starts and ends leaves what is live.
use Rattle.std.proofs.Common.{◌≡◌, ◌∙◌, ap, sym, refl, ℕ, suc, ◌+◌, ◌<◌, ◌≤◌, Bool, true, false, ◌&&◌, cond, leb, List, [], ◌∷◌, ◌++◌, take, drop, filter, take_while, fold, length, arith, nat_le, IsPermutation, slice_index_or}
use Rattle.std.specs.List.{AllByRecursion, prefix_len, between}
use Rattle.std.specs.List.Sorted.{IsNonDecreasingBy, IsPartitionedBy}
use Rattle.std.proofs.lemmas.List.{take-append-drop, take-take, drop-take, map-append}
use Rattle.std.proofs.lemmas.List.Sums.{prefix_len-le-length, prefix_len_passes, prefix_len_stops, fold-append, take_while-cons}
use Rattle.std.proofs.lemmas.List.Folds.{length-prefix_len}
use Rattle.std.proofs.lemmas.Slice.{between_to_end}
use Rattle.std.proofs.lemmas.List.Elements.{filter_passes, recursion_from_All}
use Rattle.std.proofs.lemmas.List.Sorted.{IsNonDecreasingBy-insert, IsNonDecreasingBy-short, IsPartitionedBy-leb}
use Rattle.std.proofs.lemmas.Bool.{false_from_ne_true}
use Rattle.std.proofs.lemmas.Bool.Decides.{nat_tests}
use Rattle.aat_map.specs.declared.feature.feature_info_t.{feature_info_t}
use Rattle.aat_map.specs.declared.feature.feature_range_t.{feature_range_t}
use Rattle.aat_map.specs.Live.{is_admitted, admitted, placed_by_start, by_start, has_begun, has_ended, infos, live_among, without_earliest}
use Rattle.aat_map.specs.inside.Walked.{ends_within, ends_by, AreWalked, IsWalkedUpTo}
use Rattle.aat_map.proofs.Truth.{true_not_false}
use Rattle.aat_map.proofs.GatherLemmas.{both, placed_behind}
use Rattle.aat_map.proofs.CutLemmas.{ordered_all}
use Rattle.aat_map.proofs.TakenOut.{taken_permuted, taken_before}

-- requests by start rise
pub placed_rising :
    (qs : List feature_range_t) (r : feature_range_t) → IsNonDecreasingBy (λ q. q.start) qs
    → IsNonDecreasingBy (λ q. q.start) (placed_by_start qs r)
placed_rising qs r up =
    let p : feature_range_t → Bool = λ q. nat_le q.start r.start in
    rw (placed_behind qs r) at (IsNonDecreasingBy-insert (λ (q : feature_range_t). q.start) qs (prefix_len p qs) r up (prefix_len-le-length p qs)
    (λ k d lt. let h = prefix_len_passes p qs k d lt in grind (arith, nat_tests, h))
    (λ k d le lt.
    let h = prefix_len_stops p qs d (omega (arith, le, lt)) in
    let later = up (prefix_len p qs) k d le lt in
    grind (arith, nat_tests, h, later)))

pub ordered_rising :
    (qs rs : List feature_range_t) → IsNonDecreasingBy (λ q. q.start) qs
    → IsNonDecreasingBy (λ q. q.start) (fold placed_by_start qs rs)
ordered_rising qs [] up = up
ordered_rising qs (r ∷ rs) up = ordered_rising (placed_by_start qs r) rs (placed_rising qs r up)

-- what a walk goes over, as it is made
pub are_walked :
    (requests ordered ending : List feature_range_t) → ordered ≡ by_start requests
    → IsPermutation (filter ends_within ordered) ending → IsNonDecreasingBy (λ r. r.end) ending
    → AreWalked ordered ending
are_walked requests ordered ending is same up = record {
  admits = rw is (ordered_all (λ r. is_admitted r ≡ true) [] (admitted requests) tt
      (recursion_from_All (λ r. is_admitted r ≡ true) (admitted requests) (λ k d low. filter_passes is_admitted requests k d low)));
  starts_rise = rw is (ordered_rising [] (admitted requests) (IsNonDecreasingBy-short (λ (q : feature_range_t). q.start) [] (omega arith)));
  same = same;
  ends_rise = up;
}

one_more : (n : ℕ) → 1 + n ≡ suc n
one_more n = omega arith

none_more : (n : ℕ) → 0 + n ≡ n
none_more n = omega arith

-- what fails a test everywhere leaves nothing
pub nothing_left :
    (q : feature_range_t → Bool) (xs : List feature_range_t)
    → ((j : ℕ) (d : feature_range_t) → j < length xs → q (slice_index_or xs j d) ≡ false)
    → filter q xs ≡ []
nothing_left q [] h = refl
nothing_left q (x ∷ xs) h =
    ap (λ b. cond b (x ∷ filter q xs) (filter q xs)) (h 0 x (omega arith))
    ∙ nothing_left q xs (λ j d lt. h (suc j) d (omega arith))

parted_step :
    (b : Bool) (x : feature_range_t) (fs ts : List feature_range_t) → fs ≡ ts → (b ≡ false → fs ≡ [])
    → cond b (x ∷ fs) fs ≡ cond b (x ∷ ts) []
parted_step true x fs ts h k = ap (λ l. x ∷ l) h
parted_step false x fs ts h k = k refl

-- where nothing passes behind what fails, a filter leaves the front
parted :
    (q : feature_range_t → Bool) (xs : List feature_range_t) → IsPartitionedBy q xs
    → filter q xs ≡ take (prefix_len q xs) xs
parted q [] h = refl
parted q (x ∷ xs) h =
    parted_step (q x) x (filter q xs) (take_while q xs) (parted q xs (λ i j d le lt. h (suc i) (suc j) d (omega arith) (omega arith)))
    (λ e. nothing_left q xs (λ j d lt. false_from_ne_true (q (slice_index_or xs j d)) (λ t. true_not_false (sym (h 0 (suc j) d (omega arith) (omega arith) t) ∙ e))))
    ∙ sym (take_while-cons q x xs)

-- two tests of which the second passes wherever the first does: the second goes on from where the first stops
further :
    (p q : feature_range_t → Bool) (xs : List feature_range_t)
    → ((r : feature_range_t) → p r ≡ true → q r ≡ true)
    → prefix_len p xs + prefix_len q (drop (prefix_len p xs) xs) ≡ prefix_len q xs
further p q [] h = refl
further p q (x ∷ xs) h = by_tests (p x) (q x) refl (h x) (further p q xs h)
  where
    by_tests :
        (b c : Bool) → q x ≡ c → (b ≡ true → c ≡ true)
        → prefix_len p xs + prefix_len q (drop (prefix_len p xs) xs) ≡ prefix_len q xs
        → cond b (1 + prefix_len p xs) 0 + prefix_len q (drop (cond b (1 + prefix_len p xs) 0) (x ∷ xs))
        ≡ cond c (1 + prefix_len q xs) 0
    by_tests true true e k g = rw (one_more (prefix_len p xs)) (omega (arith, g))
    by_tests true false e k g = absurd (true_not_false (sym (k refl)))
    by_tests false c e k g = none_more (cond (q x) (1 + prefix_len q xs) 0) ∙ ap (λ b. cond b (1 + prefix_len q xs) 0) e

-- the front up to further on
front_further :
    (xs : List feature_range_t) (a m : ℕ) → take (a + m) xs ≡ take a xs ++ take m (drop a xs)
front_further xs a m =
    sym (take-append-drop a (take (a + m) xs))
    ∙ ap (λ l. l ++ drop a (take (a + m) xs)) (take-take a (a + m) xs (omega arith))
    ∙ ap (λ l. take a xs ++ l) (drop-take a m xs)

-- what passes the second test: what passes the first, and what follows
filtered_further :
    (p q : feature_range_t → Bool) (xs : List feature_range_t) (n : ℕ)
    → ((r : feature_range_t) → p r ≡ true → q r ≡ true) → IsPartitionedBy p xs → IsPartitionedBy q xs
    → n ≡ prefix_len p xs
    → filter q xs ≡ filter p xs ++ take_while q (drop n xs)
filtered_further p q xs n h hp hq is =
    let m = prefix_len q (drop (prefix_len p xs) xs) in
    parted q xs hq
    ∙ ap (λ k. take k xs) (sym (further p q xs h))
    ∙ front_further xs (prefix_len p xs) m
    ∙ ap (λ l. l ++ take m (drop (prefix_len p xs) xs)) (sym (parted p xs hp))
    ∙ ap (λ k. filter p xs ++ take_while q (drop k xs)) (sym is)

twice_step :
    (b c : Bool) (r : feature_range_t) (fs gs : List feature_range_t) (p : feature_range_t → Bool)
    → p r ≡ b → fs ≡ filter p gs
    → cond (b && c) (r ∷ fs) fs ≡ filter p (cond c (r ∷ gs) gs)
twice_step true true r fs gs p e h = ap (λ l. r ∷ l) h ∙ sym (ap (λ b. cond b (r ∷ filter p gs) (filter p gs)) e)
twice_step true false r fs gs p e h = h
twice_step false true r fs gs p e h = h ∙ sym (ap (λ b. cond b (r ∷ filter p gs) (filter p gs)) e)
twice_step false false r fs gs p e h = h

filter_twice :
    (p q : feature_range_t → Bool) (rs : List feature_range_t)
    → filter (λ r. p r && q r) rs ≡ filter p (filter q rs)
filter_twice p q [] = refl
filter_twice p q (r ∷ rs) = twice_step (p r) (q r) r (filter (λ s. p s && q s) rs) (filter q rs) p refl (filter_twice p q rs)

-- what ends by x may be read from the requests by end
ended_by :
    (x : ℕ) (ordered ending : List feature_range_t) (list : List feature_info_t)
    → IsPermutation (filter ends_within ordered) ending
    → fold without_earliest list (infos (filter (has_ended x) ordered))
    ≡ fold without_earliest list (infos (filter (ends_by x) ending))
ended_by x ordered ending list same =
    ap (λ fs. fold without_earliest list (infos fs)) (filter_twice (ends_by x) ends_within ordered)
    ∙ sym (taken_permuted (ends_by x) list (filter ends_within ordered) ending same)

begun_later : (p x : ℕ) (r : feature_range_t) → p ≤ x → has_begun p r ≡ true → has_begun x r ≡ true
begun_later p x r le h = grind (arith, nat_tests, h, le)

ends_later : (p x : ℕ) (r : feature_range_t) → p ≤ x → ends_by p r ≡ true → ends_by x r ≡ true
ends_later p x r le h = grind (arith, nat_tests, h, le)

begun_before : (p : ℕ) (r : feature_range_t) → is_admitted r ≡ true → has_ended p r ≡ true → has_begun p r ≡ true
begun_before p r admits ended =
    let h = (both (leb r.end p) _ ended).0 in
    grind (arith, nat_tests, admits, h)

all_begun_before :
    (p : ℕ) (rs : List feature_range_t) → AllByRecursion (λ r. is_admitted r ≡ true) rs
    → AllByRecursion (λ r. has_ended p r ≡ true → has_begun p r ≡ true) rs
all_begun_before p [] h = tt
all_begun_before p (r ∷ rs) h = (begun_before p r h.0, all_begun_before p rs h.1)

begun_parted :
    (x : ℕ) (ordered : List feature_range_t) → IsNonDecreasingBy (λ r. r.start) ordered
    → IsPartitionedBy (has_begun x) ordered
begun_parted x ordered up = IsPartitionedBy-leb (λ (r : feature_range_t). r.start) ordered x up

ends_parted :
    (x : ℕ) (ending : List feature_range_t) → IsNonDecreasingBy (λ r. r.end) ending
    → IsPartitionedBy (ends_by x) ending
ends_parted x ending up = IsPartitionedBy-leb (λ (r : feature_range_t). r.end) ending x up

module _
    (x : ℕ) (ordered ending : List feature_range_t) (active : List feature_info_t) (begun ended : ℕ)
    (a : AreWalked ordered ending) (w : IsWalkedUpTo x ordered ending active begun ended) where
  -- what starts up to x, behind what was live
  started :
      (now : List feature_info_t) → now ≡ active ++ infos (take_while (has_begun x) (drop begun ordered))
      → now ≡ fold without_earliest (infos (filter (has_begun x) ordered)) (infos (filter (has_ended w.at) ordered))
  started now is =
      let more = take_while (has_begun x) (drop begun ordered) in
      let ends = infos (filter (has_ended w.at) ordered) in
      is
      ∙ ap (λ l. l ++ infos more) w.live_is
      ∙ sym (taken_before (has_begun w.at) (has_ended w.at) (infos more) ordered [] (all_begun_before w.at ordered a.admits))
      ∙ ap (λ l. fold without_earliest l ends)
      (sym (map-append (λ (r : feature_range_t). r.info) (filter (has_begun w.at) ordered) more)
      ∙ ap infos (sym (filtered_further (has_begun w.at) (has_begun x) ordered begun (λ r. begun_later w.at x r w.up_to)
      (begun_parted w.at ordered a.starts_rise) (begun_parted x ordered a.starts_rise) w.begun_is)))

  -- and without what ends up to x, that is what is live at x
  pub walked_live :
      (now last : List feature_info_t) → now ≡ active ++ infos (take_while (has_begun x) (drop begun ordered))
      → last ≡ fold without_earliest now (infos (take_while (ends_by x) (drop ended ending)))
      → last ≡ live_among x ordered
  walked_live now last is gone =
      let begins = infos (filter (has_begun x) ordered) in
      let more = take_while (ends_by x) (drop ended ending) in
      gone
      ∙ ap (λ l. fold without_earliest l (infos more)) (started now is ∙ ended_by w.at ordered ending begins a.same)
      ∙ sym (fold-append without_earliest begins (infos (filter (ends_by w.at) ending)) (infos more))
      ∙ ap (λ l. fold without_earliest begins l)
      (sym (map-append (λ (r : feature_range_t). r.info) (filter (ends_by w.at) ending) more)
      ∙ ap infos (sym (filtered_further (ends_by w.at) (ends_by x) ending ended (λ r. ends_later w.at x r w.up_to)
      (ends_parted w.at ending a.ends_rise) (ends_parted x ending a.ends_rise) w.ended_is)))
      ∙ sym (ended_by x ordered ending begins a.same)

  -- and the walk has come to x
  pub walked_on :
      (now last : List feature_info_t) (n m : ℕ) → now ≡ active ++ infos (take_while (has_begun x) (drop begun ordered))
      → last ≡ fold without_earliest now (infos (take_while (ends_by x) (drop ended ending)))
      → n ≡ begun + prefix_len (has_begun x) (drop begun ordered)
      → m ≡ ended + prefix_len (ends_by x) (drop ended ending)
      → IsWalkedUpTo x ordered ending last n m
  walked_on now last n m is gone counted left = record {
    at = x;
    up_to = omega arith;
    begun_is = counted ∙ ap (λ k. k + prefix_len (has_begun x) (drop k ordered)) w.begun_is ∙ further (has_begun w.at) (has_begun x) ordered (λ r. begun_later w.at x r w.up_to);
    ended_is = left ∙ ap (λ k. k + prefix_len (ends_by x) (drop k ending)) w.ended_is ∙ further (ends_by w.at) (ends_by x) ending (λ r. ends_later w.at x r w.up_to);
    live_is = walked_live now last is gone;
  }

-- how many in front of the rest pass a test
pub count_of_rest :
    (xs : List feature_range_t) (p : feature_range_t → Bool) (b n m : ℕ) → length xs ≤ n
    → m ≡ length (take_while p (between b n xs)) → m ≡ prefix_len p (drop b xs)
count_of_rest xs p b n m le e =
    e ∙ length-prefix_len p (between b n xs) ∙ ap (prefix_len p) (between_to_end xs b n le)

-- these
pub front_of_rest :
    (xs : List feature_range_t) (p : feature_range_t → Bool) (b n m : ℕ) → length xs ≤ n
    → m ≡ length (take_while p (between b n xs)) → take m (between b n xs) ≡ take_while p (drop b xs)
front_of_rest xs p b n m le e =
    ap (λ k. take k (between b n xs)) (e ∙ length-prefix_len p (between b n xs))
    ∙ ap (take_while p) (between_to_end xs b n le)

-- a walk that has come to a cluster has come up to a later one
pub walked_later :
    (x y : ℕ) (ordered ending : List feature_range_t) (active : List feature_info_t) (begun ended : ℕ)
    → x ≤ y → IsWalkedUpTo x ordered ending active begun ended → IsWalkedUpTo y ordered ending active begun ended
walked_later x y ordered ending active begun ended le w = record {
  at = w.at;
  up_to = omega (arith, le, w.up_to);
  begun_is = w.begun_is;
  ended_is = w.ended_is;
  live_is = w.live_is;
}

-- at cluster 0 nothing has ended
none_at_start : (r : feature_range_t) → is_admitted r ≡ true → has_ended 0 r ≡ true → ⊥
none_at_start r admits ended =
    let h = begun_before 0 r admits ended in
    let k = (both (leb r.end 0) _ ended).0 in
    let low : r.end ≤ 0 = grind (arith, nat_tests, k) in
    let lt : r.start < r.end = grind (arith, nat_tests, admits) in
    omega arith

none_ended :
    (rs : List feature_range_t) → AllByRecursion (λ r. is_admitted r ≡ true) rs → filter (has_ended 0) rs ≡ []
none_ended [] h = refl
none_ended (r ∷ rs) h =
    ap (λ b. cond b (r ∷ filter (has_ended 0) rs) (filter (has_ended 0) rs)) (false_from_ne_true (has_ended 0 r) (none_at_start r h.0))
    ∙ none_ended rs h.1

pub nothing_ended :
    (rs : List feature_range_t) → AllByRecursion (λ r. is_admitted r ≡ true) rs
    → infos (filter (has_begun 0) rs) ≡ live_among 0 rs
nothing_ended rs h = ap (λ fs. fold without_earliest (infos (filter (has_begun 0) rs)) (infos fs)) (sym (none_ended rs h))
