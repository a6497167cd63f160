-- The ranges of a chain as lines of a table.
use Rattle.std.proofs.Common.{◌≡◌, ◌∙◌, ap, refl, sym, subst, ℕ, zero, suc, ◌+◌, ◌≤◌, ◌<◌, ◌==◌, true, false, List, [], ◌∷◌, ◌++◌, map, fold, length, take, get_or, arith, Some, slice_get}
use Rattle.std.specs.Prelude.{All, IsTrue}
use Rattle.std.specs.List.{AllByRecursion}
use Rattle.std.proofs.lemmas.Bool.Decides.{nat_tests}
use Rattle.std.proofs.lemmas.List.{append_assoc, map-append, take_more}
use Rattle.std.proofs.lemmas.List.Elements.{All-append, All-from_recursion}
use Rattle.aat_layout.specs.Chain.{Chain}
use Rattle.aat_layout.specs.Compiled.{HaveFlags}
use Rattle.aat_layout.specs.Live.{flags_at_cluster}
use Rattle.aat_layout.specs.Map.{list_at}
use Rattle.aat_layout.specs.Ranges.{FollowFrom, IsGapless, flags_in, holds, is_whole_list, last_cluster}
use Rattle.aat_layout.specs.Switches.{meets}
use Rattle.aat_layout.specs.feature_range_t.{feature_range_t}
use Rattle.aat_layout.specs.range_flags_t.{range_flags_t}
use Rattle.aat_inspection.specs.Inspected.{IsAsked, IsAskedAt, Lead, TableLine, chain_and_cluster, table_line}
use Rattle.aat_inspection.specs.declared.ranges.InspectedRange.{InspectedRange}
use Rattle.aat_inspection.specs.inside.Lines.{line_over}

-- an element that was read
pub read_at : {A : Type 0} (xs : List A) (i : ℕ) (x : A) → i < length xs → x ≡ get_or xs i x → slice_get xs i ≡ Some x
read_at [] i x low is = absurd (omega (arith, low))
read_at (y ∷ ys) zero x low is = ap Some (sym is)
read_at (y ∷ ys) (suc i) x low is = read_at ys i x (omega (arith, low)) is

-- a line more, for the range at place i
pub lines_more :
    (k : ℕ) (c : Chain) (rs : List range_flags_t) (i : ℕ) (d : range_flags_t) (before after : List InspectedRange)
    (start : List TableLine) (l : InspectedRange)
    → i < length rs → table_line l ≡ line_over k c (get_or rs i d) → after ≡ before ++ l ∷ []
    → map table_line before ≡ start ++ map (line_over k c) (take i rs)
    → map table_line after ≡ start ++ map (line_over k c) (take (i + 1) rs)
lines_more k c rs i d before after start l low same added was =
    ap (map table_line) added
    ∙ map-append table_line before (l ∷ [])
    ∙ ap (λ (ls : List TableLine). ls ++ table_line l ∷ []) was
    ∙ append_assoc start (map (line_over k c) (take i rs)) (table_line l ∷ [])
    ∙ ap (λ (m : TableLine). start ++ (map (line_over k c) (take i rs) ++ m ∷ [])) same
    ∙ ap (λ (ls : List TableLine). start ++ ls) (sym (map-append (line_over k c) (take i rs) (get_or rs i d ∷ [])))
    ∙ ap (λ (ts : List range_flags_t). start ++ map (line_over k c) ts) (sym (take_more rs i d low))

-- lines that lead to where others begin
pub lead_append :
    (from mid to : ℕ × ℕ) (ls ms : List TableLine) → Lead from mid ls → Lead mid to ms → Lead from to (ls ++ ms)
lead_append from mid to [] ms first second = subst (λ (p : ℕ × ℕ). Lead p to ms) (sym first) second
lead_append from mid to (l ∷ ls) ms first second = (
  first.0,
  first.1,
  lead_append (chain_and_cluster l.chain (l.last + 1)) mid to ls ms first.2 second,
)

-- where ranges end that begin at n
abbrev end_from : ℕ → List range_flags_t → ℕ
end_from n rs = fold (λ m r. r.cluster_last + 1) n rs

end_is_behind : (n : ℕ) (rs : List range_flags_t) → FollowFrom n rs → n ≤ end_from n rs
end_is_behind n [] follow = omega arith
end_is_behind n (r ∷ rs) follow =
    omega (arith, follow.0, follow.1, end_is_behind (r.cluster_last + 1) rs follow.2)

some_inside : {A : Type 0} (a b : A) → Some a ≡ Some b → a ≡ b
some_inside a b same = cc

not_none : (n : ℕ) → (suc n == 0) ≡ false
not_none n = grind (arith, nat_tests)

-- a list that has flags at 0 is not empty, so that a whole one ends at the last cluster
whole_ends :
    (rs : List range_flags_t) (flags : ℕ) → flags_in rs 0 ≡ Some flags → IsTrue (is_whole_list rs)
    → end_from 0 rs ≡ last_cluster + 1
whole_ends [] flags found whole = cc
whole_ends (r ∷ rs) flags found whole =
    let ends : (end_from 0 (r ∷ rs) == last_cluster + 1) ≡ true = rw (not_none (length rs)) at whole in
    grind (arith, nat_tests, ends)

module _ (requests : List feature_range_t) (chains : List Chain) (k : ℕ) (c : Chain) (there : slice_get chains k ≡ Some c) where
  -- the flags of the chain at a cluster
  abbrev flags_of : ℕ → ℕ
  flags_of x = flags_at_cluster requests c.default_flags c.features.items x

  asked_of_one :
      (r : range_flags_t) (x : ℕ) → r.flags ≡ flags_of x → IsAskedAt requests c x (line_over k c r)
  asked_of_one r x same = record {
    flags = same;
    on = ap (λ (n : ℕ). map (λ s. meets n s.feature_flags) c.subtables.items) same;
  }

  asked_of :
      (r : range_flags_t) → ((x : ℕ) → r.cluster_first ≤ x → x ≤ r.cluster_last → r.flags ≡ flags_of x)
      → IsAsked requests chains (line_over k c r)
  asked_of r same d x read low high =
      subst (λ (e : Chain). IsAskedAt requests e x (line_over k c r)) (some_inside c d (sym there ∙ read))
      (asked_of_one r x (same x low high))

  -- each range is a line with what is asked for
  asked_from :
      (n : ℕ) (rs : List range_flags_t) → FollowFrom n rs → end_from n rs ≡ last_cluster + 1
      → ((x : ℕ) → n ≤ x → x ≤ last_cluster → flags_in rs x ≡ Some (flags_of x))
      → AllByRecursion (IsAsked requests chains) (map (line_over k c) rs)
  asked_from n [] follow whole flags = tt
  asked_from n (r ∷ rs) follow whole flags = (asked_of r here, asked_from (r.cluster_last + 1) rs follow.2 whole later)
    where
      within : r.cluster_last ≤ last_cluster
      within = omega (arith, whole, end_is_behind (r.cluster_last + 1) rs follow.2)

      here : (x : ℕ) → r.cluster_first ≤ x → x ≤ r.cluster_last → r.flags ≡ flags_of x
      here x low high =
          let held : holds x r ≡ true = grind (arith, nat_tests, low, high) in
          some_inside r.flags (flags_of x) (rw held at (flags x (omega (arith, follow.0, low)) (omega (arith, within, high))))

      later : (x : ℕ) → r.cluster_last + 1 ≤ x → x ≤ last_cluster → flags_in rs x ≡ Some (flags_of x)
      later x low high =
          let passed : holds x r ≡ false = grind (arith, nat_tests, low) in
          rw passed at (flags x (omega (arith, follow.0, follow.1, low)) high)

  -- the lines lead from the first of these ranges to the next chain
  lead_from :
      (n : ℕ) (rs : List range_flags_t) → FollowFrom n rs → end_from n rs ≡ last_cluster + 1
      → Lead (chain_and_cluster k n) (k + 1, 0) (map (line_over k c) rs)
  lead_from n [] follow whole =
      let ended : (n == last_cluster + 1) ≡ true = grind (arith, nat_tests, whole) in
      rw ended refl
  lead_from n (r ∷ rs) follow whole =
      let within : n ≤ last_cluster = omega (arith, follow.0, follow.1, whole, end_is_behind (r.cluster_last + 1) rs follow.2) in
      let unended : (n == last_cluster + 1) ≡ false = grind (arith, nat_tests, within) in
      (rw unended (ap (λ (x : ℕ). (k, x)) follow.0), follow.1, lead_from (r.cluster_last + 1) rs follow.2 whole)

  -- the lines so far and those of the next chain
  module _ (m : List (List range_flags_t)) (have : HaveFlags requests chains m) (whole : IsTrue (is_whole_list (list_at m k))) (gapless : IsGapless (list_at m k)) (ls : List TableLine) where
    ends : end_from 0 (list_at m k) ≡ last_cluster + 1
    ends = whole_ends (list_at m k) (flags_of 0) (have k 0 c there (omega arith)) whole

    pub asked_more :
        All (IsAsked requests chains) ls
        → All (IsAsked requests chains) (ls ++ map (line_over k c) (list_at m k))
    asked_more before =
        All-append (IsAsked requests chains) ls (map (line_over k c) (list_at m k)) before
        (All-from_recursion (IsAsked requests chains) (map (line_over k c) (list_at m k))
        (asked_from 0 (list_at m k) gapless ends (λ x low high. have k x c there high)))

    pub lead_more :
        Lead (0, 0) (k, 0) ls → Lead (0, 0) (k + 1, 0) (ls ++ map (line_over k c) (list_at m k))
    lead_more before =
        lead_append (0, 0) (k, 0) (k + 1, 0) ls (map (line_over k c) (list_at m k)) before
        (lead_from 0 (list_at m k) gapless ends)
