-- What acts touch in a part that stands at a place of a line: no more than in the line, moved back.
use Rattle.std.proofs.Common.{◌≡◌, ◌∙◌, inl, inr, ℕ, ℤ, ◌+◌, ◌-◌, ◌<◌, ◌≤◌, ◌&&◌, ◌||◌, ◌==◌, not, Bool, true, false, cond, List, [], ◌∷◌, ◌++◌, length, max, nat_le, nat_lt, Option, Some, None, refl, ap, sym, arith}
use Rattle.std.proofs.lemmas.Bool.{and_parts, not-true}
use Rattle.std.proofs.lemmas.Bool.Decides.{nat_tests}
use Rattle.std.proofs.lemmas.List.Folds.{list_all-append}
use Rattle.std.specs.List.{list_all}
use Rattle.aat_machine_tables.specs.Entries.{has_flag, is_present}
use Rattle.aat_machine_tables.specs.declared.entries.EntryData.{EntryData}
use Rattle.aat_machine_tables.specs.declared.entries.KernEntryData.{KernEntryData}
use Rattle.aat_machine_tables.specs.declared.state_table.GenericStateEntry.{GenericStateEntry}
use Rattle.aat_kerning_machines.specs.KerningMachine.{has_action}
use Rattle.aat_kerning_machines.specs.Stack.{is_odd, kern_value, kerx_value, pushed_by}
use Rattle.aat_cut_kinds.specs.KerningClosing.{Touching, anchor_touching, behind_reset, cleared_by, does_clear, kern_touched, kern_touching, kerx_touched, kerx_touching, place_of, taken_by}
use Rattle.aat_cut_kinds.specs.facts.AnchorParts.{MarkOver}
use Rattle.aat_cut_kinds.specs.facts.KerningTurns.{IsWithin}
use Rattle.aat_cut_kinds.specs.facts.StackParts.{Known, StackOver, empty, rooms}
use Rattle.aat_cut_kinds.specs.facts.StacksOver.{Over, over_length, over_pushed}

-- What a kind of machine touches in a part it touches in the line, moved on; where it rests at the end of the text, it
-- does in the part; and an entry that rests there touches nothing before that end.
pub record TouchesInParts {R T : Type 0} (k : Touching R T) (Alike : ℕ → ℕ → R → R → Type 0) : Type 0 where
  pub touches :
      (at n long q c d : ℕ) (e : GenericStateEntry T) (r s : R) → Alike at n r s → c ≡ at + d → at + n ≤ long
      → IsWithin at n long d → at ≤ q → list_all (nat_le q) (k.touched e r c long) ≡ true
      → list_all (nat_le (q - at)) (k.touched e s d n) ≡ true
  pub rests :
      (at n : ℕ) (e : GenericStateEntry T) (r s : R) → Alike at n r s → k.rests_at_end e r ≡ true
      → k.rests_at_end e s ≡ true
  pub over :
      (n q : ℕ) (e : GenericStateEntry T) (s : R) → k.rests_at_end e s ≡ true → q ≤ n
      → list_all (nat_le q) (k.touched e s n n) ≡ true

both_tests : (t u : Bool) → t ≡ true → u ≡ true → (t && u) ≡ true
both_tests t u left right = rw left right

-- what is not before a place is not before a lower one
pub list_higher : (at q : ℕ) (xs : List ℕ) → at ≤ q → list_all (nat_le q) xs ≡ true → list_all (nat_le at) xs ≡ true
list_higher at q [] low h = refl
list_higher at q (x ∷ xs) low h =
    let parts = and_parts (nat_le q x) (list_all (nat_le q) xs) h in
    let test = parts.0 in
    let head : nat_le at x ≡ true = grind (arith, nat_tests, test, low) in
    rw head (list_higher at q xs low parts.1)

-- the places of a stack
moved_back : (at q : ℕ) (P : ℕ → Type 0) (r s : List ℕ) → Over at P r s → list_all (nat_le q) r ≡ true → list_all (nat_le (q - at)) s ≡ true
moved_back at q P r [] h apart = refl
moved_back at q P [] (i ∷ s) h apart = absurd h
moved_back at q P (j ∷ r) (i ∷ s) h apart =
    let parts = and_parts (nat_le q j) (list_all (nat_le q) r) apart in
    let test = parts.0 in
    let place = h.0 in
    let head : nat_le (q - at) i ≡ true = grind (arith, nat_tests, test, place) in
    rw head (moved_back at q P r s h.2 parts.1)

-- what clears nothing of a stack clears nothing of one that it holds
clears_none :
    {T : Type 0} (e : GenericStateEntry T) (r s : List ℕ) → length s ≤ length r → not (does_clear e r) ≡ true → not (does_clear e s) ≡ true
clears_none e r s less none = by_flag (has_flag e 0x8000) none
  where
    by_room : (t : Bool) → nat_lt (length r) 8 ≡ t → not (not t) ≡ true → not (not (nat_lt (length s) 8)) ≡ true
    by_room true is none = let room : nat_lt (length s) 8 ≡ true = grind (arith, nat_tests, is, less) in rw room refl
    by_room false is none = absurd (let h = none in cc)

    by_flag : (t : Bool) → not (t && not (nat_lt (length r) 8)) ≡ true → not (t && not (nat_lt (length s) 8)) ≡ true
    by_flag true none = by_room (nat_lt (length r) 8) refl none
    by_flag false none = refl

-- those that a push clears
cleared_back :
    {T : Type 0} (at q : ℕ) (P : ℕ → Type 0) (e : GenericStateEntry T) (r s : List ℕ) → Over at P r s
    → list_all (nat_le q) (cleared_by e r) ≡ true → list_all (nat_le (q - at)) (cleared_by e s) ≡ true
cleared_back at q P e r s h apart = by_flag (has_flag e 0x8000) apart
  where
    by_room : (t : Bool) → nat_lt (length s) 8 ≡ t → list_all (nat_le q) (cond (not (nat_lt (length r) 8)) r []) ≡ true
        → list_all (nat_le (q - at)) (cond (not t) s []) ≡ true
    by_room true is apart = refl
    by_room false is apart =
        let more = over_length at P r s h in
        let full : nat_lt (length r) 8 ≡ false = grind (arith, nat_tests, is, more) in
        moved_back at q P r s h (rw full at apart)

    by_flag : (t : Bool) → list_all (nat_le q) (cond (t && not (nat_lt (length r) 8)) r []) ≡ true
        → list_all (nat_le (q - at)) (cond (t && not (nat_lt (length s) 8)) s []) ≡ true
    by_flag true apart = by_room (nat_lt (length s) 8) refl apart
    by_flag false apart = refl

-- those that values take
module _ (value : ℕ → Option ℤ) (step at n long q : ℕ) (P : ℕ → Type 0) (room_of : (i : ℕ) → P i → nat_lt (at + i) long ≡ nat_lt i n) where
  abbrev Back : List ℕ → List ℕ → Type 0
  Back r s =
      (index : ℕ) → list_all (nat_le q) (taken_by value step long r index) ≡ true
      → list_all (nat_le (q - at)) (taken_by value step n s index) ≡ true

  one_back : (j i : ℕ) (r s : List ℕ) → j ≡ at + i → P i → Back r s → Back (j ∷ r) (i ∷ s)
  unfolding taken_by
  one_back j i r s place known more index apart = by_value (value index) apart
    where
      lower : nat_le q j ≡ true → nat_le (q - at) i ≡ true
      lower test = grind (arith, nat_tests, test, place)

      room : nat_lt j long ≡ nat_lt i n
      room = ap (λ (k : ℕ). nat_lt k long) place ∙ room_of i known

      by_end : (t : Bool) → list_all (nat_le q) (cond t [] (taken_by value step long r (index + step))) ≡ true
          → list_all (nat_le (q - at)) (cond t [] (taken_by value step n s (index + step))) ≡ true
      by_end true apart = refl
      by_end false apart = more (index + step) apart

      by_value : (o : Option ℤ)
          → list_all (nat_le q) (j ∷ elim o as (λ _. List ℕ) [ None ↦ [] | Some v ↦ cond (is_odd v && nat_lt j long) [] (taken_by value step long r (index + step)) ]) ≡ true
          → list_all (nat_le (q - at)) (i ∷ elim o as (λ _. List ℕ) [ None ↦ [] | Some v ↦ cond (is_odd v && nat_lt i n) [] (taken_by value step n s (index + step)) ]) ≡ true
      by_value None apart =
          let head = lower (and_parts (nat_le q j) true apart).0 in
          rw head refl
      by_value (Some v) apart =
          let parts = and_parts (nat_le q j) (list_all (nat_le q) (cond (is_odd v && nat_lt j long) [] (taken_by value step long r (index + step)))) apart in
          let head = lower parts.0 in
          rw (head, sym room) (by_end (is_odd v && nat_lt j long) parts.1)

  taken_back : (r s : List ℕ) → Over at P r s → Back r s
  unfolding taken_by
  taken_back r [] h index apart = refl
  taken_back [] (i ∷ s) h index apart = absurd h
  taken_back (j ∷ r) (i ∷ s) h index apart = one_back j i r s h.0 h.1 (taken_back r s h.2) index apart

-- of a list of what is cleared and what is taken
both_apart : (q : ℕ) (xs ys : List ℕ) → list_all (nat_le q) xs ≡ true → list_all (nat_le q) ys ≡ true → list_all (nat_le q) (xs ++ ys) ≡ true
both_apart q xs ys left right = list_all-append (nat_le q) xs ys ∙ (ap (λ (t : Bool). t && list_all (nat_le q) ys) left ∙ right)

module _ (value : ℕ → Option ℤ) (step index : ℕ) where
  -- what an entry clears and takes, if it takes
  abbrev Touched : {T : Type 0} → Bool → GenericStateEntry T → List ℕ → ℕ → ℕ → List ℕ
  Touched t e r c n = cleared_by e r ++ cond t (taken_by value step n (pushed_by e c r) index) []

  stack_touches :
      {T : Type 0} (t : Bool) (at n long q c d : ℕ) (e : GenericStateEntry T) (r s : List ℕ) → StackOver at n r s → c ≡ at + d
      → at + n ≤ long → IsWithin at n long d → at ≤ q → list_all (nat_le q) (Touched t e r c long) ≡ true
      → list_all (nat_le (q - at)) (Touched t e s d n) ≡ true
  stack_touches t at n long q c d e r s over cursor fits within low apart =
      both_apart (q - at) (cleared_by e s) (cond t (taken_by value step n (pushed_by e d s) index) [])
      (cleared_back at q (λ i. i < n) e r s over parts.0) (by_test t parts.1)
    where
      parts : (list_all (nat_le q) (cleared_by e r) ≡ true) × (list_all (nat_le q) (cond t (taken_by value step long (pushed_by e c r) index) []) ≡ true)
      parts = and_parts _ _ (sym (list_all-append (nat_le q) (cleared_by e r) _) ∙ apart)

      pushed : Over at (Known n d) (pushed_by e c r) (pushed_by e d s)
      pushed = over_pushed at n c d e r s over cursor (list_higher at q (cleared_by e r) low parts.0)

      by_test : (t : Bool) → list_all (nat_le q) (cond t (taken_by value step long (pushed_by e c r) index) []) ≡ true
          → list_all (nat_le (q - at)) (cond t (taken_by value step n (pushed_by e d s) index) []) ≡ true
      by_test true apart = taken_back value step at n long q (Known n d) (rooms at n long d fits within) (pushed_by e c r) (pushed_by e d s) pushed index apart
      by_test false apart = refl

  -- an entry that clears nothing and takes nothing
  idle_touches : {T : Type 0} (q n : ℕ) (e : GenericStateEntry T) (s : List ℕ) → not (does_clear e s) ≡ true → list_all (nat_le q) (Touched false e s n n) ≡ true
  idle_touches q n e s rests = let none : does_clear e s ≡ false = not-true _ rests in rw none refl

  one_taken : (q n : ℕ) → q ≤ n → list_all (nat_le q) (taken_by value step n (n ∷ []) index) ≡ true
  unfolding taken_by
  one_taken q n low = by_value (value index)
    where
      here : nat_le q n ≡ true
      here = grind (arith, nat_tests, low)

      by_end : (t : Bool) → list_all (nat_le q) (n ∷ cond t [] []) ≡ true
      by_end true = rw here refl
      by_end false = rw here refl

      by_value : (o : Option ℤ) → list_all (nat_le q) (n ∷ elim o as (λ _. List ℕ) [ None ↦ [] | Some v ↦ cond (is_odd v && nat_lt n n) [] [] ]) ≡ true
      by_value None = by_end true
      by_value (Some v) = by_end (is_odd v && nat_lt n n)

  none_taken : (n : ℕ) → taken_by value step n [] index ≡ []
  unfolding taken_by
  none_taken n = refl

  -- with an empty stack only the place of the cursor is touched
  empty_touches : {T : Type 0} (t : Bool) (q n : ℕ) (e : GenericStateEntry T) → q ≤ n → list_all (nat_le q) (Touched t e [] n n) ≡ true
  empty_touches t q n e low = by_flag t (has_flag e 0x8000)
    where
      by_flag : (t u : Bool) → list_all (nat_le q) (cond (u && false) [] [] ++ cond t (taken_by value step n (cond u (n ∷ []) []) index) []) ≡ true
      by_flag true true = one_taken q n low
      by_flag true false = ap (list_all (nat_le q)) (none_taken n)
      by_flag false true = refl
      by_flag false false = refl

module _ (values : List ℤ) where
  -- a `kern` stack
  kern_touches :
      (at n long q c d : ℕ) (e : GenericStateEntry KernEntryData) (r s : List ℕ) → StackOver at n r s → c ≡ at + d → at + n ≤ long
      → IsWithin at n long d → at ≤ q → list_all (nat_le q) (kern_touched values e r c long) ≡ true
      → list_all (nat_le (q - at)) (kern_touched values e s d n) ≡ true
  kern_touches at n long q c d e r s over cursor fits within low apart =
      stack_touches (kern_value values) 1 e.extra.value_index (is_present e.extra.value_index && nat_lt e.extra.value_index (length values))
      at n long q c d e r s over cursor fits within low apart

  kern_rests_too :
      (at n : ℕ) (e : GenericStateEntry KernEntryData) (r s : List ℕ) → StackOver at n r s
      → ((not (is_present e.extra.value_index) || length r == 0) && not (does_clear e r)) ≡ true
      → ((not (is_present e.extra.value_index) || length s == 0) && not (does_clear e s)) ≡ true
  kern_rests_too at n e r s over rests =
      let parts = and_parts (not (is_present e.extra.value_index) || length r == 0) (not (does_clear e r)) rests in
      both_tests _ _ (by_index (not (is_present e.extra.value_index)) parts.0)
      (clears_none e r s (over_length at (λ i. i < n) r s over) parts.1)
    where
      by_index : (t : Bool) → (t || length r == 0) ≡ true → (t || length s == 0) ≡ true
      by_index true rests = refl
      by_index false rests = let less = over_length at (λ i. i < n) r s over in grind (arith, nat_tests, rests, less)

  kern_over :
      (n q : ℕ) (e : GenericStateEntry KernEntryData) (s : List ℕ)
      → ((not (is_present e.extra.value_index) || length s == 0) && not (does_clear e s)) ≡ true → q ≤ n
      → list_all (nat_le q) (kern_touched values e s n n) ≡ true
  kern_over n q e s rests low =
      let parts = and_parts (not (is_present e.extra.value_index) || length s == 0) (not (does_clear e s)) rests in
      by_index (is_present e.extra.value_index) parts.1 parts.0
    where
      by_index : (t : Bool) → not (does_clear e s) ≡ true → (not t || length s == 0) ≡ true
          → list_all (nat_le q) (cleared_by e s ++ cond (t && nat_lt e.extra.value_index (length values)) (taken_by (kern_value values) 1 n (pushed_by e n s) e.extra.value_index) []) ≡ true
      by_index false quiet rests = idle_touches (kern_value values) 1 e.extra.value_index q n e s quiet
      by_index true quiet rests =
          let none : length s ≡ 0 = grind (arith, nat_tests, rests) in
          rw (empty s none) (empty_touches (kern_value values) 1 e.extra.value_index (nat_lt e.extra.value_index (length values)) q n e low)

  pub kern_touches_in_parts : TouchesInParts (kern_touching values) StackOver
  kern_touches_in_parts = record { touches = kern_touches; rests = kern_rests_too; over = kern_over }

-- what a reset leaves
reset_over : (at n : ℕ) (e : GenericStateEntry EntryData) (r s : List ℕ) → StackOver at n r s → StackOver at n (behind_reset e r) (behind_reset e s)
reset_over at n e r s over = by_flag (has_flag e 0x2000)
  where
    by_flag : (t : Bool) → Over at (λ i. i < n) (cond t [] r) (cond t [] s)
    by_flag true = tt
    by_flag false = over

module _ (tuple_count : ℕ) (values : List ℤ) where
  -- a `kerx` stack
  kerx_touches :
      (at n long q c d : ℕ) (e : GenericStateEntry EntryData) (r s : List ℕ) → StackOver at n r s → c ≡ at + d → at + n ≤ long
      → IsWithin at n long d → at ≤ q → list_all (nat_le q) (kerx_touched tuple_count values e r c long) ≡ true
      → list_all (nat_le (q - at)) (kerx_touched tuple_count values e s d n) ≡ true
  kerx_touches at n long q c d e r s over cursor fits within low apart =
      stack_touches (kerx_value values (max tuple_count 1)) (max tuple_count 1) e.extra.action_index (has_action e && nat_le tuple_count 65535)
      at n long q c d e (behind_reset e r) (behind_reset e s) (reset_over at n e r s over) cursor fits within low apart

  kerx_rests_too :
      (at n : ℕ) (e : GenericStateEntry EntryData) (r s : List ℕ) → StackOver at n r s
      → ((not (has_action e) || length (behind_reset e r) == 0) && not (does_clear e (behind_reset e r))) ≡ true
      → ((not (has_action e) || length (behind_reset e s) == 0) && not (does_clear e (behind_reset e s))) ≡ true
  kerx_rests_too at n e r s over rests =
      let parts = and_parts (not (has_action e) || length (behind_reset e r) == 0) (not (does_clear e (behind_reset e r))) rests in
      both_tests _ _ (by_index (not (has_action e)) parts.0)
      (clears_none e (behind_reset e r) (behind_reset e s)
      (over_length at (λ i. i < n) (behind_reset e r) (behind_reset e s) (reset_over at n e r s over)) parts.1)
    where
      by_index : (t : Bool) → (t || length (behind_reset e r) == 0) ≡ true → (t || length (behind_reset e s) == 0) ≡ true
      by_index true rests = refl
      by_index false rests =
          let less = over_length at (λ i. i < n) (behind_reset e r) (behind_reset e s) (reset_over at n e r s over) in
          grind (arith, nat_tests, rests, less)

  kerx_over :
      (n q : ℕ) (e : GenericStateEntry EntryData) (s : List ℕ)
      → ((not (has_action e) || length (behind_reset e s) == 0) && not (does_clear e (behind_reset e s))) ≡ true → q ≤ n
      → list_all (nat_le q) (kerx_touched tuple_count values e s n n) ≡ true
  kerx_over n q e s rests low =
      let parts = and_parts (not (has_action e) || length (behind_reset e s) == 0) (not (does_clear e (behind_reset e s))) rests in
      by_index (has_action e) parts.1 parts.0
    where
      step : ℕ
      step = max tuple_count 1

      by_index : (t : Bool) → not (does_clear e (behind_reset e s)) ≡ true → (not t || length (behind_reset e s) == 0) ≡ true
          → list_all (nat_le q) (cleared_by e (behind_reset e s) ++ cond (t && nat_le tuple_count 65535) (taken_by (kerx_value values (max tuple_count 1)) (max tuple_count 1) n (pushed_by e n (behind_reset e s)) e.extra.action_index) []) ≡ true
      by_index false quiet rests = idle_touches (kerx_value values step) step e.extra.action_index q n e (behind_reset e s) quiet
      by_index true quiet rests =
          let none : length (behind_reset e s) ≡ 0 = grind (arith, nat_tests, rests) in
          rw (empty (behind_reset e s) none) (empty_touches (kerx_value values step) step e.extra.action_index (nat_le tuple_count 65535) q n e low)

  pub kerx_touches_in_parts : TouchesInParts (kerx_touching tuple_count values) StackOver
  kerx_touches_in_parts = record { touches = kerx_touches; rests = kerx_rests_too; over = kerx_over }

-- anchors
anchors_touch :
    (at n long q c d : ℕ) (e : GenericStateEntry EntryData) (r s : Option ℕ) → MarkOver at n r s → c ≡ at + d → at + n ≤ long
    → IsWithin at n long d → at ≤ q → list_all (nat_le q) (anchor_touching.touched e r c long) ≡ true
    → list_all (nat_le (q - at)) (anchor_touching.touched e s d n) ≡ true
anchors_touch at n long q c d e r s over cursor fits within low apart = rw (sym (same within)) (by_test (has_action e && nat_lt c long) apart)
  where
    same : IsWithin at n long d → nat_lt c long ≡ nat_lt d n
    same (inl below) = grind (arith, nat_tests, below, cursor, fits)
    same (inr whole) = grind (arith, nat_tests, whole, cursor)

    by_test : (t : Bool) → list_all (nat_le q) (cond t (place_of r) []) ≡ true → list_all (nat_le (q - at)) (cond t (place_of s) []) ≡ true
    by_test true apart = moved_back at q (λ i. i < n) (place_of r) (place_of s) over apart
    by_test false apart = refl

anchors_over :
    (n q : ℕ) (e : GenericStateEntry EntryData) (s : Option ℕ) → true ≡ true → q ≤ n
    → list_all (nat_le q) (anchor_touching.touched e s n n) ≡ true
anchors_over n q e s rests low =
    let none : nat_lt n n ≡ false = grind (arith, nat_tests) in
    rw none (by_action (has_action e))
  where
    by_action : (t : Bool) → list_all (nat_le q) (cond (t && false) (place_of s) []) ≡ true
    by_action true = refl
    by_action false = refl

pub anchors_touch_in_parts : TouchesInParts anchor_touching MarkOver
anchors_touch_in_parts = record { touches = anchors_touch; rests = λ at n e r s over rests. rests; over = anchors_over }
