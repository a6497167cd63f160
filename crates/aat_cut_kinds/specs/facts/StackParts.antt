-- The acts of stacks over a line and over a part that stands at a place of it.
use Rattle.std.proofs.Common.{◌≡◌, ◌∙◌, ◌⊎◌, inl, inr, ℕ, ℤ, ◌+◌, ◌<◌, ◌≤◌, ◌&&◌, ◌||◌, ◌==◌, not, Bool, true, false, cond, List, [], ◌∷◌, length, max, bit_and, nat_le, nat_lt, Option, refl, ap, sym, arith}
use Rattle.std.proofs.lemmas.Bool.{and_parts, not-true, or_cases}
use Rattle.std.proofs.lemmas.Bool.Decides.{nat_tests}
use Rattle.std.proofs.lemmas.List.Folds.{list_all-append}
use Rattle.std.specs.List.{AllByRecursion, list_all}
use Rattle.aat_buffer.specs.Buffer.{Buffer, position_list}
use Rattle.aat_machine_tables.specs.Entries.{goes_on, has_flag, is_present}
use Rattle.aat_machine_tables.specs.Table.{TableValue}
use Rattle.aat_machine_tables.specs.declared.entries.EntryData.{EntryData}
use Rattle.aat_machine_tables.specs.declared.entries.KernEntryData.{KernEntryData}
use Rattle.aat_machine_tables.specs.declared.state_table.GenericStateEntry.{GenericStateEntry}
use Rattle.aat_run.specs.Context.{Moved}
use Rattle.aat_kerning_machines.specs.KerningMachine.{has_action}
use Rattle.aat_kerning_machines.specs.Stack.{kern_act, kern_value, kerx_act, kerx_value, popped, pushed_by}
use Rattle.aat_kerning_machines.specs.facts.StackLaws.{kern_keeps_place, kerx_keeps_place}
use Rattle.aat_cut_kinds.specs.KerningClosing.{behind_reset, cleared_by, is_same_entry, kern_touched, kern_touching, kerx_touched, kerx_touching, only_returns, taken_by}
use Rattle.aat_cut_kinds.specs.KerningCuts.{KeepsParts, kern_stack, kerx_stack}
use Rattle.aat_cut_kinds.specs.facts.KerningBeside.{Beside}
use Rattle.aat_cut_kinds.specs.facts.KerningParts.{machine_keeps_parts}
use Rattle.aat_cut_kinds.specs.facts.KerningTurns.{ActsInParts, IsWithin}
use Rattle.aat_cut_kinds.specs.facts.StacksOver.{Over, over_begun, over_front, over_pushed, over_weaker}
use Rattle.aat_cut_kinds.specs.facts.ValuesBeside.{popped_behind, popped_beside}

-- the stack of the whole is that of the part, moved on, over places before it
abbrev pub StackOver : ℕ → ℕ → List ℕ → List ℕ → Type 0
StackOver at n r s = Over at (λ i. i < n) r s

-- a place of the part, or its cursor
abbrev pub Known : ℕ → ℕ → ℕ → Type 0
Known n p i = (i < n) ⊎ (i ≡ p)

pub rooms : (at n long p : ℕ) → at + n ≤ long → IsWithin at n long p → (i : ℕ) → Known n p i → nat_lt (at + i) long ≡ nat_lt i n
rooms at n long p fits within i (inl below) = grind (arith, nat_tests, fits, below)
rooms at n long p fits (inl below) i (inr here) = grind (arith, nat_tests, fits, below, here)
rooms at n long p fits (inr whole) i (inr here) = grind (arith, nat_tests, whole)

known_below : (at n p : ℕ) → p < n → (r s : List ℕ) → Over at (Known n p) r s → StackOver at n r s
known_below at n p below r s h = over_weaker at (Known n p) (λ i. i < n) (λ i known. by_case i known) r s h
  where
    by_case : (i : ℕ) → (i < n) ⊎ (i ≡ p) → i < n
    by_case i (inl low) = low
    by_case i (inr here) = omega (arith, below, here)

-- with an empty stack at the end of the line no value finds a glyph
nothing_left : (is_cross : Bool) (kern_mask : ℕ) (value : ℕ → Option ℤ) (step index : ℕ) (t : Bool) (b : Buffer) → length b.line ≤ b.cursor
    → (popped is_cross kern_mask value step (cond t (b.cursor ∷ []) []) index b).buffer ≡ b
unfolding popped
nothing_left is_cross kern_mask value step index true b past = popped_behind is_cross kern_mask value step b.cursor index b past
nothing_left is_cross kern_mask value step index false b past = refl

pub empty : (s : List ℕ) → length s ≡ 0 → s ≡ []
empty [] none = refl
empty (i ∷ s) none = absurd (omega (arith, none))

module _ (is_cross : Bool) (kern_mask at n long : ℕ) (origin : Buffer) (w p : Buffer) (h : Beside kern_mask at n long origin w p) where
  -- what both leave
  abbrev BothLeave : Moved (List ℕ) → Moved (List ℕ) → Type 0
  BothLeave v u = Beside kern_mask at n long origin v.buffer u.buffer × Over at (Known n p.cursor) v.registers u.registers

  -- values for the stacks behind a push
  module _ (value : ℕ → Option ℤ) (step index : ℕ) (r s : List ℕ) (over : Over at (Known n p.cursor) r s) (within : IsWithin at n long p.cursor) where
    both_popped :
        list_all (nat_le at) (taken_by value step (length w.line) r index) ≡ true
        → BothLeave (popped is_cross kern_mask value step r index w) (popped is_cross kern_mask value step s index p)
    both_popped apart =
        popped_beside is_cross kern_mask at n long origin value step (Known n p.cursor) (rooms at n long p.cursor h.room within) r s over index w p h (rw h.line at apart)

module _ (is_cross : Bool) (kern_mask : ℕ) (values : List ℤ) where
  -- what a `kern` entry leaves of both
  kern_beside :
      (at n long : ℕ) (origin : Buffer) (e : GenericStateEntry KernEntryData) (r s : List ℕ) (w p : Buffer)
      → Beside kern_mask at n long origin w p → StackOver at n r s → IsWithin at n long p.cursor
      → list_all (nat_le at) (kern_touched values e r w.cursor (length w.line)) ≡ true
      → Beside kern_mask at n long origin (kern_act is_cross kern_mask values e r w).buffer (kern_act is_cross kern_mask values e s p).buffer
      × Over at (Known n p.cursor) (kern_act is_cross kern_mask values e r w).registers (kern_act is_cross kern_mask values e s p).registers
  unfolding kern_act
  kern_beside at n long origin e r s w p h over within apart =
      by_index (is_present e.extra.value_index) (nat_lt e.extra.value_index (length values)) parts.1
    where
      index : ℕ
      index = e.extra.value_index

      whole : List ℕ
      whole = pushed_by e w.cursor r

      part : List ℕ
      part = pushed_by e p.cursor s

      parts : (list_all (nat_le at) (cleared_by e r) ≡ true)
          × (list_all (nat_le at) (cond (is_present e.extra.value_index && nat_lt e.extra.value_index (length values)) (taken_by (kern_value values) 1 (length w.line) (pushed_by e w.cursor r) e.extra.value_index) []) ≡ true)
      parts = and_parts _ _ (sym (list_all-append (nat_le at) (cleared_by e r) _) ∙ apart)

      pushed : Over at (Known n p.cursor) (pushed_by e w.cursor r) (pushed_by e p.cursor s)
      pushed = over_pushed at n w.cursor p.cursor e r s over h.cursor parts.0

      by_index : (t u : Bool) → list_all (nat_le at) (cond (t && u) (taken_by (kern_value values) 1 (length w.line) (pushed_by e w.cursor r) e.extra.value_index) []) ≡ true
          → BothLeave is_cross kern_mask at n long origin w p h
          (cond (not t) (record { registers = pushed_by e w.cursor r; buffer = w }) (cond u (popped is_cross kern_mask (kern_value values) 1 (pushed_by e w.cursor r) e.extra.value_index w) (record { registers = []; buffer = w })))
          (cond (not t) (record { registers = pushed_by e p.cursor s; buffer = p }) (cond u (popped is_cross kern_mask (kern_value values) 1 (pushed_by e p.cursor s) e.extra.value_index p) (record { registers = []; buffer = p })))
      by_index false u apart = (h, pushed)
      by_index true true apart = both_popped is_cross kern_mask at n long origin w p h (kern_value values) 1 e.extra.value_index (pushed_by e w.cursor r) (pushed_by e p.cursor s) pushed within apart
      by_index true false apart = (h, tt)

  kern_returned :
      (q n : ℕ) (e : GenericStateEntry KernEntryData) (r s : List ℕ) (b : Buffer) → StackOver 0 q r s → only_returns (kern_touching values) e ≡ true
      → ((kern_act is_cross kern_mask values e r b).buffer ≡ b) × StackOver q n (kern_act is_cross kern_mask values e r b).registers []
  unfolding kern_act
  kern_returned q n e r s b over returns =
      let parts = and_parts (not (is_present e.extra.value_index)) (not (has_flag e 0x8000) && (not (goes_on e) && e.new_state == 0)) returns in
      let more = and_parts (not (has_flag e 0x8000)) (not (goes_on e) && e.new_state == 0) parts.1 in
      let none : is_present e.extra.value_index ≡ false = not-true _ parts.0 in
      let no_push : has_flag e 0x8000 ≡ false = not-true _ more.0 in
      rw (none, no_push) (refl, over_begun q r s over)

  kern_rests_there :
      (q : ℕ) (e : GenericStateEntry KernEntryData) (r s : List ℕ) (b : Buffer) → StackOver 0 q r s
      → (not (is_present e.extra.value_index) || length r == 0) ≡ true → length b.line ≤ b.cursor
      → position_list (kern_act is_cross kern_mask values e s b).buffer ≡ position_list b
  unfolding kern_act
  kern_rests_there q e r s b over rests past = by_rest (or_cases (not (is_present e.extra.value_index)) (length r == 0) rests)
    where
      by_empty : (t u : Bool) → position_list (cond (not t) (record { registers = pushed_by e b.cursor []; buffer = b }) (cond u (popped is_cross kern_mask (kern_value values) 1 (pushed_by e b.cursor []) e.extra.value_index b) (record { registers = []; buffer = b }))).buffer ≡ position_list b
      by_empty false u = refl
      by_empty true true = ap position_list (nothing_left is_cross kern_mask (kern_value values) 1 e.extra.value_index (has_flag e 0x8000) b past)
      by_empty true false = refl

      by_rest : (not (is_present e.extra.value_index) ≡ true) ⊎ ((length r == 0) ≡ true) → position_list (kern_act is_cross kern_mask values e s b).buffer ≡ position_list b
      by_rest (inl no_index) = let none : is_present e.extra.value_index ≡ false = not-true _ no_index in rw none refl
      by_rest (inr no_place) =
          let long = over_front (λ i. i < q) r s over in
          let none : length s ≡ 0 = (let zero_long : length r ≡ 0 = grind (arith, nat_tests, no_place) in omega (arith, zero_long, long)) in
          rw (empty s none) (by_empty (is_present e.extra.value_index) (nat_lt e.extra.value_index (length values)))

  pub kern_in_parts : ActsInParts (kern_touching values) (kern_act is_cross kern_mask values) [] kern_mask StackOver
  kern_in_parts = record {
    acts = λ at n long origin e r s w p h over within apart. (kern_beside at n long origin e r s w p h over within apart).0;
    alike = λ at n long origin e r s w p h over below apart. known_below at n p.cursor below _ _ (kern_beside at n long origin e r s w p h over (inl below) apart).1;
    first = λ n. tt;
    begun = λ q n r s over. over_begun q r s over;
    returned = kern_returned;
    rests = λ q e r s b over rests past.
        kern_rests_there q e r s b over (and_parts (not (is_present e.extra.value_index) || length r == 0) _ rests).0 past;
  }

  pub kern_same : (e f : GenericStateEntry KernEntryData) → is_same_entry (kern_touching values) e f ≡ true → e ≡ f
  kern_same e f alike =
      let first = and_parts (e.new_state == f.new_state) (e.flags == f.flags && e.extra.value_index == f.extra.value_index) alike in
      let second = and_parts (e.flags == f.flags) (e.extra.value_index == f.extra.value_index) first.1 in
      let state_test = first.0 in
      let flags_test = second.0 in
      let index_test = second.1 in
      let state : e.new_state ≡ f.new_state = grind (arith, nat_tests, state_test) in
      let flags : e.flags ≡ f.flags = grind (arith, nat_tests, flags_test) in
      let index : e.extra.value_index ≡ f.extra.value_index = grind (arith, nat_tests, index_test) in
      λ i. record { new_state = state i; flags = flags i; extra = record { value_index = index i } }

pub kern_keeps_parts : (pays_first is_cross : Bool) (kern_mask : ℕ) (values : List ℤ) (table : TableValue (GenericStateEntry KernEntryData))
    → bit_and kern_mask 7 ≡ 0 → KeepsParts kern_mask (kern_stack pays_first is_cross kern_mask values table)
kern_keeps_parts pays_first is_cross kern_mask values table free =
    machine_keeps_parts (kern_touching values) pays_first table _ kern_mask free (kern_keeps_place is_cross kern_mask values) StackOver
    (kern_in_parts is_cross kern_mask values) (kern_same is_cross kern_mask values)

module _ (is_cross : Bool) (kern_mask tuple_count : ℕ) (values : List ℤ) where
  -- a reset leaves nothing of either stack
  over_reset : (at n : ℕ) (e : GenericStateEntry EntryData) (r s : List ℕ) → StackOver at n r s → StackOver at n (behind_reset e r) (behind_reset e s)
  over_reset at n e r s over = by_flag (has_flag e 0x2000)
    where
      by_flag : (t : Bool) → Over at (λ i. i < n) (cond t [] r) (cond t [] s)
      by_flag true = tt
      by_flag false = over

  kerx_beside :
      (at n long : ℕ) (origin : Buffer) (e : GenericStateEntry EntryData) (r s : List ℕ) (w p : Buffer)
      → Beside kern_mask at n long origin w p → StackOver at n r s → IsWithin at n long p.cursor
      → list_all (nat_le at) (kerx_touched tuple_count values e r w.cursor (length w.line)) ≡ true
      → Beside kern_mask at n long origin (kerx_act is_cross kern_mask tuple_count values e r w).buffer (kerx_act is_cross kern_mask tuple_count values e s p).buffer
      × Over at (Known n p.cursor) (kerx_act is_cross kern_mask tuple_count values e r w).registers (kerx_act is_cross kern_mask tuple_count values e s p).registers
  unfolding kerx_act
  kerx_beside at n long origin e r s w p h over within apart =
      by_action (has_action e && nat_le tuple_count 65535) parts.1
    where
      parts : (list_all (nat_le at) (cleared_by e (behind_reset e r)) ≡ true)
          × (list_all (nat_le at) (cond (has_action e && nat_le tuple_count 65535) (taken_by (kerx_value values (max tuple_count 1)) (max tuple_count 1) (length w.line) (pushed_by e w.cursor (behind_reset e r)) e.extra.action_index) []) ≡ true)
      parts = and_parts _ _ (sym (list_all-append (nat_le at) (cleared_by e (behind_reset e r)) _) ∙ apart)

      pushed : Over at (Known n p.cursor) (pushed_by e w.cursor (behind_reset e r)) (pushed_by e p.cursor (behind_reset e s))
      pushed = over_pushed at n w.cursor p.cursor e (behind_reset e r) (behind_reset e s) (over_reset at n e r s over) h.cursor parts.0

      by_action : (t : Bool) → list_all (nat_le at) (cond t (taken_by (kerx_value values (max tuple_count 1)) (max tuple_count 1) (length w.line) (pushed_by e w.cursor (behind_reset e r)) e.extra.action_index) []) ≡ true
          → BothLeave is_cross kern_mask at n long origin w p h
          (cond t (popped is_cross kern_mask (kerx_value values (max tuple_count 1)) (max tuple_count 1) (pushed_by e w.cursor (behind_reset e r)) e.extra.action_index w) (record { registers = pushed_by e w.cursor (behind_reset e r); buffer = w }))
          (cond t (popped is_cross kern_mask (kerx_value values (max tuple_count 1)) (max tuple_count 1) (pushed_by e p.cursor (behind_reset e s)) e.extra.action_index p) (record { registers = pushed_by e p.cursor (behind_reset e s); buffer = p }))
      by_action true apart =
          both_popped is_cross kern_mask at n long origin w p h (kerx_value values (max tuple_count 1)) (max tuple_count 1) e.extra.action_index (pushed_by e w.cursor (behind_reset e r)) (pushed_by e p.cursor (behind_reset e s)) pushed within apart
      by_action false apart = (h, pushed)

  kerx_returned :
      (q n : ℕ) (e : GenericStateEntry EntryData) (r s : List ℕ) (b : Buffer) → StackOver 0 q r s → only_returns (kerx_touching tuple_count values) e ≡ true
      → ((kerx_act is_cross kern_mask tuple_count values e r b).buffer ≡ b) × StackOver q n (kerx_act is_cross kern_mask tuple_count values e r b).registers []
  unfolding kerx_act
  kerx_returned q n e r s b over returns =
      let parts = and_parts (not (is_present e.extra.action_index)) (not (has_flag e 0x8000) && (not (goes_on e) && e.new_state == 0)) returns in
      let more = and_parts (not (has_flag e 0x8000)) (not (goes_on e) && e.new_state == 0) parts.1 in
      let none : is_present e.extra.action_index ≡ false = not-true _ parts.0 in
      let no_push : has_flag e 0x8000 ≡ false = not-true _ more.0 in
      rw (none, no_push) (refl, by_flag (has_flag e 0x2000))
    where
      by_flag : (t : Bool) → AllByRecursion (λ j. j < q) (cond t [] r)
      by_flag true = tt
      by_flag false = over_begun q r s over

  kerx_rests_there :
      (q : ℕ) (e : GenericStateEntry EntryData) (r s : List ℕ) (b : Buffer) → StackOver 0 q r s
      → (not (has_action e) || length (behind_reset e r) == 0) ≡ true → length b.line ≤ b.cursor
      → position_list (kerx_act is_cross kern_mask tuple_count values e s b).buffer ≡ position_list b
  unfolding kerx_act
  kerx_rests_there q e r s b over rests past = by_rest (or_cases (not (has_action e)) (length (behind_reset e r) == 0) rests)
    where
      by_empty : (t : Bool) → position_list (cond t (popped is_cross kern_mask (kerx_value values (max tuple_count 1)) (max tuple_count 1) (pushed_by e b.cursor []) e.extra.action_index b) (record { registers = pushed_by e b.cursor []; buffer = b })).buffer ≡ position_list b
      by_empty true = ap position_list (nothing_left is_cross kern_mask (kerx_value values (max tuple_count 1)) (max tuple_count 1) e.extra.action_index (has_flag e 0x8000) b past)
      by_empty false = refl

      by_rest : (not (has_action e) ≡ true) ⊎ ((length (behind_reset e r) == 0) ≡ true) → position_list (kerx_act is_cross kern_mask tuple_count values e s b).buffer ≡ position_list b
      by_rest (inl no_index) = let none : has_action e ≡ false = not-true _ no_index in rw none refl
      by_rest (inr no_place) =
          let long = over_front (λ i. i < q) (behind_reset e r) (behind_reset e s) (over_reset 0 q e r s over) in
          let none : length (behind_reset e s) ≡ 0 = (let zero_long : length (behind_reset e r) ≡ 0 = grind (arith, nat_tests, no_place) in omega (arith, zero_long, long)) in
          rw (empty (behind_reset e s) none) (by_empty (has_action e && nat_le tuple_count 65535))

  pub kerx_in_parts : ActsInParts (kerx_touching tuple_count values) (kerx_act is_cross kern_mask tuple_count values) [] kern_mask StackOver
  kerx_in_parts = record {
    acts = λ at n long origin e r s w p h over within apart. (kerx_beside at n long origin e r s w p h over within apart).0;
    alike = λ at n long origin e r s w p h over below apart. known_below at n p.cursor below _ _ (kerx_beside at n long origin e r s w p h over (inl below) apart).1;
    first = λ n. tt;
    begun = λ q n r s over. over_begun q r s over;
    returned = kerx_returned;
    rests = λ q e r s b over rests past.
        kerx_rests_there q e r s b over (and_parts (not (has_action e) || length (behind_reset e r) == 0) _ rests).0 past;
  }

-- two entries of `kerx` with the same state, flags and index are one
pub same_entries : (e f : GenericStateEntry EntryData) → (e.new_state == f.new_state && (e.flags == f.flags && e.extra.action_index == f.extra.action_index)) ≡ true → e ≡ f
same_entries e f alike =
    let first = and_parts (e.new_state == f.new_state) (e.flags == f.flags && e.extra.action_index == f.extra.action_index) alike in
    let second = and_parts (e.flags == f.flags) (e.extra.action_index == f.extra.action_index) first.1 in
    let state_test = first.0 in
    let flags_test = second.0 in
    let index_test = second.1 in
    let state : e.new_state ≡ f.new_state = grind (arith, nat_tests, state_test) in
    let flags : e.flags ≡ f.flags = grind (arith, nat_tests, flags_test) in
    let index : e.extra.action_index ≡ f.extra.action_index = grind (arith, nat_tests, index_test) in
    λ i. record { new_state = state i; flags = flags i; extra = record { action_index = index i } }

pub kerx_keeps_parts : (pays_first is_cross : Bool) (kern_mask tuple_count : ℕ) (values : List ℤ) (table : TableValue (GenericStateEntry EntryData))
    → bit_and kern_mask 7 ≡ 0 → KeepsParts kern_mask (kerx_stack pays_first is_cross kern_mask tuple_count values table)
kerx_keeps_parts pays_first is_cross kern_mask tuple_count values table free =
    machine_keeps_parts (kerx_touching tuple_count values) pays_first table _ kern_mask free (kerx_keeps_place is_cross kern_mask tuple_count values) StackOver
    (kerx_in_parts is_cross kern_mask tuple_count values) same_entries
