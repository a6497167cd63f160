-- Where a run of a kerning machine leaves a line open, so that its parts are kerned alike: by what its turns touch from
-- a place on, and by its first turn there, whatever the table. (No chapter of the manual: where a line can be broken is
-- the shaper's own.)
use Rattle.std.specs.Prelude.{ℕ, zero, suc, ℤ, ◌+◌, ◌==◌, ◌&&◌, ◌||◌, not, Bool, true, nat_lt, nat_le, max, List, [], ◌∷◌, ◌++◌, length, Option, Some, None, is_some, if◌then◌else◌}
use Rattle.std.specs.List.{list_all}
use Rattle.aat_buffer.specs.Buffer.{Buffer}
use Rattle.aat_lookup.specs.Truth.{is_some_and}
use Rattle.aat_machine_tables.specs.Entries.{goes_on, has_flag, is_present}
use Rattle.aat_machine_tables.specs.Table.{TableValue, entry_of}
use Rattle.aat_machine_tables.specs.declared.entries.EntryData.{EntryData}
use Rattle.aat_machine_tables.specs.declared.entries.KernEntryData.{KernEntryData}
use Rattle.aat_machine_tables.specs.declared.state_table.GenericStateEntry.{GenericStateEntry}
use Rattle.aat_run.specs.Budget.{potential}
use Rattle.aat_run.specs.Context.{Config, entry_at, start}
use Rattle.aat_run.specs.Machine.{Turn, Ends, Goes}
use Rattle.aat_kerning_machines.specs.KerningMachine.{Driver, has_action, kerning_machine_of, kerning_turn}
use Rattle.aat_kerning_machines.specs.Stack.{is_odd, kern_value, kerx_value, pushed_by}

-- What a kind of machine is asked: the index of an entry, the places of glyphs that its act touches at registers, a
-- cursor and a length, and whether at the end of the text it places no glyph, and clears none.
pub record Touching (R T : Type 0) : Type 0 where
  pub index : T → ℕ
  pub touched : GenericStateEntry T → R → ℕ → ℕ → List ℕ
  pub rests_at_end : GenericStateEntry T → R → Bool

-- an entry clears a stack: it pushes at eight places
abbrev pub does_clear : {T : Type 0} → GenericStateEntry T → List ℕ → Bool
does_clear e stack = has_flag e 0x8000 && not (nat_lt (length stack) 8)

-- the places that it clears
abbrev pub cleared_by : {T : Type 0} → GenericStateEntry T → List ℕ → List ℕ
cleared_by e stack = if does_clear e stack then stack else []

-- the places that the values of a list take off a stack, those behind a line of n glyphs too
module _ (value : ℕ → Option ℤ) (step n : ℕ) where
  unfoldable pub taken_by : List ℕ → ℕ → List ℕ
  taken_by [] index = []
  taken_by (i ∷ stack) index = i ∷ elim (value index) [
    | None ↦ []
    | Some v ↦ if is_odd v && nat_lt i n then [] else taken_by stack (index + step)
  ]

-- a `kern` entry; where the first value is missing the stack is cleared, and that touches nothing
abbrev pub kern_touched : List ℤ → GenericStateEntry KernEntryData → List ℕ → ℕ → ℕ → List ℕ
kern_touched values e stack p n =
    let index = e.extra.value_index in
    cleared_by e stack ++ (if is_present index && nat_lt index (length values)
    then taken_by (kern_value values) 1 n (pushed_by e p stack) index
    else [])

-- A `kern` stack: at the end of the text an entry without an index places nothing, and none does with an empty stack. It
-- also has to clear nothing, so that a text that ended there would close no place before it.
abbrev pub kern_touching : List ℤ → Touching (List ℕ) KernEntryData
kern_touching values = record {
  index = λ x. x.value_index;
  touched = kern_touched values;
  rests_at_end = λ e stack.
      (not (is_present e.extra.value_index) || length stack == 0) && not (does_clear e stack);
}

-- the places that are left where a `kerx` entry empties the stack (0x2000), which touches nothing
abbrev pub behind_reset : GenericStateEntry EntryData → List ℕ → List ℕ
behind_reset e stack = if has_flag e 0x2000 then [] else stack

-- a `kerx` entry of a stack
abbrev pub kerx_touched : ℕ → List ℤ → GenericStateEntry EntryData → List ℕ → ℕ → ℕ → List ℕ
kerx_touched tuple_count values e stack p n =
    let step = max tuple_count 1 in
    cleared_by e (behind_reset e stack) ++ (if has_action e && nat_le tuple_count 65535
    then taken_by (kerx_value values step) step n (pushed_by e p (behind_reset e stack)) e.extra.action_index
    else [])

-- a `kerx` stack
abbrev pub kerx_touching : ℕ → List ℤ → Touching (List ℕ) EntryData
kerx_touching tuple_count values = record {
  index = λ x. x.action_index;
  touched = kerx_touched tuple_count values;
  rests_at_end = λ e stack.
      (not (has_action e) || length (behind_reset e stack) == 0) && not (does_clear e (behind_reset e stack));
}

-- the marked place, if there is one
abbrev pub place_of : Option ℕ → List ℕ
place_of None = []
place_of (Some i) = i ∷ []

-- anchors: an entry with an index touches the marked glyph, but not at the end of the text
abbrev pub anchor_touching : Touching (Option ℕ) EntryData
anchor_touching = record {
  index = λ x. x.action_index;
  touched = λ e mark p n. if has_action e && nat_lt p n then place_of mark else [];
  rests_at_end = λ e mark. true;
}

-- there is none, or it passes the test
abbrev pub is_none_or : {X : Type 0} → Option X → (X → Bool) → Bool
is_none_or None test = true
is_none_or (Some x) test = test x

-- the first of n turns at place q: where the run stands before it
unfoldable pub first_at : {R : Type 0} → (Config R → Turn (Config R)) → ℕ → ℕ → Config R → Option (Config R)
first_at turn q zero c = None
first_at turn q (suc n) c =
    if c.buffer.cursor == q then Some c else elim (turn c) [ Ends d ↦ None | Goes d ↦ first_at turn q n d ]

-- before each of n turns the run passes a test
unfoldable pub passes_each : {R : Type 0} → (Config R → Turn (Config R)) → (Config R → Bool) → ℕ → Config R → Bool
passes_each turn test zero c = true
passes_each turn test (suc n) c =
    test c && elim (turn c) [ Ends d ↦ true | Goes d ↦ passes_each turn test n d ]

module _ {R T : Type 0} (k : Touching R T) where
  -- an entry that does no more than go back to state 0, which looks at the same glyph again
  abbrev pub only_returns : GenericStateEntry T → Bool
  only_returns e =
      not (is_present (k.index e.extra)) && (not (has_flag e 0x8000) && (not (goes_on e) && e.new_state == 0))

  -- two entries are the same in state, flags and index
  abbrev pub is_same_entry : GenericStateEntry T → GenericStateEntry T → Bool
  is_same_entry e f = e.new_state == f.new_state && (e.flags == f.flags && k.index e.extra == k.index f.extra)

  module _ (table : TableValue (GenericStateEntry T)) where
    -- where two glyphs or more are left, a turn asks for the entry of its state for the end of the text: it is there
    abbrev pub has_end_entry : ℕ → Buffer → Bool
    has_end_entry s b = not (nat_lt (b.cursor + 1) (length b.line)) || is_some (entry_of table s 0)

    -- the run goes on as one does from state 0: it is there, or its entry goes back there, or is that of state 0
    abbrev pub goes_as_from_start : Config R → Bool
    goes_as_from_start c =
        c.state == 0 || (has_end_entry c.state c.buffer && (has_end_entry 0 c.buffer
        && is_some_and (entry_at table c.state c.buffer) (λ e. only_returns e
        || is_some_and (entry_at table 0 c.buffer) (λ f. is_same_entry e f))))

    -- a text that ended before this glyph would place nothing more, nor clear
    abbrev pub rests_if_over : Config R → Bool
    rests_if_over c = is_none_or (entry_of table c.state 0) (λ z. k.rests_at_end z c.registers)

    -- the turn touches no place before q
    abbrev pub is_apart : ℕ → Config R → Bool
    is_apart q c =
        not (has_end_entry c.state c.buffer)
        || is_none_or (entry_at table c.state c.buffer)
        (λ e. list_all (nat_le q) (k.touched e c.registers c.buffer.cursor (length c.buffer.line)))

    -- Place q of a line is open to a run: the run comes there, goes on as from state 0, would place nothing more, nor
    -- clear, if the text ended there, and touches no place before q from there on.
    unfoldable pub is_open : Bool → Driver R (GenericStateEntry T) → ℕ → Buffer → Bool
    is_open pays_first driver q b =
        let turn = kerning_turn (kerning_machine_of pays_first table driver) in
        let first = start true b driver.fresh in
        is_some_and (first_at turn q (potential first.buffer + 1) first) (λ c. goes_as_from_start c
        && (rests_if_over c && passes_each turn (is_apart q) (potential c.buffer + 1) c))
