-- Where the line gets no mark before a glyph, by the entries of a state table alone, where these act whatever the
-- registers hold. (No chapter of the manual: break safety is the shaper's own.)
use Rattle.std.specs.Prelude.{ℕ, Bool, false, true, Option, None, Some, ◌==◌, ◌&&◌, ◌||◌, not}
use Rattle.aat_machine_tables.specs.Entries.{has_flag, goes_on, is_present}
use Rattle.aat_lookup.specs.Truth.{is_some_and, is_alike}
use Rattle.aat_machine_tables.specs.declared.entries.ContextualEntryData.{ContextualEntryData}
use Rattle.aat_machine_tables.specs.declared.entries.EntryData.{EntryData}
use Rattle.aat_machine_tables.specs.declared.entries.InsertionEntryData.{InsertionEntryData}
use Rattle.aat_machine_tables.specs.declared.entries.KernEntryData.{KernEntryData}
use Rattle.aat_machine_tables.specs.declared.judged.JudgedEntry.{JudgedEntry}
use Rattle.aat_machine_tables.specs.declared.judged.JudgedEntry.TheVariants.{Missing, Safe, Unsafe}
use Rattle.aat_machine_tables.specs.declared.state_table.GenericStateEntry.{GenericStateEntry}

-- an entry of rearrangement may act where it has a verb
abbrev pub rearrangement_acts : GenericStateEntry (Unit {0}) → Bool
rearrangement_acts e = has_flag e 0x000F

-- a contextual entry may act where it names a lookup
abbrev pub contextual_acts : GenericStateEntry ContextualEntryData → Bool
contextual_acts e = is_present e.extra.mark_index || is_present e.extra.current_index

-- an entry of ligatures may act where it takes components in
abbrev pub ligature_acts : GenericStateEntry ℕ → Bool
ligature_acts e = has_flag e 0x2000

-- an entry of insertion may act where it has a count and an index
abbrev pub insertion_acts : GenericStateEntry InsertionEntryData → Bool
insertion_acts e =
    has_flag e 0x03FF && (is_present e.extra.current_insert_index || is_present e.extra.marked_insert_index)

-- an entry of `kerx` may act where it has an index
abbrev pub kerx_acts : GenericStateEntry EntryData → Bool
kerx_acts e = is_present e.extra.action_index

-- an entry of `kern` may act where it has an index
abbrev pub kern_acts : GenericStateEntry KernEntryData → Bool
kern_acts e = is_present e.extra.value_index

-- the state to which an entry goes
abbrev pub state_of : {T : Type 0} → GenericStateEntry T → ℕ
state_of e = e.new_state

module _ {E : Type 0} (acts advances : E → Bool) (next : E → ℕ) where
  -- an entry that does not act, goes to the state of e and advances as e does
  abbrev pub does_alike : E → E → Bool
  does_alike e f = not (acts f) && ((next f == next e) && is_alike (advances f) (advances e))

  -- the line gets no mark before a glyph, by the entry e that is taken in a state, the one of state 0 for the same
  -- class and the one of the state for the end of the text. These are HarfBuzz's conditions, as it numbers them:
  -- 1. e does not act. 2. The state is 0, or e stays and goes to state 0, or the entry of state 0 does as e does, and
  -- does not act. 3. The entry for the end is there and does not act
  abbrev pub is_safe_turn : ℕ → E → Option E → Option E → Bool
  is_safe_turn state e from_start at_end =
      not (acts e)
      && (((state == 0) || ((not (advances e) && (next e == 0)) || is_some_and from_start (does_alike e)))
      && is_some_and at_end (λ f. not (acts f)))

module _ {T : Type 0} (acts : GenericStateEntry T → Bool) where
  -- an entry that does not act, goes to the state of e and advances as e does
  abbrev pub leads_as : GenericStateEntry T → GenericStateEntry T → Bool
  leads_as = does_alike acts goes_on state_of

  -- the test by a table's entries, without a question of the registers
  unfoldable pub is_safe_by : ℕ → GenericStateEntry T → Option (GenericStateEntry T) → Option (GenericStateEntry T)
      → Bool
  is_safe_by = is_safe_turn acts goes_on state_of

module _ {T : Type 0} where
  -- the entry that is judged, if there is one
  abbrev pub entry_in : JudgedEntry T → Option (GenericStateEntry T)
  entry_in Missing = None
  entry_in (Safe e) = Some e
  entry_in (Unsafe e) = Some e

  -- whether there is one that passes the test
  abbrev pub is_judged_safe : JudgedEntry T → Bool
  is_judged_safe Missing = false
  is_judged_safe (Safe e) = true
  is_judged_safe (Unsafe e) = false
