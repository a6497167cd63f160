-- Which subtables are settled, by their kinds, and what a reason why one is not says. Apple's TrueType Reference Manual,
-- "The 'morx' table".
use Rattle.std.specs.Prelude.{◌≡◌, ℕ, ◌&&◌, Bool, true, false, List, length, Option, Some, None}
use Rattle.aat_machine_tables.specs.Entries.{has_flag}
use Rattle.aat_machine_tables.specs.Table.{TableValue, entry_of}
use Rattle.aat_machine_tables.specs.declared.entries.ContextualEntryData.{ContextualEntryData}
use Rattle.aat_machine_tables.specs.declared.entries.InsertionEntryData.{InsertionEntryData}
use Rattle.aat_machine_tables.specs.declared.morx.SubtableKind.{SubtableKind}
use Rattle.aat_machine_tables.specs.declared.morx.SubtableKind.TheVariants.{Rearrangement, Contextual, Ligature, NonContextual, Insertion}
use Rattle.aat_machine_tables.specs.declared.state_table.GenericStateEntry.{GenericStateEntry}
use Rattle.aat_cuts.specs.Held.{HoldsOver, IsLigatureSettled, IsPushTakenAt, most_held}
use Rattle.aat_cuts.specs.Reached.{IsComplete, IsReached}
use Rattle.aat_cuts.specs.Settled.{IsRegisterSettled, IsTakenAt, IsUsedAt, Register, the_end_set_by, the_mark}
use Rattle.aat_cuts.specs.declared.steps.Trouble.{Trouble}
use Rattle.aat_cuts.specs.declared.steps.Trouble.TheVariants.{Unset, Taken}
use Rattle.aat_cuts.specs.declared.unsettled.Unsettled.{Unsettled}
use Rattle.aat_cuts.specs.declared.unsettled.Unsettled.TheVariants.{MissingEntry, MovesAtEnd, TakenForOne, TooFewComponents, UsedBeforeSet}
use Rattle.aat_cuts.specs.declared.unsettled.UsedRegister.{UsedRegister}
use Rattle.aat_cuts.specs.declared.unsettled.UsedRegister.TheVariants.{Components, Mark, SpanEnd, SpanStart}

-- contextual, with so many lookups: complete, and of the mark tidy and agreeing
abbrev pub IsContextualSettled : TableValue (GenericStateEntry ContextualEntryData) → ℕ → Type 0
IsContextualSettled table lookups =
    (is_reached : ℕ → Bool) × IsComplete table is_reached × IsRegisterSettled table (the_mark lookups) is_reached

-- insertion: complete
abbrev pub IsInsertionSettled : TableValue (GenericStateEntry InsertionEntryData) → Type 0
IsInsertionSettled table = (is_reached : ℕ → Bool) × IsComplete table is_reached

-- an entry has a verb, and the flag that sets the end of the span
abbrev pub moves_and_ends : GenericStateEntry (Unit {0}) → Bool
moves_and_ends e = has_flag e 0x000F && has_flag e 0x2000

-- no entry for the end of the text does both
abbrev pub IsQuietAtEnd : TableValue (GenericStateEntry (Unit {0})) → (ℕ → Bool) → Type 0
IsQuietAtEnd table is_reached =
    (s : ℕ) (e : GenericStateEntry (Unit {0})) → is_reached s ≡ true → entry_of table s 0 ≡ Some e
    → moves_and_ends e ≡ false

-- rearrangement: complete, and of the start and the end of the span tidy and agreeing
abbrev pub IsRearrangementSettled : TableValue (GenericStateEntry (Unit {0})) → Type 0
IsRearrangementSettled table =
    (is_reached : ℕ → Bool) × IsComplete table is_reached × IsRegisterSettled table (the_end_set_by 0x8000) is_reached
    × IsRegisterSettled table (the_end_set_by 0x2000) is_reached × IsQuietAtEnd table is_reached

-- the register of a machine that a reason names
abbrev pub mark_named : ℕ → UsedRegister → Option (Register ContextualEntryData)
mark_named lookups Mark = Some (the_mark lookups)
mark_named lookups SpanStart = None
mark_named lookups SpanEnd = None
mark_named lookups Components = None

abbrev pub end_named : UsedRegister → Option (Register (Unit {0}))
end_named Mark = None
end_named SpanStart = Some (the_end_set_by 0x8000)
end_named SpanEnd = Some (the_end_set_by 0x2000)
end_named Components = None

-- a machine that has no register
abbrev pub none_named : {T : Type 0} → UsedRegister → Option (Register T)
none_named named = None

module _ {T : Type 0} (table : TableValue (GenericStateEntry T)) (named : UsedRegister → Option (Register T))
    (moves : GenericStateEntry T → Bool) where
  -- what a reason says of the table: which entry is missing, uses a register, sets it otherwise, or moves glyphs at the end
  abbrev pub Shows : Unsettled → Type 0
  Shows (MissingEntry state class) = entry_of table state class ≡ None
  Shows (UsedBeforeSet r state class) =
      (register : Register T) × (named r ≡ Some register) × IsUsedAt table register state class
  Shows (TakenForOne r state class) =
      (register : Register T) × (named r ≡ Some register) × IsTakenAt table register state class
  Shows (MovesAtEnd state) = (e : GenericStateEntry T) × (entry_of table state 0 ≡ Some e) × (moves e ≡ true)
  Shows (TooFewComponents state) = ⊥

-- the state that a reason names
abbrev pub state_of : Unsettled → ℕ
state_of (MissingEntry state class) = state
state_of (UsedBeforeSet r state class) = state
state_of (TakenForOne r state class) = state
state_of (MovesAtEnd state) = state
state_of (TooFewComponents state) = state

-- what was found: that a table is settled, or a reason why it is not, which names a state that is reached
abbrev pub IsVerdict : Type 0 → (ℕ → Type 0) → (Unsettled → Type 0) → Option Unsettled → Type 0
IsVerdict settled reached shows None = settled
IsVerdict settled reached shows (Some reason) = (settled → ⊥) × reached (state_of reason) × shows reason

abbrev pub IsVerdictOnContextual :
    TableValue (GenericStateEntry ContextualEntryData) → ℕ → Option Unsettled → Type 0
IsVerdictOnContextual table lookups =
    IsVerdict (IsContextualSettled table lookups) (IsReached table) (Shows table (mark_named lookups) (λ e. false))

abbrev pub IsVerdictOnInsertion : TableValue (GenericStateEntry InsertionEntryData) → Option Unsettled → Type 0
IsVerdictOnInsertion table =
    IsVerdict (IsInsertionSettled table) (IsReached table) (Shows table none_named (λ e. false))

abbrev pub IsVerdictOnRearrangement : TableValue (GenericStateEntry (Unit {0})) → Option Unsettled → Type 0
IsVerdictOnRearrangement table =
    IsVerdict (IsRearrangementSettled table) (IsReached table) (Shows table end_named moves_and_ends)

-- what a reason says of a ligature machine: which entry is missing or pushes otherwise, or which state would hold more
-- components than it may
abbrev pub ShowsLigature : TableValue (GenericStateEntry ℕ) → List ℕ → Unsettled → Type 0
ShowsLigature table actions (MissingEntry state class) = entry_of table state class ≡ None
ShowsLigature table actions (UsedBeforeSet r state class) = ⊥
ShowsLigature table actions (TakenForOne r state class) = (r ≡ Components) × IsPushTakenAt table actions state class
ShowsLigature table actions (MovesAtEnd state) = ⊥
ShowsLigature table actions (TooFewComponents state) = HoldsOver table actions state (most_held state)

abbrev pub IsVerdictOnLigature : TableValue (GenericStateEntry ℕ) → List ℕ → Option Unsettled → Type 0
IsVerdictOnLigature table actions =
    IsVerdict (IsLigatureSettled table actions) (IsReached table) (ShowsLigature table actions)

-- a subtable is settled, by its kind. A noncontextual one always is
abbrev pub IsSettled : SubtableKind → Type 0
IsSettled (Rearrangement table) = IsRearrangementSettled table
IsSettled (Contextual s) = IsContextualSettled s.state (length s.lookups)
IsSettled (Ligature s) = IsLigatureSettled s.state s.actions
IsSettled (NonContextual lookup) = Unit {0}
IsSettled (Insertion s) = IsInsertionSettled s.state

-- what was found of a subtable: that it is settled, or a reason why it is not
abbrev pub IsVerdictOn : SubtableKind → Option Unsettled → Type 0
IsVerdictOn (Rearrangement table) found = IsVerdictOnRearrangement table found
IsVerdictOn (Contextual s) found = IsVerdictOnContextual s.state (length s.lookups) found
IsVerdictOn (Ligature s) found = IsVerdictOnLigature s.state s.actions found
IsVerdictOn (NonContextual lookup) found = found ≡ None
IsVerdictOn (Insertion s) found = IsVerdictOnInsertion s.state found

-- the reason by what was found of a register
abbrev pub reason_of : UsedRegister → Trouble → Unsettled
reason_of r (Unset state class) = UsedBeforeSet r state class
reason_of r (Taken state class) = TakenForOne r state class
