-- Entries that stay at a glyph. Apple's TrueType Reference Manual, "Font Tables", section on state tables.
use Rattle.std.specs.Prelude.{◌≡◌, ℕ, zero, suc, Option, None, Some, if◌then◌else◌}
use Rattle.std.specs.Option.{option_and_then}
use Rattle.aat_machine_tables.specs.Entries.{goes_on}
use Rattle.aat_machine_tables.specs.Table.{TableValue, entry_of}
use Rattle.aat_machine_tables.specs.declared.state_table.GenericStateEntry.{GenericStateEntry}

-- the state to which an entry leads that stays at the glyph
abbrev pub stays_to : {T : Type 0} → GenericStateEntry T → Option ℕ
stays_to e = if goes_on e then None else Some e.new_state

module _ {T : Type 0} (table : TableValue (GenericStateEntry T)) (class : ℕ) where
  -- the state to which the entry of a state and the class leads that stays at the glyph, if there is one
  abbrev pub stay_next : ℕ → Option ℕ
  stay_next state = option_and_then stays_to (entry_of table state class)

  -- the state behind so many entries that stay, if each of them does
  abbrev pub stay_after : ℕ → ℕ → Option ℕ
  stay_after zero state = Some state
  stay_after (suc turns) state = option_and_then (stay_after turns) (stay_next state)

  -- a glyph of the class is left after some turns
  abbrev pub MovesOn : ℕ → Type 0
  MovesOn state = (turns : ℕ) × (stay_after turns state ≡ None)

  -- entries that stay lead from a state to itself: a machine that comes to it at a glyph of the class stays there
  abbrev pub IsCycle : ℕ → Type 0
  IsCycle state = (turns : ℕ) × (stay_after (suc turns) state ≡ Some state)
