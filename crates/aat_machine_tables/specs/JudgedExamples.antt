-- Worked examples of judged entries: those of a machine of ligatures, whose entries hold a number.
use Rattle.std.specs.Prelude.{◌≡◌, ℕ, true, false, Option, Some, None, Bool}
use Rattle.aat_machine_tables.specs.Judged.{is_safe_by, ligature_acts}
use Rattle.aat_machine_tables.specs.declared.state_table.GenericStateEntry.{GenericStateEntry}

-- the entry that goes to a state, with flags
abbrev pub to : ℕ → ℕ → GenericStateEntry ℕ
to state flags = record { new_state = state; flags = flags; extra = 0 }

-- the test in state 2, where the entry for the end of the text does not act
abbrev pub in_second : GenericStateEntry ℕ → Option (GenericStateEntry ℕ) → Bool
in_second e from_start = is_safe_by ligature_acts 2 e from_start (Some (to 0 0))

-- none is put in state 0, where an entry stays and goes to state 0, and where state 0 leads on alike: a component
-- that is held does not count
abbrev pub NoMarkIsPut : Type 0
NoMarkIsPut =
    (is_safe_by ligature_acts 0 (to 2 0x8000) None (Some (to 0 0)) ≡ true)
    × (in_second (to 0 0x4000) None ≡ true)
    × (in_second (to 3 0x8000) (Some (to 3 0)) ≡ true)

-- one is put where the entry acts, where state 0 has none or one that acts, goes elsewhere or stays, and where the
-- entry for the end is missing or acts
abbrev pub MarkIsPut : Type 0
MarkIsPut =
    (in_second (to 3 0x2000) (Some (to 3 0)) ≡ false)
    × (in_second (to 3 0) None ≡ false)
    × (in_second (to 3 0) (Some (to 3 0x2000)) ≡ false)
    × (in_second (to 3 0) (Some (to 4 0)) ≡ false)
    × (in_second (to 3 0) (Some (to 3 0x4000)) ≡ false)
    × (is_safe_by ligature_acts 0 (to 3 0) None None ≡ false)
    × (is_safe_by ligature_acts 0 (to 3 0) None (Some (to 0 0x2000)) ≡ false)
