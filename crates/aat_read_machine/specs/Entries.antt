-- What entries hold beside a state and flags. Apple's TrueType Reference Manual, "The 'morx' table" and "The 'kerx'
-- table".
use Rattle.std.specs.Prelude.{ℕ, ◌+◌, ◌/◌, ◌==◌, List, if◌then◌else◌}
use Rattle.aat_bytes.specs.Numbers.{be16}
use Rattle.aat_machine_tables.specs.declared.entries.ContextualEntryData.{ContextualEntryData}
use Rattle.aat_machine_tables.specs.declared.entries.EntryData.{EntryData}
use Rattle.aat_machine_tables.specs.declared.entries.InsertionEntryData.{InsertionEntryData}
use Rattle.aat_machine_tables.specs.declared.state_table.GenericStateEntry.{GenericStateEntry}

-- an entry: the state that follows, flags, and what the kind of machine adds
abbrev pub entry_at : {T : Type 0} → (List ℕ → ℕ → T) → List ℕ → ℕ → GenericStateEntry T
entry_at extra_at bytes place =
    record { new_state = be16 bytes place; flags = be16 bytes (place + 2); extra = extra_at bytes (place + 4) }

-- contextual glyph substitution: the lookup for the marked glyph, then that for the current one
abbrev pub contextual_at : List ℕ → ℕ → ContextualEntryData
contextual_at bytes place = record { mark_index = be16 bytes place; current_index = be16 bytes (place + 2) }

-- glyph insertion: the glyphs for the cursor, then those for the mark
abbrev pub insertion_at : List ℕ → ℕ → InsertionEntryData
insertion_at bytes place =
    record { current_insert_index = be16 bytes place; marked_insert_index = be16 bytes (place + 2) }

-- the machines of `kerx`: the action
abbrev pub action_at : List ℕ → ℕ → EntryData
action_at bytes place = record { action_index = be16 bytes place }

-- the values of a machine of `kerx` with a stack are named by bytes, of which each has two, and 0xFFFF names none
abbrev pub value_index : ℕ → ℕ
value_index byte = if byte == 65535 then 65535 else byte / 2

-- such a machine: the place of its first value
abbrev pub stack_action_at : List ℕ → ℕ → EntryData
stack_action_at bytes place = record { action_index = value_index (be16 bytes place) }
