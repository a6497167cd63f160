-- A machine whose entries have numbers, as it is written without further offsets.
use Rattle.std.specs.Prelude.{◌≡◌, ℕ, ◌+◌, ◌-◌, ◌*◌, List, [], ◌∷◌, ◌++◌, length, drop, map, Bool, None, Ok, position}
use Rattle.aat_machine_tables.specs.Table.{Rule, TableValue}
use Rattle.aat_machine_tables.specs.declared.entries.EntryData.{EntryData}
use Rattle.aat_machine_tables.specs.declared.state_table.GenericStateEntry.{GenericStateEntry}
use Rattle.aat_write_machine.specs.Words.{long_bytes}
use Rattle.aat_write_machine.specs.EntryWords.{one_word}
use Rattle.aat_write_machine.specs.Machines as plain
use Rattle.aat_write_kerx.specs.MachineBytes.{KerxMachine, action_number, is_far}

-- a rule whose entry has what stands for the place of its action
abbrev pub numbered_rule : Bool → Rule (GenericStateEntry EntryData) → Rule (GenericStateEntry ℕ)
numbered_rule counts_bytes r = (
  r.0,
  r.1,
  record {
    new_state = r.2.new_state;
    flags = r.2.flags;
    extra = action_number counts_bytes r.2.extra.action_index;
  },
)

-- a machine of such rules
abbrev pub numbered : Bool → KerxMachine → TableValue (GenericStateEntry ℕ)
numbered counts_bytes t =
    record { class_count = t.class_count; classes = t.classes; rules = map (numbered_rule counts_bytes) t.rules }

-- no action has a number of more than 16 bits, and bytes are those of the machine without further offsets
abbrev pub IsPlain : Bool → KerxMachine → List ℕ → Type 0
IsPlain counts_bytes t bytes =
    (position (is_far counts_bytes) t.rules ≡ None)
    × (plain.machine_written one_word [] (numbered counts_bytes t) ≡ Ok bytes)

-- the bytes of a machine with a further number behind its header, which is flags and the offset of what follows. Each
-- cell has an index of two bytes and an entry of six
abbrev pub with_number : ℕ → ℕ → ℕ → List ℕ → List ℕ
with_number class_count cells flags plain =
    let end = length plain + 4 in
    long_bytes (class_count ∷ 20 ∷ (end - 8 * cells) ∷ (end - 6 * cells) ∷ (flags + end) ∷ []) ++ drop 16 plain
