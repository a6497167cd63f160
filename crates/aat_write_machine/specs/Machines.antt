-- State tables as bytes. Apple's TrueType Reference Manual, "Font Tables", section on state tables.
use Rattle.std.specs.Prelude.{ℕ, ◌+◌, ◌*◌, List, ◌∷◌, ◌++◌, length, Result, Ok}
use Rattle.std.specs.List.{flat_map, range_with_len}
use Rattle.aat_machine_tables.specs.Table.{Rule, TableValue}
use Rattle.aat_machine_tables.specs.declared.state_table.GenericStateEntry.{GenericStateEntry}
use Rattle.aat_write_machine.specs.Lookups.{lookup_written}
use Rattle.aat_write_machine.specs.Words.{long_bytes, word_bytes}
use Rattle.aat_write_machine.specs.EntryWords.{rule_words}
use Rattle.aat_write_machine.specs.MachineRefusals.{rules_refusal}
use Rattle.aat_write_machine.specs.MorxWriteErrors.{after_written, of_lookup, unless_refused}
use Rattle.aat_write_machine.specs.declared.error.MorxWriteError.{MorxWriteError}

-- where the class table starts: behind the header, which a kind of subtable has further offsets in
abbrev pub class_offset : List ℕ → ℕ
class_offset further = 16 + 4 * length further

-- where the state array starts
abbrev pub state_offset : List ℕ → List ℕ → ℕ
state_offset further classes = class_offset further + length classes

-- where the entries start, of which each cell has one
abbrev pub entry_offset : List ℕ → List ℕ → ℕ → ℕ
entry_offset further classes cells = state_offset further classes + 2 * cells

-- the header: the number of classes, the offsets of the class table, of the state array and of the entries, and those
-- of the kind of subtable
abbrev pub header_longs : List ℕ → ℕ → List ℕ → ℕ → List ℕ
header_longs further class_count classes cells =
    class_count ∷ class_offset further ∷ state_offset further classes ∷ entry_offset further classes cells ∷ further

-- a state table with the bytes of its class table: the header, the class table, a row of indexes for each state, and an
-- entry for each cell
abbrev pub machine_bytes :
    {T : Type 0} → (T → List ℕ) → List ℕ → ℕ → List ℕ → List (Rule (GenericStateEntry T)) → List ℕ
machine_bytes words_of further class_count classes rules =
    long_bytes (header_longs further class_count classes (length rules)) ++ (classes
    ++ (word_bytes (range_with_len 0 (length rules)) ++ word_bytes (flat_map (rule_words words_of) rules)))

-- the bytes of the class table of a machine whose rules are not refused, or why it is not written
abbrev pub class_table_written : {T : Type 0} → TableValue (GenericStateEntry T) → Result (List ℕ) MorxWriteError
class_table_written t = unless_refused (rules_refusal t.class_count t.rules) (of_lookup (lookup_written t.classes))

-- the bytes of a machine, or why it is not written
abbrev pub machine_written :
    {T : Type 0} → (T → List ℕ) → List ℕ → TableValue (GenericStateEntry T) → Result (List ℕ) MorxWriteError
machine_written words_of further t =
    after_written (class_table_written t) (λ classes. Ok (machine_bytes words_of further t.class_count classes t.rules))
