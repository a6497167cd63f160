-- A machine that is written is read again.
use Rattle.std.specs.Prelude.{◌≡◌, ℕ, ◌<◌, ◌^◌, List, ◌++◌, length, All, Ok}
use Rattle.aat_bytes.specs.declared.tag.Tag.{Tag}
use Rattle.aat_machine_tables.specs.Table.{Rule, TableValue}
use Rattle.aat_machine_tables.specs.declared.state_table.GenericStateEntry.{GenericStateEntry}
use Rattle.aat_read_machine.specs.Machine.{machine_at}
use Rattle.aat_write_machine.specs.LookupLaws.{IsPair}
use Rattle.aat_write_machine.specs.EntryWords.{rule_words}
use Rattle.aat_write_machine.specs.Machines.{machine_written}

-- a number has 16 bits
abbrev pub IsWord : ℕ → Type 0
IsWord number = number < 2 ^ 16

-- a number has 32 bits
abbrev pub IsLong : ℕ → Type 0
IsLong number = number < 2 ^ 32

-- the class of a rule and the numbers of its entry have 16 bits each
abbrev pub IsRule : {T : Type 0} → (T → List ℕ) → Rule (GenericStateEntry T) → Type 0
IsRule words_of rule = IsWord rule.1 × All IsWord (rule_words words_of rule)

-- the numbers of a machine have 16 bits each
abbrev pub IsMachine : {T : Type 0} → (T → List ℕ) → TableValue (GenericStateEntry T) → Type 0
IsMachine words_of t = IsWord t.class_count × All IsPair t.classes × All (IsRule words_of) t.rules

-- the reader gives the machine that was written, whatever stands before and behind it in the table
abbrev pub MachinesAreRead : {T : Type 0} → ℕ → (List ℕ → ℕ → T) → (T → List ℕ) → Type 0
MachinesAreRead size extra_at words_of =
    (table : Tag) (further : List ℕ) (t : TableValue _) (bytes before after : List ℕ) (glyph_count : ℕ)
    → IsMachine words_of t
    → All IsLong further
    → length further < 4
    → machine_written words_of further t ≡ Ok bytes
    → machine_at size extra_at table (before ++ (bytes ++ after)) (length before) glyph_count ≡ Ok t
