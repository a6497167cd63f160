-- The machines of the extended kerning table as bytes, behind the header of a subtable. Apple's TrueType Reference
-- Manual, "The 'kerx' table", formats 1 and 4.
use Rattle.std.specs.Prelude.{ℕ, ◌+◌, ◌*◌, List, [], ◌∷◌, ◌++◌, length, Bool, true, false, not, Option, Some, None, Result, Ok, Err, if◌then◌else◌, nat_lt, position, ◌==◌, ◌&&◌}
use Rattle.std.specs.List.{flat_map}
use Rattle.aat_kerning_tables.specs.KerningTables.{KerxAnchorTables, KerxStackTables}
use Rattle.aat_machine_tables.specs.Table.{Rule, TableValue}
use Rattle.aat_machine_tables.specs.declared.entries.EntryData.{EntryData}
use Rattle.aat_machine_tables.specs.declared.state_table.GenericStateEntry.{GenericStateEntry}
use Rattle.aat_write_machine.specs.Lookups.{pair_words}
use Rattle.aat_write_machine.specs.Words.{word_bytes}
use Rattle.aat_write_machine.specs.Kinds.{machine_end}
use Rattle.aat_write_machine.specs.Machines.{class_table_written, machine_bytes}
use Rattle.aat_write_kerx.specs.KerxWriteErrors.{after_written, of_machine}
use Rattle.aat_write_kerx.specs.PairBytes.{value_bytes}
use Rattle.aat_write_kerx.specs.declared.subtable_error.SubtableWriteError.{SubtableWriteError}
use Rattle.aat_write_kerx.specs.declared.subtable_error.SubtableWriteError.TheVariants.{NoIndex}

-- a machine of `kerx`
abbrev pub KerxMachine : Type 0
KerxMachine = TableValue (GenericStateEntry EntryData)

-- what stands for the place of an action: itself, or, where bytes are counted, those before it, of which each value has
-- two. 0xFFFF stays, and names none
abbrev pub action_number : Bool → ℕ → ℕ
action_number counts_bytes index = if counts_bytes && not (index == 65535) then 2 * index else index

-- an entry has what stands for the place of its action
abbrev pub action_words : Bool → EntryData → List ℕ
action_words counts_bytes extra = action_number counts_bytes extra.action_index ∷ []

-- whether what stands for the place of a rule's action has more than 16 bits
abbrev pub is_far : Bool → Rule (GenericStateEntry EntryData) → Bool
is_far counts_bytes rule = nat_lt 65535 (action_number counts_bytes rule.2.extra.action_index)

-- the bytes of the class table of a machine, given the first rule whose action has no number of 16 bits
abbrev pub unless_far : KerxMachine → Option ℕ → Result (List ℕ) SubtableWriteError
unless_far t (Some place) = Err (NoIndex place)
unless_far t None = of_machine (class_table_written t)

-- the bytes of the class table of a machine, or why it is not written
abbrev pub table_written : Bool → KerxMachine → Result (List ℕ) SubtableWriteError
table_written counts_bytes t = unless_far t (position (is_far counts_bytes) t.rules)

-- a machine with the bytes of its class table, whose header ends with flags and the offset of what follows
abbrev pub with_offset : Bool → ℕ → KerxMachine → List ℕ → List ℕ
with_offset counts_bytes flags t classes =
    let number = flags + machine_end 1 2 classes (length t.rules) in
    machine_bytes (action_words counts_bytes) (number ∷ []) t.class_count classes t.rules

-- its bytes, or why it is not written
abbrev pub machine_written : Bool → ℕ → KerxMachine → Result (List ℕ) SubtableWriteError
machine_written counts_bytes flags t =
    after_written (table_written counts_bytes t) (λ classes. Ok (with_offset counts_bytes flags t classes))

-- format 1: a machine whose entries count bytes, and the values, or why it is not written
abbrev pub stack_written : KerxStackTables → Result (List ℕ) SubtableWriteError
stack_written t =
    after_written (machine_written true 0 t.state_table) (λ machine. Ok (machine ++ value_bytes t.values))

-- format 4: a machine with flags that say that its entries name anchor points, and the pairs of these, or why it is not
-- written
abbrev pub anchor_written : KerxAnchorTables → Result (List ℕ) SubtableWriteError
anchor_written t =
    after_written (machine_written false 1073741824 t.state_table) (λ machine.
    Ok (machine ++ word_bytes (flat_map pair_words t.anchor_points)))
