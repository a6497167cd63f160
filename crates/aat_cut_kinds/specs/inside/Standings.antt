-- What a run that tells of open places finds where it stands.
use Rattle.std.specs.Prelude.{ℕ}
use Rattle.aat_buffer.specs.Buffer.{Buffer}
use Rattle.aat_machine_tables.specs.Table.{TableValue, class_of, entry_of}
use Rattle.aat_machine_tables.specs.declared.state_table.GenericStateEntry.{GenericStateEntry}
use Rattle.aat_run.specs.Context.{class_at, entry_at}
use Rattle.aat_cut_kinds.specs.declared.kerning_turns.Found.{Found}

-- the class at the cursor, and the entries of the state for it and for the end of the text
abbrev pub found_at : {T : Type 0} → TableValue (GenericStateEntry T) → ℕ → Buffer → Found T
found_at table state b = record {
  class = class_at (class_of table) b;
  entry = entry_at table state b;
  end = entry_of table state 0;
}
