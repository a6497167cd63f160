-- From where the acts over what the contexts hold look at the line.
use Rattle.std.specs.Prelude.{ℕ}
use Rattle.aat_buffer.specs.Buffer.{Buffer}
use Rattle.aat_machine_tables.specs.Subtables.{ContextualTables, InsertionTables, LigatureTables}
use Rattle.aat_machine_tables.specs.Table.{TableValue}
use Rattle.aat_machine_tables.specs.declared.state_table.GenericStateEntry.{GenericStateEntry}
use Rattle.aat_kinds.specs.Contextual as contextual
use Rattle.aat_kinds.specs.Insertion as insertion
use Rattle.aat_kinds.specs.Ligature as ligature
use Rattle.aat_kinds.specs.Rearrangement as rearrangement
use Rattle.aat_closing.specs.Closing.{contextual_from, insertion_from, ligature_from, rearrangement_from}

abbrev pub held_contextual_from : ContextualTables → contextual.Entry → contextual.Held → Buffer → ℕ
held_contextual_from s e h b = contextual_from e h.registers b

abbrev pub held_rearrangement_from : TableValue rearrangement.Entry → rearrangement.Entry → rearrangement.Registers → Buffer → ℕ
held_rearrangement_from s e r b = rearrangement_from e r b

abbrev pub held_ligature_from : LigatureTables → GenericStateEntry ℕ → ligature.Held → Buffer → ℕ
held_ligature_from s e h b = ligature_from s.actions s.state e h.registers b

abbrev pub held_insertion_from : InsertionTables → insertion.Entry → insertion.Held → Buffer → ℕ
held_insertion_from s e h b = insertion_from e h.registers b
