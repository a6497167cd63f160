-- What a subtable does, as bytes. Apple's TrueType Reference Manual, "The 'morx' table".
use Rattle.std.specs.Prelude.{ℕ, List, [], Result}
use Rattle.aat_machine_tables.specs.declared.morx.SubtableKind.{SubtableKind}
use Rattle.aat_machine_tables.specs.declared.morx.SubtableKind.TheVariants.{Rearrangement, Contextual, Ligature, NonContextual, Insertion}
use Rattle.aat_write_machine.specs.Lookups.{lookup_written}
use Rattle.aat_write_machine.specs.Contextual.{contextual_written}
use Rattle.aat_write_machine.specs.EntryWords.{no_words}
use Rattle.aat_write_machine.specs.Kinds.{insertion_written, ligature_written}
use Rattle.aat_write_machine.specs.Machines.{machine_written}
use Rattle.aat_write_machine.specs.MorxWriteErrors.{of_lookup}
use Rattle.aat_write_machine.specs.declared.error.MorxWriteError.{MorxWriteError}

-- the numbers of the kinds
abbrev pub kind_number : SubtableKind → ℕ
kind_number (Rearrangement t) = 0
kind_number (Contextual t) = 1
kind_number (Ligature t) = 2
kind_number (NonContextual pairs) = 4
kind_number (Insertion t) = 5

-- the bytes of a subtable behind its header, or why it is not written
abbrev pub kind_written : SubtableKind → Result (List ℕ) MorxWriteError
kind_written (Rearrangement t) = machine_written no_words [] t
kind_written (Contextual t) = contextual_written t
kind_written (Ligature t) = ligature_written t
kind_written (NonContextual pairs) = of_lookup (lookup_written pairs)
kind_written (Insertion t) = insertion_written t
