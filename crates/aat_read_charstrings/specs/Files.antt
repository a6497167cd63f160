-- The charstrings of a font file.
use Rattle.std.specs.Prelude.{Option, Some, None, Result, Ok, Err}
use Rattle.aat_bytes.specs.Faults.{after}
use Rattle.aat_bytes.specs.declared.error.Fault.{Fault}
use Rattle.aat_bytes.specs.declared.error.FaultKind.{FaultKind}
use Rattle.aat_bytes.specs.declared.error.FaultKind.TheVariants.{PastEnd, UnknownFormat, ShortLength, Missing, NotRising}
use Rattle.aat_read_sfnt.specs.Directory.{Directory, table_of}
use Rattle.aat_read_charstrings.specs.Fonts.{CharStringTables, charstrings_of}
use Rattle.aat_read_charstrings.specs.declared.tags.TheConstants.{CFF}

-- nothing where the fault is that a table is missing
abbrev pub none_if_missing : {X : Type 0} → FaultKind → Fault → Result (Option X) Fault
none_if_missing Missing fault = Ok None
none_if_missing PastEnd fault = Err fault
none_if_missing UnknownFormat fault = Err fault
none_if_missing ShortLength fault = Err fault
none_if_missing NotRising fault = Err fault

-- the charstrings of a font file, if it has the table
abbrev pub charstrings_in : Directory → Result (Option CharStringTables) Fault
charstrings_in file = elim (table_of file CFF) [
  | Ok cff ↦ after (charstrings_of cff) (λ tables. Ok (Some tables))
  | Err fault ↦ none_if_missing fault.kind fault
]
