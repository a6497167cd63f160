-- Tables of a font file that may be missing, and the numbers that metrics need of them. Apple's TrueType Reference
-- Manual, "The font directory".
use Rattle.std.specs.Prelude.{ℕ, List, Option, Some, None, Result, Ok, Err, unwrap_or}
use Rattle.aat_bytes.specs.Faults.{after}
use Rattle.aat_bytes.specs.declared.error.Fault.{Fault}
use Rattle.aat_bytes.specs.declared.error.FaultKind.{FaultKind}
use Rattle.aat_bytes.specs.declared.error.FaultKind.TheVariants.{PastEnd, UnknownFormat, ShortLength, Missing, NotRising}
use Rattle.aat_bytes.specs.declared.tag.Tag.{Tag}
use Rattle.aat_bytes.specs.declared.tags.TheConstants.{HEAD, MAXP}
use Rattle.aat_read_sfnt.specs.Directory.{Directory, cut_table_of}
use Rattle.aat_read_sfnt.specs.Header.{glyph_count, units_per_em}

-- nothing where the fault is that a table is missing
abbrev pub none_if_missing : {X : Type 0} → FaultKind → Fault → Result (Option X) Fault
none_if_missing Missing fault = Ok None
none_if_missing PastEnd fault = Err fault
none_if_missing UnknownFormat fault = Err fault
none_if_missing ShortLength fault = Err fault
none_if_missing NotRising fault = Err fault

-- a table that may be missing, which is no fault
abbrev pub unless_missing : {X : Type 0} → Result X Fault → Result (Option X) Fault
unless_missing (Ok x) = Ok (Some x)
unless_missing (Err fault) = none_if_missing fault.kind fault

-- what is read of a table's bytes, nothing where the table is missing
abbrev pub read_if_found : {X : Type 0} → (List ℕ → Result X Fault) → Option (List ℕ) → Result (Option X) Fault
read_if_found read None = Ok None
read_if_found read (Some bytes) = after (read bytes) (λ x. Ok (Some x))

-- what is read of a table of a font file, which is cut at the end of the file
abbrev pub table_in : {X : Type 0} → Directory → Tag → (List ℕ → Result X Fault) → Result (Option X) Fault
table_in file tag read = after (unless_missing (cut_table_of file tag)) (read_if_found read)

-- the number of glyphs
abbrev pub glyph_count_in : Directory → Result (Option ℕ) Fault
glyph_count_in file = table_in file MAXP glyph_count

-- the units of the em
abbrev pub units_per_em_in : Directory → Result (Option ℕ) Fault
units_per_em_in file = table_in file HEAD units_per_em

-- what is read of a table that is there and has no fault
abbrev pub found_in : {X : Type 0} → Result (Option X) Fault → Option X
found_in (Ok found) = found
found_in (Err fault) = None

-- the number that is read of a table, 0 where it is missing or has a fault
abbrev pub number_in : Result (Option ℕ) Fault → ℕ
number_in reading = unwrap_or (found_in reading) 0
