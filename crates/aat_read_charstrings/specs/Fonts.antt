-- The charstrings of a font. Adobe Technical Note 5176, "The Compact Font Format Specification".
use Rattle.std.specs.Prelude.{ℕ, pos, ◌==◌, List, length, slice_index, Result, Ok, Err, if◌then◌else◌, nat_le}
use Rattle.std.specs.Ordering.{int_eq}
use Rattle.aat_bytes.specs.Faults.{after}
use Rattle.aat_bytes.specs.declared.error.Fault.{Fault}
use Rattle.aat_bytes.specs.declared.error.FaultKind.TheVariants.{UnknownFormat}
use Rattle.aat_read_charstrings.specs.FontDicts.{index_of_entry, local_subroutines, of_entry}
use Rattle.aat_read_charstrings.specs.Indexes.{fault_of, index_at, index_end, object_at, past}
use Rattle.aat_read_charstrings.specs.Machines.{drawn_glyph}
use Rattle.aat_read_charstrings.specs.Programs.{Program}
use Rattle.aat_read_charstrings.specs.declared.font_dict.TheConstants.{CHAR_STRINGS, CHARSTRING_TYPE}
use Rattle.aat_read_charstrings.specs.declared.index.Index.{Index}
use Rattle.aat_read_charstrings.specs.declared.index.Span.{Span}
use Rattle.aat_read_charstrings.specs.declared.path.CubicSegment.{CubicSegment}

-- the table, its Top DICT, the charstrings of the glyphs, and the global subroutines
pub record CharStringTables : Type 0 where
  pub cff : List ℕ
  pub top : Span
  pub charstrings : Index
  pub globals : Index

-- the INDEX behind another one
abbrev pub index_behind : List ℕ → Index → Result Index Fault
index_behind bytes before = index_at bytes (index_end bytes before)

-- the INDEX of names, at the place that the header says
abbrev pub name_index : List ℕ → Result Index Fault
name_index bytes =
    if nat_le 4 (length bytes) then
    (if slice_index bytes 0 == 1 then index_at bytes (slice_index bytes 2) else Err (fault_of UnknownFormat 0))
    else Err (past 0)

-- charstrings are of type 2, which they are where no type is said
abbrev pub type_checked : List ℕ → Span → Result (Unit {0}) Fault
type_checked bytes top =
    of_entry bytes top CHARSTRING_TYPE (Ok tt) (λ operands.
    if int_eq operands.last (pos 2) then Ok tt else Err (fault_of UnknownFormat top.start))

-- the charstrings of a table: behind the INDEX of names stand those of Top DICTs, of strings and of global subroutines
abbrev pub charstrings_of : List ℕ → Result CharStringTables Fault
charstrings_of cff =
    after (name_index cff) (λ names.
    after (index_behind cff names) (λ tops.
    after (index_behind cff tops) (λ strings.
    after (index_behind cff strings) (λ globals.
    after (object_at cff tops 0) (λ top.
    after (type_checked cff top) (λ _.
    after (index_of_entry cff top CHAR_STRINGS) (λ charstrings.
    Ok (record { cff = cff; top = top; charstrings = charstrings; globals = globals }))))))))

-- the program of a glyph
abbrev pub program_of : CharStringTables → Index → Program
program_of tables locals = record { cff = tables.cff; globals = tables.globals; locals = locals }

-- what is drawn of a glyph
abbrev pub outline_of : CharStringTables → ℕ → Result (List CubicSegment) Fault
outline_of tables glyph =
    after (object_at tables.cff tables.charstrings glyph) (λ at.
    after (local_subroutines tables.cff tables.globals tables.top glyph) (λ locals.
    drawn_glyph (program_of tables locals) at))
