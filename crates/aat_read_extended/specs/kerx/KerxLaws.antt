-- What an extended kerning table has that is read. Apple's TrueType Reference Manual, "The 'kerx' table".
use Rattle.std.specs.Prelude.{◌≡◌, ℕ, ◌+◌, ◌-◌, ◌*◌, ◌≤◌, List, length, Ok}
use Rattle.aat_bytes.specs.Numbers.{be32}
use Rattle.aat_read_machine.specs.InTurn.{AreInOrder, end_by, place_in_turn}
use Rattle.aat_read_extended.specs.kerx.KerxSubtables.{format_up_to, subtable_read}
use Rattle.aat_read_extended.specs.kerx.KerxTables.{KerxValue, kerx_of, kerx_value}
use Rattle.aat_read_extended.specs.kerx.Machines.{anchor_tables_at, stack_tables_at}
use Rattle.aat_read_extended.specs.kerx.Weights.{anchor_weight, kerx_weight, stack_weight}
use Rattle.aat_kerning_tables.specs.KerningTables.{KerxAnchorTables, KerxStackTables}
use Rattle.aat_read_extended.specs.declared.kerx.formats.FormatRead.{FormatRead}
use Rattle.aat_read_extended.specs.declared.kerx.subtables.SubtableRead.{SubtableRead}

-- the subtables start behind a header of 8 bytes, and have their length at 0
abbrev pub subtable_place : List ℕ → ℕ → ℕ
subtable_place bytes i = place_in_turn bytes 0 8 i

-- a subtable of a number, of so many, is that of the bytes at a place: it has its header of 12 bytes and ends in the
-- table; it is what its header says, with what the bytes say by its format, as far as it may reach
pub record IsSubtableAt (bytes : List ℕ) (glyph_count count number place : ℕ) (read : SubtableRead) : Type 0 where
  pub header : place + 12 ≤ end_by bytes 0 place
  pub inside : end_by bytes 0 place ≤ length bytes
  pub format : FormatRead
  pub does :
      format_up_to bytes glyph_count count (record { place = place; number = number }) (end_by bytes 0 place)
      ≡ Ok format
  pub is : read ≡ subtable_read bytes (record { place = place; number = number }) format

-- the subtables of a table, as many as the number at 4 says, in order
abbrev pub AreSubtablesOf : List ℕ → ℕ → List SubtableRead → Type 0
AreSubtablesOf bytes glyph_count reads =
    AreInOrder reads (be32 bytes 4) (λ i read.
    IsSubtableAt bytes glyph_count (be32 bytes 4) i (subtable_place bytes i) read)

-- a table has those subtables of its bytes that kern, and those that are left out are told, each in their order
abbrev pub SubtablesAreThoseOfBytes : Type 0
SubtablesAreThoseOfBytes =
    (bytes : List ℕ) (glyph_count : ℕ) (kerx : KerxValue)
    → kerx_of bytes glyph_count ≡ Ok kerx
    → (reads : List SubtableRead) × AreSubtablesOf bytes glyph_count reads × (kerx ≡ kerx_value reads)

-- a machine with its list and its classes takes at most 17 bytes of memory for each byte from its place on
abbrev pub MachinesAreBounded : Type 0
MachinesAreBounded =
    ((bytes : List ℕ) (place glyph_count : ℕ) (t : KerxStackTables)
    → stack_tables_at bytes place glyph_count ≡ Ok t
    → stack_weight bytes place glyph_count t ≤ 17 * (length bytes - place))
    × ((bytes : List ℕ) (place glyph_count : ℕ) (t : KerxAnchorTables)
    → anchor_tables_at bytes place glyph_count ≡ Ok t
    → anchor_weight bytes place glyph_count t ≤ 17 * (length bytes - place))

-- a table takes at most 32 bytes of memory for each of its bytes
abbrev pub KerxIsBounded : Type 0
KerxIsBounded =
    (bytes : List ℕ) (glyph_count : ℕ) (kerx : KerxValue)
    → kerx_of bytes glyph_count ≡ Ok kerx → kerx_weight bytes glyph_count ≤ 32 * length bytes
