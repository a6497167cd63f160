-- Subtables that are written are read again. A list has no length of its own and reaches to the end of the bytes that
-- are handed in: what is read begins with what was written.
use Rattle.std.specs.Prelude.{◌≡◌, ℕ, List, ◌++◌, length, take, All, Result, Ok}
use Rattle.aat_bytes.specs.declared.error.Fault.{Fault}
use Rattle.aat_machine_tables.specs.Subtables.{InsertionTables, LigatureTables}
use Rattle.aat_lookup.specs.declared.glyph_id.GlyphId.{GlyphId}
use Rattle.aat_read_machine.specs.Kinds.{insertion_tables_at, ligature_at}
use Rattle.aat_write_machine.specs.EntryWords.{insertion_words, one_word}
use Rattle.aat_write_machine.specs.Kinds.{insertion_written, ligature_written}
use Rattle.aat_write_machine.specs.MachineLaws.{IsLong, IsMachine, IsWord}

-- a list begins with another one
abbrev pub BeginsWith : {X : Type 0} → List X → List X → Type 0
BeginsWith list front = take (length front) list ≡ front

-- a glyph has 16 bits
abbrev pub IsGlyph : GlyphId → Type 0
IsGlyph glyph = IsWord glyph.0

-- the numbers of an insertion subtable have 16 bits each
abbrev pub IsInsertion : InsertionTables → Type 0
IsInsertion t = IsMachine insertion_words t.state × All IsGlyph t.glyphs

-- the same machine, and glyphs that begin with those that were written
abbrev pub IsSameInsertion : InsertionTables → InsertionTables → Type 0
IsSameInsertion written read = (read.state ≡ written.state) × BeginsWith read.glyphs written.glyphs

-- the numbers of a ligature subtable have 16 bits each, those of actions 32
abbrev pub IsLigature : LigatureTables → Type 0
IsLigature t = IsMachine one_word t.state × All IsLong t.actions × All IsWord t.components × All IsGlyph t.ligatures

-- the same machine, and lists that begin with those that were written
abbrev pub IsSameLigature : LigatureTables → LigatureTables → Type 0
IsSameLigature written read =
    (read.state ≡ written.state)
    × BeginsWith read.actions written.actions
    × BeginsWith read.components written.components
    × BeginsWith read.ligatures written.ligatures

-- what is read is there and is the same as what was written
abbrev pub ReadsSame : {X : Type 0} → (X → X → Type 0) → X → Result X Fault → Type 0
ReadsSame {X = X} IsSame written result = (read : X) × (result ≡ Ok read) × IsSame written read

-- an insertion subtable is read again, at any place and whatever stands behind it
abbrev pub InsertionsAreRead : Type 0
InsertionsAreRead =
    (t : InsertionTables) (bytes before after : List ℕ) (glyph_count : ℕ)
    → IsInsertion t
    → insertion_written t ≡ Ok bytes
    → ReadsSame IsSameInsertion t (insertion_tables_at (before ++ (bytes ++ after)) (length before) glyph_count)

-- a ligature subtable is read again, at any place and whatever stands behind it
abbrev pub LigaturesAreRead : Type 0
LigaturesAreRead =
    (t : LigatureTables) (bytes before after : List ℕ) (glyph_count : ℕ)
    → IsLigature t
    → ligature_written t ≡ Ok bytes
    → ReadsSame IsSameLigature t (ligature_at (before ++ (bytes ++ after)) (length before) glyph_count)
