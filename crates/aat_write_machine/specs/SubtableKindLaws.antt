-- What a subtable does is read again. Apple's TrueType Reference Manual, "The 'morx' table".
use Rattle.std.specs.Prelude.{◌≡◌, ℕ, List, ◌++◌, length, All, Ok}
use Rattle.aat_machine_tables.specs.Subtables.{ContextualTables}
use Rattle.aat_machine_tables.specs.declared.morx.SubtableKind.{SubtableKind}
use Rattle.aat_machine_tables.specs.declared.morx.SubtableKind.TheVariants.{Rearrangement, Contextual, Ligature, NonContextual, Insertion}
use Rattle.aat_read_machine.specs.Contextual.{contextual_tables_at}
use Rattle.aat_read_machine.specs.SubtableKinds.{subtable_kind_at}
use Rattle.aat_write_machine.specs.LookupLaws.{IsPair}
use Rattle.aat_write_machine.specs.Contextual.{contextual_written}
use Rattle.aat_write_machine.specs.EntryWords.{contextual_words, no_words}
use Rattle.aat_write_machine.specs.KindLaws.{IsInsertion, IsLigature, IsSameInsertion, IsSameLigature, ReadsSame}
use Rattle.aat_write_machine.specs.MachineLaws.{IsMachine}
use Rattle.aat_write_machine.specs.SubtableKinds.{kind_number, kind_written}

-- the glyphs and values of a lookup have 16 bits each
abbrev pub ArePairs : List (ℕ × ℕ) → Type 0
ArePairs pairs = All IsPair pairs

-- the numbers of a contextual subtable have 16 bits each
abbrev pub IsContextual : ContextualTables → Type 0
IsContextual t = IsMachine contextual_words t.state × All ArePairs t.lookups

-- a contextual subtable is read again, at any place and whatever stands behind it
abbrev pub ContextualsAreRead : Type 0
ContextualsAreRead =
    (t : ContextualTables) (bytes before after : List ℕ) (glyph_count : ℕ)
    → IsContextual t
    → contextual_written t ≡ Ok bytes
    → contextual_tables_at (before ++ (bytes ++ after)) (length before) glyph_count ≡ Ok t

-- the numbers of a subtable have 16 bits each, those of ligature actions 32
abbrev pub IsSubtableKind : SubtableKind → Type 0
IsSubtableKind (Rearrangement t) = IsMachine no_words t
IsSubtableKind (Contextual t) = IsContextual t
IsSubtableKind (Ligature t) = IsLigature t
IsSubtableKind (NonContextual pairs) = ArePairs pairs
IsSubtableKind (Insertion t) = IsInsertion t

-- what is read does the same as what was written: the same machine, lookups and pairs, and lists that begin with those
-- that were written
abbrev pub ReadsAs : SubtableKind → SubtableKind → Type 0
ReadsAs (Rearrangement t) read = read ≡ Rearrangement t
ReadsAs (Contextual t) read = read ≡ Contextual t
ReadsAs (Ligature t) read = (tables : _) × (read ≡ Ligature tables) × IsSameLigature t tables
ReadsAs (NonContextual pairs) read = read ≡ NonContextual pairs
ReadsAs (Insertion t) read = (tables : _) × (read ≡ Insertion tables) × IsSameInsertion t tables

-- what a subtable does is read again, at any place and whatever stands behind it
abbrev pub SubtableKindsAreRead : Type 0
SubtableKindsAreRead =
    (kind : SubtableKind) (bytes before after : List ℕ) (glyph_count : ℕ)
    → IsSubtableKind kind
    → kind_written kind ≡ Ok bytes
    → ReadsSame ReadsAs kind
    (subtable_kind_at (before ++ (bytes ++ after)) (length before) (kind_number kind) glyph_count)
