-- A font file as bytes: the directory and the tables. Apple's TrueType Reference Manual, "The font directory".
use Rattle.std.specs.Prelude.{ℕ, ◌+◌, ◌*◌, ◌-◌, ◌%◌, List, [], ◌∷◌, ◌++◌, length, Result, nat_lt, ◌||◌, replicate}
use Rattle.std.specs.List.{flat_map}
use Rattle.aat_bytes.specs.declared.tag.Tag.{Tag}
use Rattle.aat_lookup.specs.Keys.{first_fall}
use Rattle.aat_write_sfnt.specs.Records.{records}
use Rattle.aat_write_machine.specs.Words.{long, word_bytes}
use Rattle.aat_write_machine.specs.WriteErrors.{unless_refused}
use Rattle.aat_write_machine.specs.declared.write_error.WriteError.{WriteError}

-- a table: its tag and its bytes
pub record SfntTable : Type 0 where
  pub tag : Tag
  pub content : List ℕ

-- tables rise by the numbers of their tags
abbrev pub tag_number : SfntTable → ℕ
tag_number table = table.tag.0

-- how many bytes have to follow so many, up to a multiple of 4
abbrev pub padding : ℕ → ℕ
padding size = (4 - size % 4) % 4

-- the bytes of a table, with zeros up to a multiple of 4
abbrev pub padded : SfntTable → List ℕ
padded table = table.content ++ replicate (padding (length table.content)) 0

-- the bytes of tables, one behind the other
abbrev pub table_bytes : List SfntTable → List ℕ
table_bytes tables = flat_map padded tables

-- a record: tag, checksum 0, place in the file, and length without the zeros
abbrev pub record_words : ℕ → SfntTable → List ℕ
record_words place table = long table.tag.0 ++ (0 ∷ 0 ∷ (long place ++ long (length table.content)))

-- the directory: version 1.0, the number of tables, three numbers for a search that are 0, and the records. The tables
-- stand behind it
abbrev pub directory_words : List SfntTable → List ℕ
directory_words tables =
    (1 ∷ 0 ∷ length tables ∷ 0 ∷ 0 ∷ 0 ∷ []) ++ records padded record_words (12 + 16 * length tables) tables

-- how many bytes the file has
abbrev pub file_end : List SfntTable → ℕ
file_end tables = 12 + 16 * length tables + length (table_bytes tables)

-- the bytes of a file, or why it is not written: tags that do not rise, more than 65,535 tables, or 2 ^ 32 bytes
abbrev pub font_written : List SfntTable → Result (List ℕ) WriteError
font_written tables =
    unless_refused (first_fall tag_number tables)
    (nat_lt 65535 (length tables) || nat_lt 4294967295 (file_end tables))
    (word_bytes (directory_words tables) ++ table_bytes tables)
