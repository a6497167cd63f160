-- Tables that are written are found.
use Rattle.std.specs.Prelude.{◌≡◌, ℕ, ◌<◌, List, All, None, Ok, Err}
use Rattle.aat_bytes.specs.Faults.{fault_at}
use Rattle.aat_bytes.specs.declared.error.FaultKind.TheVariants.{Missing}
use Rattle.aat_bytes.specs.declared.tag.Tag.{Tag}
use Rattle.aat_lookup.specs.Keys.{at_key}
use Rattle.aat_read_sfnt.specs.Directory.{Directory, directory_of, table_of}
use Rattle.aat_write_sfnt.specs.Fonts.{SfntTable, font_written, tag_number}

-- a tag has 32 bits
abbrev pub HasTag : SfntTable → Type 0
HasTag table = table.tag.0 < 4294967296

-- the directory of a file that is one font
abbrev pub whole_file : List ℕ → Directory
whole_file file = record { file = file; place = 0 }

-- the file has one font; each table that was written is found there by its tag, with its very bytes; and no other table
-- is there
abbrev pub WrittenTablesAreFound : Type 0
WrittenTablesAreFound =
    (tables : List SfntTable) (file : List ℕ)
    → All HasTag tables
    → font_written tables ≡ Ok file
    → (directory_of file 0 ≡ Ok (whole_file file))
    × All (λ table. table_of (whole_file file) table.tag ≡ Ok table.content) tables
    × ((tag : Tag)
    → at_key tag_number tables tag.0 ≡ None
    → table_of (whole_file file) tag ≡ Err (fault_at tag Missing 0))
