-- The directory of a font, and collections of fonts. Apple's TrueType Reference Manual, "The font directory".
use Rattle.std.specs.Prelude.{ℕ, ◌+◌, ◌*◌, List, [], length, take, Bool, Option, Some, None, Result, Ok, Err, if◌then◌else◌, nat_lt, nat_le, ◌==◌, ◌||◌, find}
use Rattle.std.specs.List.{range_with_len}
use Rattle.aat_bytes.specs.Faults.{after, fault_at}
use Rattle.aat_bytes.specs.Numbers.{be16, be32, slice, slice_from}
use Rattle.aat_bytes.specs.declared.error.Fault.{Fault}
use Rattle.aat_bytes.specs.declared.error.FaultKind.TheVariants.{PastEnd, UnknownFormat, Missing}
use Rattle.aat_bytes.specs.declared.tag.Tag.{Tag}
use Rattle.aat_bytes.specs.declared.tags.TheConstants.{SFNT, TTCF}

-- a font of a file: the bytes of the file, and the place of the font's directory
pub record Directory : Type 0 where
  pub file : List ℕ
  pub place : ℕ

-- the versions of a font: 1.0, `true`, `OTTO` and `typ1`, which HarfBuzz reads too
abbrev pub is_font_version : ℕ → Bool
is_font_version version =
    (version == 0x00010000) || (version == 0x74727565) || (version == 0x4F54544F) || (version == 0x74797031)

-- the place of the font at an index of a collection: the list of places stands at 12, and all of it has to be there
unfoldable pub place_in_collection : List ℕ → ℕ → Result ℕ Fault
place_in_collection file index =
    if nat_lt (length file) 12 then Err (fault_at TTCF PastEnd 0) else
    if (be16 file 4 == 1) || (be16 file 4 == 2) then
    (if nat_lt (length file) (12 + 4 * be32 file 8) then Err (fault_at TTCF PastEnd 12) else
    if nat_le (be32 file 8) index then Err (fault_at TTCF Missing 8) else
    Ok (be32 file (12 + 4 * index)))
    else Err (fault_at TTCF UnknownFormat 4)

-- the place of the directory of the font at an index. A file that is no collection has one font, at index 0; HarfBuzz
-- gives that font at any index, and here another index is a fault
unfoldable pub directory_place : List ℕ → ℕ → Result ℕ Fault
directory_place file index =
    if nat_lt (length file) 4 then Err (fault_at SFNT PastEnd 0) else
    if be32 file 0 == TTCF.0 then place_in_collection file index else
    if index == 0 then Ok 0 else Err (fault_at SFNT Missing 0)

-- the directory at a place: 12 bytes with the version and the number of tables, then 16 bytes for each table
unfoldable pub directory_at : List ℕ → ℕ → Result Directory Fault
directory_at file place =
    if nat_lt (length file) (place + 12) then Err (fault_at SFNT PastEnd place) else
    if is_font_version (be32 file place) then
    (if nat_lt (length file) (place + 12 + 16 * be16 file (place + 4)) then
    Err (fault_at SFNT PastEnd (place + 12)) else
    Ok (record { file = file; place = place }))
    else Err (fault_at SFNT UnknownFormat place)

-- the directory of the font at an index of a file
abbrev pub directory_of : List ℕ → ℕ → Result Directory Fault
directory_of file index = after (directory_place file index) (directory_at file)

-- the place of a record of the directory
abbrev pub record_place : Directory → ℕ → ℕ
record_place directory i = directory.place + 12 + 16 * i

-- the record of a table: the first with its tag, in the order of the file. HarfBuzz believes that tags
-- rise where there are 16 or more
abbrev pub record_of : Directory → ℕ → Option ℕ
record_of directory tag =
    find (λ i. be32 directory.file (record_place directory i) == tag)
    (range_with_len 0 (be16 directory.file (directory.place + 4)))

-- the bytes at an offset and of a length that stand in a record
abbrev pub bytes_of_record : Directory → ℕ → Option (List ℕ)
bytes_of_record directory i =
    slice directory.file (be32 directory.file (record_place directory i + 8))
    (be32 directory.file (record_place directory i + 12))

-- those of them that the file has
abbrev pub part_of_record : Directory → ℕ → List ℕ
part_of_record directory i = elim (slice_from directory.file (be32 directory.file (record_place directory i + 8))) [
  | None ↦ []
  | Some rest ↦ take (be32 directory.file (record_place directory i + 12)) rest
]

-- what the file has of a table: HarfBuzz cuts a table that reaches past the end of the file
abbrev pub cut_table_of : Directory → Tag → Result (List ℕ) Fault
cut_table_of directory tag = elim (record_of directory tag.0) [
  | None ↦ Err (fault_at tag Missing 0)
  | Some i ↦ Ok (part_of_record directory i)
]

-- the bytes of a table that is there as a whole
abbrev pub table_of : Directory → Tag → Result (List ℕ) Fault
table_of directory tag = elim (record_of directory tag.0) [
  | None ↦ Err (fault_at tag Missing 0)
  | Some i ↦ elim (bytes_of_record directory i) [ None ↦ Err (fault_at tag PastEnd 0) | Some bytes ↦ Ok bytes ]
]
