-- What is known of a face that is read, whatever the bytes of its file say.
use Rattle.std.specs.Prelude.{◌≡◌, ℕ, ◌+◌, ◌*◌, ◌≤◌, List, length, Ok}
use Rattle.std.specs.Option.{option_map_or}
use Rattle.aat_bytes.specs.declared.tag.Tag.{Tag}
use Rattle.aat_bytes.specs.declared.tags.TheConstants.{ANKR, KERN, KERX, MORX, TRAK}
use Rattle.aat_face.specs.Faces.{FaceValue, face_of}
use Rattle.aat_face.specs.Weights.{bytes_of_table, face_weight}

-- how many features a face has
abbrev pub count_features : FaceValue → ℕ
count_features face = option_map_or length face.font.feat 0

-- how many bytes a table of the font at an index of a file has
abbrev pub table_length : List ℕ → ℕ → Tag → ℕ
table_length file index tag = length (bytes_of_table file index tag)

-- how many bytes of memory the tables of a face may take: 24 for each byte of `morx` and `ankr`, 32 for each of `kerx`
-- and `kern`, and 4 for each of `trak`
abbrev pub tables_room : List ℕ → ℕ → ℕ
tables_room file index =
    24 * table_length file index MORX + 32 * table_length file index KERX + 32 * table_length file index KERN
    + 24 * table_length file index ANKR + 4 * table_length file index TRAK

-- how many bytes these tables have together
abbrev pub tables_length : List ℕ → ℕ → ℕ
tables_length file index =
    table_length file index MORX + table_length file index KERX + table_length file index KERN
    + table_length file index ANKR + table_length file index TRAK

-- what a face takes is bounded: by its tables, 16 bytes of memory for each glyph, 6 for each feature, and 1,000. Its
-- tables are bounded by the file, by 116 bytes for each of its bytes, and by 32 where they have no more bytes together
-- than the file, as where none of them overlap. A feature has 12 bytes of the file
pub record IsBounded (file : List ℕ) (index : ℕ) (face : FaceValue) : Type 0 where
  pub memory : face_weight file index face
      ≤ tables_room file index + 16 * face.glyph_count + 6 * count_features face + 1000
  pub tables : tables_room file index ≤ 116 * length file
  pub tables_apart : tables_length file index ≤ length file → tables_room file index ≤ 32 * length file
  pub features : 12 * count_features face ≤ length file

-- what a face that is read takes is bounded
abbrev pub FaceMemoryIsBounded : Type 0
FaceMemoryIsBounded =
    (file : List ℕ) (index : ℕ) (face : FaceValue) → face_of file index ≡ Ok face → IsBounded file index face
