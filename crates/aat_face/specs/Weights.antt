-- What a face weighs that is read: the bytes of memory that it takes at most, besides those of its file, from which it
-- borrows names, characters and the bytes of features.
use Rattle.std.specs.Prelude.{ℕ, ◌+◌, ◌*◌, List, [], length, Option, Ok, Err}
use Rattle.std.specs.Option.{option_map_or}
use Rattle.aat_bytes.specs.Faults.{after}
use Rattle.aat_bytes.specs.declared.tag.Tag.{Tag}
use Rattle.aat_bytes.specs.declared.tags.TheConstants.{KERX, MORX}
use Rattle.aat_kerning_tables.specs.AnchorPoints.{Points}
use Rattle.aat_lookup.specs.declared.feat.FeatureName.{FeatureName}
use Rattle.aat_kerning_tables.specs.declared.kern.KernSubtable.{KernSubtable}
use Rattle.aat_kerning_tables.specs.declared.kerx.KerxSubtable.{KerxSubtable}
use Rattle.aat_read_kern.specs.Weights.{kern_weight}
use Rattle.aat_read_pairs.specs.declared.left_out.LeftOutSubtable.{LeftOutSubtable}
use Rattle.aat_read_extended.specs.kerx.AnchorLaws.{points_weight}
use Rattle.aat_read_extended.specs.kerx.Weights.{kerx_weight}
use Rattle.aat_read_lookup.specs.Sizes.{pairs_size}
use Rattle.aat_read_extended.specs.morx.Chains.{ChainValue}
use Rattle.aat_read_extended.specs.morx.Weights.{morx_weight}
use Rattle.aat_read_sfnt.specs.Directory.{cut_table_of, directory_of}
use Rattle.aat_glyph.specs.placement.Tracks.{TrackingTable}
use Rattle.aat_read_metrics.specs.TrakLaws.{table_size}
use Rattle.aat_face.specs.Faces.{FaceValue}
use Rattle.aat_face.specs.declared.weights.TheConstants.{FACE_SIZE, FAULT_SIZE, FEATURE_NAME_SIZE}

-- the bytes of a table of the font at an index of a file, as far as the file has them
abbrev pub bytes_of_table : List ℕ → ℕ → Tag → List ℕ
bytes_of_table file index tag = elim (after (directory_of file index) (λ directory. cut_table_of directory tag)) [
  | Ok bytes ↦ bytes
  | Err fault ↦ []
]

-- values of glyphs: their pairs, with the cells beside them
abbrev pub values_weight : Option (List (ℕ × ℕ)) → ℕ
values_weight pairs = option_map_or pairs_size pairs 0

-- features
abbrev pub features_weight : Option (List FeatureName) → ℕ
features_weight features = option_map_or (λ names. FEATURE_NAME_SIZE * length names) features 0

-- the chains of a table of these bytes
abbrev pub chains_weight : List ℕ → ℕ → Option (List ChainValue) → ℕ
chains_weight bytes glyph_count chains = option_map_or (λ _. morx_weight bytes glyph_count) chains 0

-- extended kerning of a table of these bytes, with what is told of the subtables that are left out
abbrev pub extended_weight : List ℕ → ℕ → Option (List KerxSubtable) → ℕ
extended_weight bytes glyph_count kerx = option_map_or (λ _. kerx_weight bytes glyph_count) kerx 0

-- kerning, with what is told of the subtables that are left out
abbrev pub plain_weight : Option (List KernSubtable) → List LeftOutSubtable → ℕ
plain_weight kern left_out =
    option_map_or (λ subtables. kern_weight (record { subtables = subtables; left_out = left_out })) kern 0

-- anchor points
abbrev pub anchors_weight : Option Points → ℕ
anchors_weight ankr = option_map_or points_weight ankr 0

-- tracking
abbrev pub tracking_weight : Option TrackingTable → ℕ
tracking_weight tracking = option_map_or table_size tracking 0

-- the tables of kerning and tracking of a face of the font at an index of a file
abbrev pub kerning_weight : List ℕ → ℕ → FaceValue → ℕ
kerning_weight file index face =
    extended_weight (bytes_of_table file index KERX) face.glyph_count face.font.kerx
    + plain_weight face.font.kern face.left_out_of_kern
    + anchors_weight face.font.ankr + tracking_weight face.tracking

-- a face of the font at an index of a file
abbrev pub face_weight : List ℕ → ℕ → FaceValue → ℕ
face_weight file index face =
    FACE_SIZE + FAULT_SIZE * length face.faults
    + values_weight face.font.advances + values_weight face.font.properties
    + features_weight face.font.feat + chains_weight (bytes_of_table file index MORX) face.glyph_count face.font.morx
    + kerning_weight file index face
