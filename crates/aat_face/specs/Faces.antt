-- A font from the bytes of its file, with the list of its faults.
use Rattle.std.specs.Prelude.{ℕ, ◌/◌, List, [], ◌∷◌, Bool, Option, Some, Result, Ok, option_map, option_and_then}
use Rattle.std.specs.List.{filter_map}
use Rattle.aat_bytes.specs.Faults.{after}
use Rattle.aat_bytes.specs.declared.error.Fault.{Fault}
use Rattle.aat_kerning_tables.specs.AnchorPoints.{Points}
use Rattle.aat_font.specs.Face.{advances_of, glyph_classes_of, tables_of}
use Rattle.aat_font.specs.declared.face.hb_font_t.{hb_font_t}
use Rattle.aat_lookup.specs.declared.feat.FeatureName.{FeatureName}
use Rattle.aat_kerning_tables.specs.declared.kern.KernSubtable.{KernSubtable}
use Rattle.aat_kerning_tables.specs.declared.kerx.KerxSubtable.{KerxSubtable}
use Rattle.aat_lookup.specs.declared.glyph_id.GlyphId.{GlyphId}
use Rattle.aat_read_pairs.specs.declared.left_out.LeftOutSubtable.{LeftOutSubtable}
use Rattle.aat_read_lookup.specs.Features.{feature_name_id, setting_name_id}
use Rattle.aat_read_extended.specs.morx.Chains.{ChainValue, values_of_morx}
use Rattle.aat_read_sfnt.specs.Characters.{mapped_glyph}
use Rattle.aat_read_sfnt.specs.Directory.{Directory, directory_of}
use Rattle.aat_read_sfnt.specs.declared.cmap.CharacterMap.{CharacterMap}
use Rattle.aat_glyph.specs.placement.Tracks.{TrackingTable}
use Rattle.aat_face.specs.Chains.{chains_in}
use Rattle.aat_face.specs.English.{Text, english_text}
use Rattle.aat_face.specs.Features.{feature_bytes, feature_tables, features_in}
use Rattle.aat_read_metrics.specs.GlyphMetrics.{em_in, glyph_box_in, row_metrics, vertical_advance_in, vertical_origin_in}
use Rattle.aat_face.specs.Kerning.{ankr_in, has_gpos_in, has_stat_in, kern_in, kerx_in, left_out_of, left_out_of_kern}
use Rattle.aat_face.specs.Lists.{advance_pairs, property_pairs}
use Rattle.aat_read_metrics.specs.Tables.{found_in, glyph_count_in, number_in, units_per_em_in}
use Rattle.aat_face.specs.Tables.{characters_in, classes_fault, classes_in, fault_in, long_metric_count_in, names_in}
use Rattle.aat_face.specs.Tracking.{trak_in}
use Rattle.aat_read_metrics.specs.declared.glyph_metrics.GlyphBox.{GlyphBox}
use Rattle.aat_read_metrics.specs.declared.glyph_metrics.Origin.{Origin}
use Rattle.aat_face.specs.declared.tables.Tables.{Tables}

-- the tables of a file as they are read: chains, extended kerning and anchor points need the number of glyphs
abbrev pub tables_in : Directory → Tables
tables_in file = record {
  maxp = glyph_count_in file;
  head = units_per_em_in file;
  hhea = long_metric_count_in file;
  hmtx = row_metrics file;
  units_per_em = em_in file;
  glyph_count = number_in (glyph_count_in file);
  cmap = characters_in file;
  gdef = classes_in file;
  name = names_in file;
  feat = features_in file;
  morx = chains_in file (number_in (glyph_count_in file));
  kerx = kerx_in file (number_in (glyph_count_in file));
  kern = kern_in file;
  ankr = ankr_in file (number_in (glyph_count_in file));
  trak = trak_in file;
  has_gpos = has_gpos_in file;
  has_stat = has_stat_in file;
}

-- the faults of tables in their order
abbrev pub faults_of : Tables → List Fault
faults_of tables = filter_map (λ fault. fault)
    (fault_in tables.maxp ∷ fault_in tables.head ∷ fault_in tables.hhea ∷ fault_in tables.cmap
    ∷ classes_fault tables.gdef ∷ fault_in tables.name ∷ fault_in tables.feat ∷ fault_in tables.morx
    ∷ fault_in tables.kerx ∷ fault_in tables.kern ∷ fault_in tables.ankr ∷ fault_in tables.trak ∷ [])

-- what a font has for the layer: what its tables hold, and the properties and the advances of its glyphs
pub record FontValue : Type 0 where
  pub morx : Option (List ChainValue)
  pub kerx : Option (List KerxSubtable)
  pub kern : Option (List KernSubtable)
  pub feat : Option (List FeatureName)
  pub ankr : Option Points
  pub properties : Option (List (ℕ × ℕ))
  pub advances : Option (List (ℕ × ℕ))

-- what a made font has
abbrev pub font_value : hb_font_t → FontValue
font_value font = record {
  morx = option_map values_of_morx (tables_of font).morx;
  kerx = (tables_of font).kerx;
  kern = (tables_of font).kern;
  feat = (tables_of font).feat;
  ankr = (tables_of font).ankr;
  properties = glyph_classes_of font;
  advances = advances_of font;
}

-- a face, whose names and features are the bytes of their tables
pub record FaceValue : Type 0 where
  pub directory : Directory
  pub glyph_count : ℕ
  pub units_per_em : ℕ
  pub characters : Option CharacterMap
  pub names : Option (List ℕ)
  pub features : Option (List ℕ)
  pub font : FontValue
  pub tracking : Option TrackingTable
  pub has_gpos : Bool
  pub has_stat : Bool
  pub faults : List Fault
  pub left_out : List LeftOutSubtable
  pub left_out_of_kern : List LeftOutSubtable

-- the advances of glyphs: half an em where there is no long metric
abbrev pub advances_in : Tables → List (ℕ × ℕ)
advances_in tables = advance_pairs tables.hmtx (tables.units_per_em / 2) tables.glyph_count

-- the property of marks, if the font has classes of glyphs
abbrev pub properties_in : Tables → Option (List (ℕ × ℕ))
properties_in tables = option_map (λ classes. property_pairs classes tables.glyph_count) (found_in tables.gdef)

-- the font of tables
abbrev pub font_of : Tables → FontValue
font_of tables = record {
  morx = found_in tables.morx;
  kerx = option_map (λ read. read.subtables) (found_in tables.kerx);
  kern = option_map (λ read. read.subtables) (found_in tables.kern);
  feat = (feature_tables tables.feat).feat;
  ankr = found_in tables.ankr;
  advances = Some (advances_in tables);
  properties = properties_in tables;
}

-- the face of the tables of a directory
abbrev pub face_of_tables : Directory → Tables → FaceValue
face_of_tables directory tables = record {
  directory = directory;
  glyph_count = tables.glyph_count;
  units_per_em = tables.units_per_em;
  characters = found_in tables.cmap;
  names = found_in tables.name;
  features = feature_bytes tables.feat;
  font = font_of tables;
  tracking = found_in tables.trak;
  has_gpos = tables.has_gpos;
  has_stat = tables.has_stat;
  faults = faults_of tables;
  left_out = left_out_of tables.kerx;
  left_out_of_kern = left_out_of_kern tables.kern;
}

-- the glyph of a character, if the font has one that is not 0
abbrev pub glyph_of_character : FaceValue → ℕ → Option GlyphId
glyph_of_character face character =
    option_map (λ glyph. record { 0 = glyph })
    (option_and_then (λ characters. mapped_glyph characters character) face.characters)

-- the English text of a name, if the font has names
abbrev pub name_of : FaceValue → ℕ → Option Text
name_of face name = option_and_then (λ names. english_text names name) face.names

-- the English text of the name of a feature type
abbrev pub feature_text : FaceValue → ℕ → Option Text
feature_text face kind =
    option_and_then (name_of face) (option_and_then (λ bytes. feature_name_id bytes kind) face.features)

-- the English text of the name of a setting of a feature type
abbrev pub setting_text : FaceValue → ℕ → ℕ → Option Text
setting_text face kind setting =
    option_and_then (name_of face) (option_and_then (λ bytes. setting_name_id bytes kind setting) face.features)

-- the box of a glyph, if the font has data of glyphs, where its origin lies in a column, and how far down the pen moves
abbrev pub glyph_box_of : FaceValue → ℕ → Option GlyphBox
glyph_box_of face glyph = glyph_box_in face.directory glyph

abbrev pub vertical_origin_of : FaceValue → ℕ → Origin
vertical_origin_of face glyph = vertical_origin_in face.directory glyph

abbrev pub vertical_advance_of : FaceValue → ℕ → ℕ
vertical_advance_of face glyph = vertical_advance_in face.directory glyph

-- the face of the font at an index of a file
abbrev pub face_of : List ℕ → ℕ → Result FaceValue Fault
face_of file index = after (directory_of file index) (λ directory. Ok (face_of_tables directory (tables_in directory)))
