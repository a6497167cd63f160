-- Worked examples of faces.
use Rattle.std.specs.Prelude.{◌≡◌, ℕ, pos, negsuc, false, List, [], ◌∷◌, ◌++◌, Option, Some, None, Ok, Err}
use Rattle.aat_bytes.specs.declared.error.Fault.{Fault}
use Rattle.aat_bytes.specs.Faults.{fault_at}
use Rattle.aat_bytes.specs.declared.error.FaultKind.TheVariants.{PastEnd, UnknownFormat, Missing}
use Rattle.aat_bytes.specs.declared.tags.TheConstants.{HEAD, KERN, SFNT, TRAK}
use Rattle.aat_machine_tables.specs.declared.morx.Subtable.{Subtable}
use Rattle.aat_machine_tables.specs.declared.morx.SubtableKind.TheVariants.{NonContextual}
use Rattle.aat_read_lookup.specs.FeatureExamples.{example_feat}
use Rattle.aat_read_extended.specs.morx.MorxExamples.{example_chain, example_table}
use Rattle.aat_read_sfnt.specs.Directory.{Directory}
use Rattle.aat_read_sfnt.specs.Examples.{example_file, example_metrics, example_profile}
use Rattle.aat_read_sfnt.specs.Metrics.{metrics_of}
use Rattle.aat_read_sfnt.specs.declared.class_definition.ClassDefinition.TheVariants.{Array, Ranges}
use Rattle.aat_read_sfnt.specs.declared.gdef.GlyphClasses.{GlyphClasses}
use Rattle.aat_glyph.specs.placement.Tracks.{TrackingTable}
use Rattle.aat_read_metrics.specs.TrakExamples.{sizes_and_values, trak_header, two_tracks}
use Rattle.aat_face.specs.English.{english_text, text_in}
use Rattle.aat_face.specs.Faces.{FaceValue, FontValue, face_of, feature_text, setting_text}
use Rattle.aat_face.specs.Lists.{advance_pairs, property_pairs}
use Rattle.aat_face.specs.declared.encoding.NameEncoding.TheVariants.{Utf16, MacRoman}

-- the directory at the start of a file
abbrev pub directory_in : List ℕ → Directory
directory_in file = record { file = file; place = 0 }

-- a font without tables, whose glyphs have these advances
abbrev pub font_of_advances : List (ℕ × ℕ) → FontValue
font_of_advances advances = record {
  morx = None;
  kerx = None;
  kern = None;
  feat = None;
  ankr = None;
  properties = None;
  advances = Some advances;
}

-- a font without tables and glyphs
abbrev pub empty_font : FontValue
empty_font = font_of_advances []

-- seven glyphs, each of half an em of 1,000 units
abbrev pub half_an_em_each : List (ℕ × ℕ)
half_an_em_each = (0, 500) ∷ (1, 500) ∷ (2, 500) ∷ (3, 500) ∷ (4, 500) ∷ (5, 500) ∷ (6, 500) ∷ []

-- the file has `maxp` with 7 glyphs, and `head` that reaches past the end: that is listed, and what is missing is not.
-- Without metrics each glyph has half an em
abbrev pub FaultsAreListed : Type 0
FaultsAreListed =
    (face_of example_file 0 ≡ Ok (record {
      directory = directory_in example_file;
      glyph_count = 7;
      units_per_em = 1000;
      characters = None;
      names = None;
      features = None;
      font = font_of_advances half_an_em_each;
      tracking = None;
      has_gpos = false;
      has_stat = false;
      faults = fault_at HEAD PastEnd 0 ∷ [];
      left_out = [];
      left_out_of_kern = [];
    }))
    × (face_of example_file 1 ≡ Err (fault_at SFNT Missing 0))
    × (face_of [] 0 ≡ Err (fault_at SFNT PastEnd 0))

-- a table `morx` of one chain, whose subtable has a value for each of 7 glyphs, by format 0
abbrev pub example_chains : List ℕ
example_chains =
    example_table 2 1 ++ example_chain 44 0 0 1
    ++ 0 ∷ 0 ∷ 0 ∷ 28 ∷ 128 ∷ 0 ∷ 0 ∷ 4 ∷ 0 ∷ 0 ∷ 0 ∷ 1
    ∷ 0 ∷ 0 ∷ 0 ∷ 1 ∷ 0 ∷ 2 ∷ 0 ∷ 3 ∷ 0 ∷ 4 ∷ 0 ∷ 5 ∷ 0 ∷ 6 ∷ 0 ∷ 9 ∷ []

-- a file of two tables: `maxp` at 44, which has 7 glyphs, and `morx` at 50
abbrev pub example_chains_file : List ℕ
example_chains_file =
    0 ∷ 1 ∷ 0 ∷ 0 ∷ 0 ∷ 2 ∷ 0 ∷ 0 ∷ 0 ∷ 0 ∷ 0 ∷ 0
    ∷ 109 ∷ 97 ∷ 120 ∷ 112 ∷ 0 ∷ 0 ∷ 0 ∷ 0 ∷ 0 ∷ 0 ∷ 0 ∷ 44 ∷ 0 ∷ 0 ∷ 0 ∷ 6
    ∷ 109 ∷ 111 ∷ 114 ∷ 120 ∷ 0 ∷ 0 ∷ 0 ∷ 0 ∷ 0 ∷ 0 ∷ 0 ∷ 50 ∷ 0 ∷ 0 ∷ 0 ∷ 52 ∷ []
    ++ example_profile ++ example_chains

-- the subtable of the chain
abbrev pub example_subtable_of_chain : Subtable
example_subtable_of_chain = record {
  kind = NonContextual ((0, 1) ∷ (1, 2) ∷ (2, 3) ∷ (3, 4) ∷ (4, 5) ∷ (5, 6) ∷ (6, 9) ∷ []);
  coverage = record { 0 = 128 };
  feature_flags = 1;
}

-- the font has the chain, with a value for as many glyphs as `maxp` has
abbrev pub ChainsAreOfTheFont : Type 0
ChainsAreOfTheFont = face_of example_chains_file 0 ≡ Ok (record {
  directory = directory_in example_chains_file;
  glyph_count = 7;
  units_per_em = 1000;
  characters = None;
  names = None;
  features = None;
  font = record (font_of_advances half_an_em_each) {
    morx = Some (record { default_flags = 1; features = []; subtables = example_subtable_of_chain ∷ [] } ∷ []);
  };
  tracking = None;
  has_gpos = false;
  has_stat = false;
  faults = [];
  left_out = [];
  left_out_of_kern = [];
})

-- a file of one table at 28, of a tag and so many bytes
abbrev pub file_of_table : List ℕ → ℕ → List ℕ → List ℕ
file_of_table tag size table =
    0 ∷ 1 ∷ 0 ∷ 0 ∷ 0 ∷ 1 ∷ 0 ∷ 0 ∷ 0 ∷ 0 ∷ 0 ∷ 0 ∷ [] ++ tag
    ++ 0 ∷ 0 ∷ 0 ∷ 0 ∷ 0 ∷ 0 ∷ 0 ∷ 28 ∷ 0 ∷ 0 ∷ 0 ∷ size ∷ [] ++ table

-- a file of `trak` alone
abbrev pub trak_file : ℕ → List ℕ → List ℕ
trak_file = file_of_table (116 ∷ 114 ∷ 97 ∷ 107 ∷ [])

-- a face of a file with tracking alone, with faults
abbrev pub tracking_face : List ℕ → Option TrackingTable → List Fault → FaceValue
tracking_face file tracking faults = record {
  directory = directory_in file;
  glyph_count = 0;
  units_per_em = 1000;
  characters = None;
  names = None;
  features = None;
  font = empty_font;
  tracking = tracking;
  has_gpos = false;
  has_stat = false;
  faults = faults;
  left_out = [];
  left_out_of_kern = [];
}

-- a file with two tracks, and one whose tracks have a fault
abbrev pub file_of_tracks : List ℕ
file_of_tracks = trak_file 52 (trak_header ++ two_tracks ++ sizes_and_values)

abbrev pub file_of_faulty_tracks : List ℕ
file_of_faulty_tracks = trak_file 12 (0 ∷ 2 ∷ 0 ∷ 0 ∷ 0 ∷ 0 ∷ 0 ∷ 0 ∷ 0 ∷ 0 ∷ 0 ∷ 0 ∷ [])

-- the face has the tracks of the table, and no tracks where the table has a fault, which is listed
abbrev pub FacesHaveTracks : Type 0
FacesHaveTracks =
    (face_of file_of_tracks 0
    ≡ Ok (tracking_face file_of_tracks (Some (record {
      rows = Some (record {
        sizes = pos 786432 ∷ pos 1572864 ∷ [];
        tracks = record { value = negsuc 65535; name = 256 } ∷ record { value = pos 0; name = 258 } ∷ [];
        values = negsuc 14 ∷ negsuc 6 ∷ pos 0 ∷ pos 5 ∷ [];
      });
      columns = None;
    })) []))
    × (face_of file_of_faulty_tracks 0
    ≡ Ok (tracking_face file_of_faulty_tracks None (fault_at TRAK UnknownFormat 0 ∷ [])))

-- a font without glyphs whose kerning has no subtables
abbrev pub font_of_no_kerning : FontValue
font_of_no_kerning = record empty_font { kern = Some [] }

-- a file with a subtable of `kern` of format 3 with OpenType's header
abbrev pub file_of_left_out : List ℕ
file_of_left_out = file_of_table (107 ∷ 101 ∷ 114 ∷ 110 ∷ []) 10 (0 ∷ 0 ∷ 0 ∷ 1 ∷ 0 ∷ 0 ∷ 0 ∷ 6 ∷ 3 ∷ 1 ∷ [])

-- that subtable is left out, and told
abbrev pub LeftOutsAreTold : Type 0
LeftOutsAreTold =
    face_of file_of_left_out 0
    ≡ Ok (record (tracking_face file_of_left_out None []) {
      font = font_of_no_kerning;
      left_out_of_kern = record { number = 0; fault = fault_at KERN UnknownFormat 8 } ∷ [];
    })

-- marks of class 3 from glyph 1 to 2, of which glyph 2 has the class 9 among marks
abbrev pub example_classes : GlyphClasses
example_classes = record {
  classes = Ranges (0 ∷ 2 ∷ 0 ∷ 1 ∷ 0 ∷ 1 ∷ 0 ∷ 2 ∷ 0 ∷ 3 ∷ []);
  mark_classes = Array (0 ∷ 1 ∷ 0 ∷ 2 ∷ 0 ∷ 1 ∷ 0 ∷ 9 ∷ []);
}

-- each glyph has its advance, and a mark its property, without its class among marks
abbrev pub GlyphsHaveValues : Type 0
GlyphsHaveValues =
    (advance_pairs (metrics_of example_metrics 2 3) 100 3 ≡ (0, 500) ∷ (1, 600) ∷ (2, 600) ∷ [])
    × (advance_pairs (metrics_of example_metrics 0 2) 100 2 ≡ (0, 100) ∷ (1, 100) ∷ [])
    × (property_pairs example_classes 3 ≡ (0, 0) ∷ (1, 8) ∷ (2, 8) ∷ [])

-- names 1 and 2 of the Macintosh, and name 2 of Windows
abbrev pub example_names : List ℕ
example_names =
    0 ∷ 0 ∷ 0 ∷ 3 ∷ 0 ∷ 42
    ∷ 0 ∷ 1 ∷ 0 ∷ 0 ∷ 0 ∷ 0 ∷ 0 ∷ 1 ∷ 0 ∷ 1 ∷ 0 ∷ 0
    ∷ 0 ∷ 1 ∷ 0 ∷ 0 ∷ 0 ∷ 0 ∷ 0 ∷ 2 ∷ 0 ∷ 1 ∷ 0 ∷ 1
    ∷ 0 ∷ 3 ∷ 0 ∷ 1 ∷ 4 ∷ 9 ∷ 0 ∷ 2 ∷ 0 ∷ 2 ∷ 0 ∷ 2 ∷ 65 ∷ 66 ∷ 0 ∷ 67 ∷ []

-- the text of Windows goes before that of the Macintosh
abbrev pub WindowsGoesFirst : Type 0
WindowsGoesFirst =
    (english_text example_names 1 ≡ Some (text_in MacRoman (65 ∷ [])))
    × (english_text example_names 2 ≡ Some (text_in Utf16 (0 ∷ 67 ∷ [])))
    × (english_text example_names 3 ≡ None)

-- names 256 and 257 of the Macintosh
abbrev pub example_feature_names : List ℕ
example_feature_names =
    0 ∷ 0 ∷ 0 ∷ 2 ∷ 0 ∷ 30
    ∷ 0 ∷ 1 ∷ 0 ∷ 0 ∷ 0 ∷ 0 ∷ 1 ∷ 0 ∷ 0 ∷ 1 ∷ 0 ∷ 0
    ∷ 0 ∷ 1 ∷ 0 ∷ 0 ∷ 0 ∷ 0 ∷ 1 ∷ 1 ∷ 0 ∷ 1 ∷ 0 ∷ 1 ∷ 76 ∷ 77 ∷ []

-- a face of these names, and of the features 1, of the name 256, with the setting 2, of the name 257, and 3, of 260
abbrev pub example_face : FaceValue
example_face = record {
  directory = directory_in [];
  glyph_count = 0;
  units_per_em = 1000;
  characters = None;
  names = Some example_feature_names;
  features = Some example_feat;
  font = empty_font;
  tracking = None;
  has_gpos = false;
  has_stat = false;
  faults = [];
  left_out = [];
  left_out_of_kern = [];
}

-- a feature and a setting have the texts of their names, where these are there
abbrev pub FeaturesHaveTexts : Type 0
FeaturesHaveTexts =
    (feature_text example_face 1 ≡ Some (text_in MacRoman (76 ∷ [])))
    × (setting_text example_face 1 2 ≡ Some (text_in MacRoman (77 ∷ [])))
    × (setting_text example_face 1 3 ≡ None)
    × (feature_text example_face 3 ≡ None)
