-- Worked examples of a font's bytes.
use Rattle.std.specs.Prelude.{◌≡◌, ℕ, pos, negsuc, Bool, false, true, List, [], ◌∷◌, ◌++◌, take, drop, codes, Some, None, Ok, Err, replicate}
use Rattle.aat_bytes.specs.Faults.{fault_at}
use Rattle.aat_bytes.specs.Numbers.{tag_at}
use Rattle.aat_bytes.specs.declared.error.FaultKind.TheVariants.{PastEnd, UnknownFormat, ShortLength, Missing}
use Rattle.aat_bytes.specs.declared.tags.TheConstants.{CMAP, GDEF, HEAD, MAXP, SFNT, TTCF}
use Rattle.aat_read_sfnt.specs.Characters.{cmap_of, mapped_glyph}
use Rattle.aat_read_sfnt.specs.CharacterSets.{mac_roman_code}
use Rattle.aat_read_sfnt.specs.ClassDefinition.{class_in_ranges, class_ranges_at}
use Rattle.aat_read_sfnt.specs.Directory.{Directory, cut_table_of, directory_of, table_of}
use Rattle.aat_read_sfnt.specs.GlyphData.{DataTables, data_of, has_long_offsets, header_of}
use Rattle.aat_read_sfnt.specs.Header.{glyph_count}
use Rattle.aat_read_sfnt.specs.Metrics.{advance_of, bearing_of, metrics_of}
use Rattle.aat_read_sfnt.specs.SegmentMapping.{segment_glyph, segments_at}
use Rattle.aat_read_sfnt.specs.SegmentedCoverage.{group_glyph, groups_at}
use Rattle.aat_read_sfnt.specs.VerticalOrigins.{vertical_origin_at}
use Rattle.aat_read_sfnt.specs.declared.cmap.Cmap.TheVariants.{TrimmedTable}
use Rattle.aat_read_sfnt.specs.declared.cmap.CharacterMap.{CharacterMap}
use Rattle.aat_read_sfnt.specs.declared.cmap.character_set.TheConstants.{MAC_ROMAN}
use Rattle.aat_read_sfnt.specs.declared.tags.TheConstants.{OS_2, VHEA, VMTX, VORG}
use Rattle.aat_read_sfnt.specs.declared.cmap.character_set.CharacterSet.{CharacterSet}
use Rattle.aat_read_sfnt.specs.declared.cmap.character_set.CharacterSet.TheVariants.{Unicode, Symbol, MacRoman}

-- a profile of version 0.5 and 7 glyphs
abbrev pub example_profile : List ℕ
example_profile = 0 ∷ 0 ∷ 80 ∷ 0 ∷ 0 ∷ 7 ∷ []

-- a file of two tables: `maxp` at 44, which is the profile, and `head` at 48, which reaches past the end
abbrev pub example_file : List ℕ
example_file =
    0 ∷ 1 ∷ 0 ∷ 0 ∷ 0 ∷ 2 ∷ 0 ∷ 0 ∷ 0 ∷ 0 ∷ 0 ∷ 0
    ∷ 109 ∷ 97 ∷ 120 ∷ 112 ∷ 0 ∷ 0 ∷ 0 ∷ 0 ∷ 0 ∷ 0 ∷ 0 ∷ 44 ∷ 0 ∷ 0 ∷ 0 ∷ 6
    ∷ 104 ∷ 101 ∷ 97 ∷ 100 ∷ 0 ∷ 0 ∷ 0 ∷ 0 ∷ 0 ∷ 0 ∷ 0 ∷ 48 ∷ 0 ∷ 0 ∷ 0 ∷ 6 ∷ example_profile

-- its directory
abbrev pub example_directory : Directory
example_directory = record { file = example_file; place = 0 }

-- a table is a slice of the file, one that reaches past the end is a fault or is cut there, and a file that is no
-- collection has one font
abbrev pub TablesAreSlices : Type 0
TablesAreSlices =
    (directory_of example_file 0 ≡ Ok example_directory)
    × (directory_of example_file 1 ≡ Err (fault_at SFNT Missing 0))
    × (table_of example_directory MAXP ≡ Ok example_profile)
    × (glyph_count example_profile ≡ Ok 7)
    × (table_of example_directory HEAD ≡ Err (fault_at HEAD PastEnd 0))
    × (cut_table_of example_directory MAXP ≡ Ok example_profile)
    × (cut_table_of example_directory HEAD ≡ Ok (0 ∷ 7 ∷ []))
    × (table_of example_directory CMAP ≡ Err (fault_at CMAP Missing 0))

-- a collection of one font, whose directory stands at 16 and has no tables
abbrev pub example_collection : List ℕ
example_collection =
    116 ∷ 116 ∷ 99 ∷ 102 ∷ 0 ∷ 1 ∷ 0 ∷ 0 ∷ 0 ∷ 0 ∷ 0 ∷ 1 ∷ 0 ∷ 0 ∷ 0 ∷ 16
    ∷ 79 ∷ 84 ∷ 84 ∷ 79 ∷ 0 ∷ 0 ∷ 0 ∷ 0 ∷ 0 ∷ 0 ∷ 0 ∷ 0 ∷ []

-- a collection lists the places of its directories
abbrev pub CollectionsListTheirFonts : Type 0
CollectionsListTheirFonts =
    (directory_of example_collection 0 ≡ Ok (record { file = example_collection; place = 16 }))
    × (directory_of example_collection 1 ≡ Err (fault_at TTCF Missing 8))

-- two long metrics, of the advances 500 and 600, and a bearing
abbrev pub example_metrics : List ℕ
example_metrics = 1 ∷ 244 ∷ 0 ∷ 9 ∷ 2 ∷ 88 ∷ 0 ∷ 9 ∷ 0 ∷ 9 ∷ []

-- a glyph past the long metrics has the last advance, one without a bearing 0; what is not there does not count
abbrev pub AdvancesAreListed : Type 0
AdvancesAreListed =
    (advance_of (metrics_of example_metrics 2 3) 0 ≡ Some 500)
    × (advance_of (metrics_of example_metrics 2 3) 1 ≡ Some 600)
    × (advance_of (metrics_of example_metrics 9 3) 1 ≡ Some 600)
    × (advance_of (metrics_of example_metrics 2 3) 2 ≡ Some 600)
    × (advance_of (metrics_of example_metrics 2 3) 3 ≡ Some 0)
    × (advance_of (metrics_of example_metrics 2 9) 3 ≡ Some 0)
    × (advance_of (metrics_of example_metrics 0 3) 0 ≡ None)
    × (bearing_of (metrics_of example_metrics 2 3) 1 ≡ pos 9)
    × (bearing_of (metrics_of example_metrics 1 3) 1 ≡ pos 600)
    × (bearing_of (metrics_of example_metrics 1 3) 3 ≡ pos 0)

-- two offsets of 16 bits, and two of 32: a glyph of 10 bytes, and one from 10 back to 0
abbrev pub example_data : Bool → List ℕ → DataTables
example_data is_long loca = record {
  glyf = 255 ∷ 255 ∷ 0 ∷ 1 ∷ 0 ∷ 2 ∷ 255 ∷ 253 ∷ 0 ∷ 4 ∷ 7 ∷ [];
  loca = loca;
  is_long = is_long;
  glyph_count = 9;
}

-- a table `head` with a format of data and one of offsets
abbrev pub example_head : ℕ → ℕ → List ℕ
example_head format offsets =
    0 ∷ 1 ∷ (replicate 10 0 ++ 0x5F ∷ 0x0F ∷ 0x3C ∷ 0xF5 ∷ (replicate 35 0 ++ offsets ∷ 0 ∷ format ∷ []))

-- short offsets count twice, data stands between two offsets that rise, and a header has its numbers, or 0
abbrev pub HeadersAreRead : Type 0
HeadersAreRead =
    (has_long_offsets [] ≡ Some false)
    × (has_long_offsets (example_head 0 1) ≡ Some true)
    × (has_long_offsets (example_head 0 2) ≡ None)
    × (has_long_offsets (example_head 2 1) ≡ None)
    × (data_of (example_data false (0 ∷ 0 ∷ 0 ∷ 5 ∷ 0 ∷ 0 ∷ [])) 0
    ≡ Some (255 ∷ 255 ∷ 0 ∷ 1 ∷ 0 ∷ 2 ∷ 255 ∷ 253 ∷ 0 ∷ 4 ∷ []))
    × (data_of (example_data false (0 ∷ 0 ∷ 0 ∷ 5 ∷ 0 ∷ 0 ∷ [])) 1 ≡ None)
    × (data_of (example_data true (0 ∷ 0 ∷ 0 ∷ 9 ∷ 0 ∷ 0 ∷ 0 ∷ 11 ∷ [])) 0 ≡ Some (4 ∷ 7 ∷ []))
    × (data_of (example_data true (0 ∷ 0 ∷ 0 ∷ 9 ∷ 0 ∷ 0 ∷ 0 ∷ 11 ∷ [])) 1 ≡ None)
    × (header_of (255 ∷ 255 ∷ 0 ∷ 1 ∷ 0 ∷ 2 ∷ 255 ∷ 253 ∷ 0 ∷ 4 ∷ [])
    ≡ record { contours = negsuc 0; x_min = pos 1; y_min = pos 2; x_max = negsuc 2; y_max = pos 4 })
    × ((header_of (255 ∷ 255 ∷ [])).contours ≡ pos 0)

-- origins of 800, and of -1 for glyph 3 and 820 for glyph 5
abbrev pub example_origins : List ℕ
example_origins = 0 ∷ 1 ∷ 0 ∷ 0 ∷ 3 ∷ 32 ∷ 0 ∷ 2 ∷ 0 ∷ 3 ∷ 255 ∷ 255 ∷ 0 ∷ 5 ∷ 3 ∷ 52 ∷ []

-- a glyph has its origin, or that of all others; a table that is cut short has none
abbrev pub OriginsAreListed : Type 0
OriginsAreListed =
    (vertical_origin_at example_origins 3 ≡ Some (negsuc 0))
    × (vertical_origin_at example_origins 4 ≡ Some (pos 800))
    × (vertical_origin_at example_origins 5 ≡ Some (pos 820))
    × (vertical_origin_at (take 15 example_origins) 4 ≡ None)

-- segments from A to C by a delta of -55, from a to b by a list of 20 and 0 and a delta of 1, and the last of all
abbrev pub example_segments : List ℕ
example_segments =
    0 ∷ 4 ∷ 0 ∷ 44 ∷ 0 ∷ 0 ∷ 0 ∷ 6 ∷ 0 ∷ 0 ∷ 0 ∷ 0 ∷ 0 ∷ 0
    ∷ 0 ∷ 67 ∷ 0 ∷ 98 ∷ 255 ∷ 255 ∷ 0 ∷ 0 ∷ 0 ∷ 65 ∷ 0 ∷ 97 ∷ 255 ∷ 255
    ∷ 255 ∷ 201 ∷ 0 ∷ 1 ∷ 0 ∷ 1 ∷ 0 ∷ 0 ∷ 0 ∷ 4 ∷ 0 ∷ 0 ∷ 0 ∷ 20 ∷ 0 ∷ 0 ∷ []

-- a delta wraps, an offset counts from its own place, and a number of 0 gets no delta
abbrev pub SegmentsMapCharacters : Type 0
SegmentsMapCharacters =
    (segments_at example_segments 0 ≡ Ok example_segments)
    × (segment_glyph example_segments 65 ≡ Some 10)
    × (segment_glyph example_segments 67 ≡ Some 12)
    × (segment_glyph example_segments 68 ≡ None)
    × (segment_glyph example_segments 97 ≡ Some 21)
    × (segment_glyph example_segments 98 ≡ None)
    × (segment_glyph example_segments 65535 ≡ None)
    × (segment_glyph example_segments 65601 ≡ None)

-- segments from 97 to 98 by a delta of 1, from 65 to 67 by one of -55, from 70 to 66 by one of 0, and from 80 to 81 by
-- one of 0. A bisection begins at the second one, and never comes to the first
abbrev pub falling_segments : List ℕ
falling_segments =
    0 ∷ 4 ∷ 0 ∷ 48 ∷ 0 ∷ 0 ∷ 0 ∷ 8 ∷ 0 ∷ 0 ∷ 0 ∷ 0 ∷ 0 ∷ 0
    ∷ 0 ∷ 98 ∷ 0 ∷ 67 ∷ 0 ∷ 66 ∷ 0 ∷ 81 ∷ 0 ∷ 0 ∷ 0 ∷ 97 ∷ 0 ∷ 65 ∷ 0 ∷ 70 ∷ 0 ∷ 80
    ∷ 0 ∷ 1 ∷ 255 ∷ 201 ∷ 0 ∷ 0 ∷ 0 ∷ 0 ∷ 0 ∷ 0 ∷ 0 ∷ 0 ∷ 0 ∷ 0 ∷ 0 ∷ 0 ∷ []

-- segments that do not rise are those that a bisection finds
abbrev pub FallingSegmentsAreFound : Type 0
FallingSegmentsAreFound =
    (segments_at falling_segments 0 ≡ Ok falling_segments)
    × (segment_glyph falling_segments 67 ≡ Some 12)
    × (segment_glyph falling_segments 80 ≡ Some 80)
    × (segment_glyph falling_segments 68 ≡ None)
    × (segment_glyph falling_segments 97 ≡ None)

-- a length that does not hold the lists
abbrev pub ShortSegmentsAreAFault : Type 0
ShortSegmentsAreAFault =
    segments_at (0 ∷ 4 ∷ 0 ∷ 23 ∷ 0 ∷ 0 ∷ 0 ∷ 2 ∷ replicate 20 0) 100 ≡ Err (fault_at CMAP ShortLength 102)

-- a group from 65536 on, of the glyphs 5 and 6
abbrev pub example_groups : List ℕ
example_groups =
    0 ∷ 12 ∷ 0 ∷ 0 ∷ 0 ∷ 0 ∷ 0 ∷ 28 ∷ 0 ∷ 0 ∷ 0 ∷ 0 ∷ 0 ∷ 0 ∷ 0 ∷ 1
    ∷ 0 ∷ 1 ∷ 0 ∷ 0 ∷ 0 ∷ 1 ∷ 0 ∷ 1 ∷ 0 ∷ 0 ∷ 0 ∷ 5 ∷ []

-- a group numbers its glyphs from its first character on
abbrev pub GroupsMapCharacters : Type 0
GroupsMapCharacters =
    (group_glyph example_groups 65 ≡ None)
    × (group_glyph example_groups 65536 ≡ Some 5)
    × (group_glyph example_groups 65537 ≡ Some 6)
    × (group_glyph example_groups 65538 ≡ None)

-- two groups from 65536 to 65537
abbrev pub falling_groups : List ℕ
falling_groups =
    0 ∷ 12 ∷ 0 ∷ 0 ∷ 0 ∷ 0 ∷ 0 ∷ 40 ∷ 0 ∷ 0 ∷ 0 ∷ 0 ∷ 0 ∷ 0 ∷ 0 ∷ 2
    ∷ 0 ∷ 1 ∷ 0 ∷ 0 ∷ 0 ∷ 1 ∷ 0 ∷ 1 ∷ 0 ∷ 0 ∷ 0 ∷ 5
    ∷ 0 ∷ 1 ∷ 0 ∷ 0 ∷ 0 ∷ 1 ∷ 0 ∷ 1 ∷ 0 ∷ 0 ∷ 0 ∷ 7 ∷ []

-- a bisection finds the first one
abbrev pub FallingGroupsAreFound : Type 0
FallingGroupsAreFound =
    (groups_at example_groups 100 ≡ Ok example_groups)
    × (groups_at falling_groups 100 ≡ Ok falling_groups)
    × (group_glyph falling_groups 65537 ≡ Some 6)

-- two subtables: platform 0 and encoding 3 at 22, where a is the glyph 7, and 3 with 10 at 20, of a format that is none
abbrev pub example_cmap : List ℕ
example_cmap =
    0 ∷ 0 ∷ 0 ∷ 2 ∷ 0 ∷ 0 ∷ 0 ∷ 3 ∷ 0 ∷ 0 ∷ 0 ∷ 22 ∷ 0 ∷ 3 ∷ 0 ∷ 10 ∷ 0 ∷ 0 ∷ 0 ∷ 20 ∷ 0 ∷ 5
    ∷ 0 ∷ 6 ∷ 0 ∷ 12 ∷ 0 ∷ 0 ∷ 0 ∷ 97 ∷ 0 ∷ 1 ∷ 0 ∷ 7 ∷ []

-- behind a subtable with a fault the next is taken, and where that has one too the first fault is told
abbrev pub FaultySubtablesArePassedOver : Type 0
FaultySubtablesArePassedOver =
    (cmap_of example_cmap ≡ Ok (record { subtable = TrimmedTable (drop 22 example_cmap); character_set = Unicode }))
    × (cmap_of (take 24 example_cmap) ≡ Err (fault_at CMAP UnknownFormat 20))

-- a subtable of format 6 from a character on, of the glyphs 7 and 8, and a map of it
abbrev pub trimmed_map : CharacterSet → ℕ → ℕ → CharacterMap
trimmed_map set high low = record {
  subtable = TrimmedTable (0 ∷ 6 ∷ 0 ∷ 14 ∷ 0 ∷ 0 ∷ high ∷ low ∷ 0 ∷ 2 ∷ 0 ∷ 7 ∷ 0 ∷ 8 ∷ []);
  character_set = set;
}

-- symbols from 0xF061 on are also a and b; letters of their own are not symbols from there on
abbrev pub SymbolsAreDoubled : Type 0
SymbolsAreDoubled =
    (mapped_glyph (trimmed_map Symbol 240 97) 97 ≡ Some 7)
    × (mapped_glyph (trimmed_map Symbol 240 97) 0xF062 ≡ Some 8)
    × (mapped_glyph (trimmed_map Symbol 240 255) 255 ≡ Some 7)
    × (mapped_glyph (trimmed_map Symbol 241 0) 256 ≡ None)
    × (mapped_glyph (trimmed_map Symbol 0 97) 97 ≡ Some 7)
    × (mapped_glyph (trimmed_map Symbol 0 97) 0xF061 ≡ None)
    × (mapped_glyph (trimmed_map Unicode 240 97) 97 ≡ None)

-- the characters of Mac Roman from 0x80 on
abbrev pub mac_roman : List ℕ
mac_roman =
    0xC4 ∷ 0xC5 ∷ 0xC7 ∷ 0xC9 ∷ 0xD1 ∷ 0xD6 ∷ 0xDC ∷ 0xE1 ∷ 0xE0 ∷ 0xE2 ∷ 0xE4 ∷ 0xE3 ∷ 0xE5 ∷ 0xE7
    ∷ 0xE9 ∷ 0xE8 ∷ 0xEA ∷ 0xEB ∷ 0xED ∷ 0xEC ∷ 0xEE ∷ 0xEF ∷ 0xF1 ∷ 0xF3 ∷ 0xF2 ∷ 0xF4 ∷ 0xF6 ∷ 0xF5
    ∷ 0xFA ∷ 0xF9 ∷ 0xFB ∷ 0xFC ∷ 0x2020 ∷ 0xB0 ∷ 0xA2 ∷ 0xA3 ∷ 0xA7 ∷ 0x2022 ∷ 0xB6 ∷ 0xDF ∷ 0xAE ∷ 0xA9
    ∷ 0x2122 ∷ 0xB4 ∷ 0xA8 ∷ 0x2260 ∷ 0xC6 ∷ 0xD8 ∷ 0x221E ∷ 0xB1 ∷ 0x2264 ∷ 0x2265 ∷ 0xA5 ∷ 0xB5 ∷ 0x2202 ∷ 0x2211
    ∷ 0x220F ∷ 0x3C0 ∷ 0x222B ∷ 0xAA ∷ 0xBA ∷ 0x3A9 ∷ 0xE6 ∷ 0xF8 ∷ 0xBF ∷ 0xA1 ∷ 0xAC ∷ 0x221A ∷ 0x192 ∷ 0x2248
    ∷ 0x2206 ∷ 0xAB ∷ 0xBB ∷ 0x2026 ∷ 0xA0 ∷ 0xC0 ∷ 0xC3 ∷ 0xD5 ∷ 0x152 ∷ 0x153 ∷ 0x2013 ∷ 0x2014 ∷ 0x201C ∷ 0x201D
    ∷ 0x2018 ∷ 0x2019 ∷ 0xF7 ∷ 0x25CA ∷ 0xFF ∷ 0x178 ∷ 0x2044 ∷ 0x20AC ∷ 0x2039 ∷ 0x203A ∷ 0xFB01 ∷ 0xFB02 ∷ 0x2021 ∷ 0xB7
    ∷ 0x201A ∷ 0x201E ∷ 0x2030 ∷ 0xC2 ∷ 0xCA ∷ 0xC1 ∷ 0xCB ∷ 0xC8 ∷ 0xCD ∷ 0xCE ∷ 0xCF ∷ 0xCC ∷ 0xD3 ∷ 0xD4
    ∷ 0xF8FF ∷ 0xD2 ∷ 0xDA ∷ 0xDB ∷ 0xD9 ∷ 0x131 ∷ 0x2C6 ∷ 0x2DC ∷ 0xAF ∷ 0x2D8 ∷ 0x2D9 ∷ 0x2DA ∷ 0xB8 ∷ 0x2DD
    ∷ 0x2DB ∷ 0x2C7 ∷ []

-- the Macintosh has Ä as 0x80, the euro as 0xDB and its apple as 0xF0; 0x80 of Unicode is no character of it
abbrev pub MacRomanIsRead : Type 0
MacRomanIsRead =
    (MAC_ROMAN ≡ mac_roman)
    × (mac_roman_code 0xC4 ≡ Some 0x80)
    × (mac_roman_code 0x20AC ≡ Some 0xDB)
    × (mac_roman_code 0xF8FF ≡ Some 0xF0)
    × (mac_roman_code 0x2C7 ≡ Some 0xFF)
    × (mapped_glyph (trimmed_map MacRoman 0 127) 127 ≡ Some 7)
    × (mapped_glyph (trimmed_map MacRoman 0 127) 0xC4 ≡ Some 8)
    × (mapped_glyph (trimmed_map MacRoman 0 127) 128 ≡ None)

-- a range of class 3 from glyph 5 to 7
abbrev pub example_ranges : List ℕ
example_ranges = 0 ∷ 2 ∷ 0 ∷ 1 ∷ 0 ∷ 5 ∷ 0 ∷ 7 ∷ 0 ∷ 3 ∷ []

-- a range has both of its ends
abbrev pub RangesHaveTheirEnds : Type 0
RangesHaveTheirEnds =
    (class_in_ranges example_ranges 4 ≡ 0)
    × (class_in_ranges example_ranges 5 ≡ 3)
    × (class_in_ranges example_ranges 7 ≡ 3)
    × (class_in_ranges example_ranges 8 ≡ 0)

-- ranges from 9 to 10 of class 2, from 5 to 7 of class 3, and from 7 to 8 of class 1
abbrev pub falling_ranges : List ℕ
falling_ranges = 0 ∷ 2 ∷ 0 ∷ 3 ∷ 0 ∷ 9 ∷ 0 ∷ 10 ∷ 0 ∷ 2 ∷ 0 ∷ 5 ∷ 0 ∷ 7 ∷ 0 ∷ 3 ∷ 0 ∷ 7 ∷ 0 ∷ 8 ∷ 0 ∷ 1 ∷ []

-- of ranges that do not rise a glyph is in the one that a bisection finds, which begins at the second
abbrev pub FallingRangesAreFound : Type 0
FallingRangesAreFound =
    (class_ranges_at example_ranges 12 ≡ Ok example_ranges)
    × (class_ranges_at falling_ranges 12 ≡ Ok falling_ranges)
    × (class_in_ranges falling_ranges 7 ≡ 3)
    × (class_in_ranges falling_ranges 8 ≡ 1)
    × (class_in_ranges falling_ranges 9 ≡ 0)

-- the tags of the tables of columns and of OpenType's metrics
abbrev pub TagsAreNames : Type 0
TagsAreNames =
    (tag_at (codes "OS/2") 0 ≡ Some OS_2)
    × (tag_at (codes "vhea") 0 ≡ Some VHEA)
    × (tag_at (codes "vmtx") 0 ≡ Some VMTX)
    × (tag_at (codes "VORG") 0 ≡ Some VORG)
