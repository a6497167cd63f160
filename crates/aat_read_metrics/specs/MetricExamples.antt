-- Worked examples of boxes and of columns.
use Rattle.std.specs.Prelude.{◌≡◌, ℕ, pos, negsuc, List, [], ◌∷◌, ◌++◌, Some, None, replicate}
use Rattle.aat_read_sfnt.specs.Directory.{Directory}
use Rattle.aat_read_sfnt.specs.declared.glyph_data.GlyphHeader.{GlyphHeader}
use Rattle.aat_read_metrics.specs.FontExtents.{font_extents}
use Rattle.aat_read_metrics.specs.GlyphMetrics.{box_of, empty_box, glyph_box_in, height_by_box, height_of_data, row_advance, vertical_advance_in, vertical_origin_in}
use Rattle.aat_read_metrics.specs.declared.glyph_metrics.GlyphBox.{GlyphBox}

-- a file of two glyphs: `glyf` at 60, with the header of the first, `loca` at 70, with short offsets, `maxp` at 76
abbrev pub example_glyphs_file : List ℕ
example_glyphs_file =
    0 ∷ 1 ∷ 0 ∷ 0 ∷ 0 ∷ 3 ∷ 0 ∷ 0 ∷ 0 ∷ 0 ∷ 0 ∷ 0
    ∷ 103 ∷ 108 ∷ 121 ∷ 102 ∷ 0 ∷ 0 ∷ 0 ∷ 0 ∷ 0 ∷ 0 ∷ 0 ∷ 60 ∷ 0 ∷ 0 ∷ 0 ∷ 10
    ∷ 108 ∷ 111 ∷ 99 ∷ 97 ∷ 0 ∷ 0 ∷ 0 ∷ 0 ∷ 0 ∷ 0 ∷ 0 ∷ 70 ∷ 0 ∷ 0 ∷ 0 ∷ 6
    ∷ 109 ∷ 97 ∷ 120 ∷ 112 ∷ 0 ∷ 0 ∷ 0 ∷ 0 ∷ 0 ∷ 0 ∷ 0 ∷ 76 ∷ 0 ∷ 0 ∷ 0 ∷ 6
    ∷ 0 ∷ 1 ∷ 0 ∷ 50 ∷ 255 ∷ 246 ∷ 1 ∷ 194 ∷ 2 ∷ 188 ∷ 0 ∷ 0 ∷ 0 ∷ 5 ∷ 0 ∷ 5
    ∷ 0 ∷ 0 ∷ 80 ∷ 0 ∷ 0 ∷ 2 ∷ []

-- its directory
abbrev pub example_glyphs : Directory
example_glyphs = record { file = example_glyphs_file; place = 0 }

-- the box of the first
abbrev pub example_box : GlyphBox
example_box = record { left = pos 0; bottom = negsuc 9; right = pos 400; top = pos 700 }

-- without metrics a box begins at 0, and a glyph has half an em; the second glyph, without data, has an empty box
abbrev pub BoxesAreOfHeaders : Type 0
BoxesAreOfHeaders =
    (row_advance example_glyphs 0 ≡ 500)
    × (glyph_box_in example_glyphs 0 ≡ Some example_box)
    × (glyph_box_in example_glyphs 1 ≡ Some empty_box)
    × (glyph_box_in example_glyphs 2 ≡ None)

-- an em of 1,000 units has 800 above the baseline: a box of 710 is put into its middle
abbrev pub BoxesStandInTheMiddle : Type 0
BoxesStandInTheMiddle =
    (vertical_advance_in example_glyphs 0 ≡ 1000)
    × (vertical_origin_in example_glyphs 0 ≡ record { x = pos 250; y = pos 845 })
    × (vertical_origin_in example_glyphs 1 ≡ record { x = pos 250; y = pos 500 })
    × (vertical_origin_in example_glyphs 2 ≡ record { x = pos 250; y = pos 800 })

-- the header of a glyph of one contour
abbrev pub example_header : GlyphHeader
example_header =
    record { contours = pos 1; x_min = pos 50; y_min = negsuc 9; x_max = pos 450; y_max = pos 700 }

-- a box begins at the bearing, and has the width of its header
abbrev pub BoxesBeginAtTheBearing : Type 0
BoxesBeginAtTheBearing =
    (box_of example_header (pos 30)
    ≡ record { left = pos 30; bottom = negsuc 9; right = pos 430; top = pos 700 })
    × (box_of (record example_header { contours = pos 0 }) (pos 30) ≡ empty_box)

-- by its top a glyph of 14 bytes has an origin, one of 13 has not its last point and the length of instructions
abbrev pub TopsHaveBearings : Type 0
TopsHaveBearings =
    (height_of_data (0 ∷ 1 ∷ 0 ∷ 50 ∷ 255 ∷ 246 ∷ 1 ∷ 194 ∷ 2 ∷ 188 ∷ 0 ∷ 0 ∷ 0 ∷ 0 ∷ []) (negsuc 19) 1000 ≡ pos 680)
    × (height_of_data (0 ∷ 1 ∷ 0 ∷ 50 ∷ 255 ∷ 246 ∷ 1 ∷ 194 ∷ 2 ∷ 188 ∷ 0 ∷ 0 ∷ 0 ∷ []) (negsuc 19) 1000 ≡ pos 1000)
    × (height_of_data [] (negsuc 19) 1000 ≡ negsuc 19)
    × (height_by_box (record { above = 800; below = 201 }) (Some example_box) ≡ pos 845)

-- a table `hhea` with an ascender of 900 and a descender of -300
abbrev pub example_hhea : List ℕ
example_hhea = 0 ∷ 1 ∷ 0 ∷ 0 ∷ 3 ∷ 132 ∷ 254 ∷ 212 ∷ replicate 28 0

-- a table `OS/2` of version 0 with a weight, flags, and an ascender of 700 and a descender of -100
abbrev pub example_os_2 : ℕ → List ℕ
example_os_2 flags =
    0 ∷ 0 ∷ 0 ∷ 0 ∷ 1 ∷ 144 ∷ (replicate 56 0 ++ 0 ∷ flags ∷ 0 ∷ 0 ∷ 0 ∷ 0 ∷ 2 ∷ 188 ∷ 255 ∷ 156 ∷ replicate 6 0)

-- `OS/2` is asked where bit 7 says so, else `hhea`, else the em
abbrev pub ExtentsAreAsked : Type 0
ExtentsAreAsked =
    (font_extents (example_os_2 128) example_hhea 1000 ≡ record { above = 700; below = 100 })
    × (font_extents (example_os_2 64) example_hhea 1000 ≡ record { above = 900; below = 300 })
    × (font_extents (1 ∷ []) (1 ∷ []) 2048 ≡ record { above = 1638; below = 410 })
