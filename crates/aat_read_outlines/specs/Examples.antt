-- Worked examples of outlines.
use Rattle.std.specs.Prelude.{◌≡◌, ℕ, ℤ, List, [], ◌∷◌, ◌++◌, pos, negsuc, Bool, true, false, Some, None, Ok, Err}
use Rattle.aat_bytes.specs.Faults.{fault_at}
use Rattle.aat_bytes.specs.declared.error.FaultKind.TheVariants.{PastEnd, UnknownFormat, Missing, NotRising}
use Rattle.aat_bytes.specs.declared.tags.TheConstants.{GLYF, HEAD, LOCA}
use Rattle.aat_read_outlines.specs.Components.{placed, scales}
use Rattle.aat_read_outlines.specs.Composites.{outline_of}
use Rattle.aat_read_outlines.specs.Flags.{FlagList, flags_from, run_at}
use Rattle.aat_read_outlines.specs.Glyphs.{GlyphBytes, past}
use Rattle.aat_read_outlines.specs.Offsets.{OutlineTables, glyph_bytes}
use Rattle.aat_read_outlines.specs.Outlines.{contour_of}
use Rattle.aat_read_outlines.specs.Segments.{segments_of}
use Rattle.aat_read_outlines.specs.SimpleGlyphs.{simple_outline}
use Rattle.aat_read_outlines.specs.declared.components.Component.{Component}
use Rattle.aat_read_outlines.specs.declared.curves.HalfPoint.{HalfPoint}
use Rattle.aat_read_outlines.specs.declared.curves.Segment.TheVariants.{MoveTo, LineTo, QuadraticTo, Close}
use Rattle.aat_read_outlines.specs.declared.outline.OutlinePoint.{OutlinePoint}

-- a point on the curve, one off it, and a point in half units
abbrev pub on : ℤ → ℤ → OutlinePoint
on x y = record { x = x; y = y; is_on_curve = true }

abbrev pub off : ℤ → ℤ → OutlinePoint
off x y = record { x = x; y = y; is_on_curve = false }

abbrev pub half : ℤ → ℤ → HalfPoint
half x y = record { x = x; y = y }

-- a header of so many contours, with a box that is not read
abbrev pub header : ℕ → ℕ → List ℕ
header high low = high ∷ low ∷ 0 ∷ 0 ∷ 0 ∷ 0 ∷ 0 ∷ 0 ∷ 0 ∷ 0 ∷ []

-- a contour of three points behind an instruction: steps of 10 and 0, of -4 and 7, and of -300 and 513
abbrev pub example_glyph : List ℕ
example_glyph =
    header 0 1
    ++ 0 ∷ 2 ∷ 0 ∷ 1 ∷ 176
    ∷ 51 ∷ 38 ∷ 1
    ∷ 10 ∷ 4 ∷ 254 ∷ 212
    ∷ 7 ∷ 2 ∷ 1 ∷ []

-- its points are sums of its steps
abbrev pub PointsAreSums : Type 0
PointsAreSums =
    simple_outline (record { bytes = example_glyph; place = 40 }) 1
    ≡ Ok (record {
      points = on (pos 10) (pos 0) ∷ off (pos 6) (pos 7) ∷ on (negsuc 293) (pos 520) ∷ [];
      ends = 3 ∷ [];
    })

-- a flag with bit 3 is repeated as often as the byte behind it says, and no more often than there are points
abbrev pub FlagsAreRepeated : Type 0
FlagsAreRepeated =
    (flags_from (59 ∷ 2 ∷ 1 ∷ []) (run_at 0) 4 ≡ Some (record { flags = 59 ∷ 59 ∷ 59 ∷ 1 ∷ []; place = 3 }))
    × (flags_from (59 ∷ 2 ∷ 1 ∷ []) (run_at 0) 2 ≡ Some (record { flags = 59 ∷ 59 ∷ []; place = 2 }))
    × (flags_from (59 ∷ 2 ∷ 1 ∷ []) (run_at 0) 5 ≡ None)

-- each fault of a simple glyph at 40, at its place
abbrev pub SimpleFaultsHaveTheirPlaces : Type 0
SimpleFaultsHaveTheirPlaces =
    (simple_outline (record { bytes = header 0 1 ++ 0 ∷ 2 ∷ 0 ∷ []; place = 40 }) 1 ≡ Err (fault_at GLYF PastEnd 50))
    × (simple_outline (record { bytes = header 0 2 ++ 0 ∷ 2 ∷ 0 ∷ 2 ∷ 0 ∷ 0 ∷ []; place = 40 }) 2
    ≡ Err (fault_at GLYF NotRising 52))
    × (simple_outline (record { bytes = header 0 1 ++ 0 ∷ 2 ∷ 0 ∷ 1 ∷ []; place = 40 }) 1
    ≡ Err (fault_at GLYF PastEnd 54))
    × (simple_outline (record { bytes = header 0 1 ++ 0 ∷ 2 ∷ 0 ∷ 0 ∷ 51 ∷ 51 ∷ []; place = 40 }) 1
    ≡ Err (fault_at GLYF PastEnd 56))
    × (simple_outline (record { bytes = header 0 1 ++ 0 ∷ 0 ∷ 0 ∷ 0 ∷ 51 ∷ []; place = 40 }) 1
    ≡ Err (fault_at GLYF PastEnd 55))

-- two points off the curve have one halfway between them; a contour begins on the curve, if need be halfway between its
-- last point and its first one
abbrev pub ContoursAreCurves : Type 0
ContoursAreCurves =
    (segments_of (on (pos 0) (pos 0) ∷ off (pos 2) (pos 0) ∷ off (pos 2) (pos 1) ∷ on (pos 0) (pos 1) ∷ [])
    ≡ MoveTo (half (pos 0) (pos 0))
    ∷ QuadraticTo (half (pos 4) (pos 0)) (half (pos 4) (pos 1))
    ∷ QuadraticTo (half (pos 4) (pos 2)) (half (pos 0) (pos 2))
    ∷ Close ∷ [])
    × (segments_of (off (pos 3) (pos 0) ∷ on (pos 5) (pos 5) ∷ on (negsuc 0) (pos 0) ∷ [])
    ≡ MoveTo (half (negsuc 1) (pos 0))
    ∷ QuadraticTo (half (pos 6) (pos 0)) (half (pos 10) (pos 10))
    ∷ Close ∷ [])
    × (segments_of (off (pos 1) (pos 0) ∷ off (pos 0) (pos 1) ∷ [])
    ≡ MoveTo (half (pos 1) (pos 1))
    ∷ QuadraticTo (half (pos 2) (pos 0)) (half (pos 1) (pos 1))
    ∷ QuadraticTo (half (pos 0) (pos 2)) (half (pos 1) (pos 1))
    ∷ Close ∷ [])
    × (segments_of (on (pos 4) (pos 0) ∷ on (pos 0) (pos 4) ∷ [])
    ≡ MoveTo (half (pos 8) (pos 0)) ∷ LineTo (half (pos 0) (pos 8)) ∷ Close ∷ [])

-- a component at half its size, 3 to the right and 1 down
abbrev pub half_size : Component
half_size = record { glyph = 0; matrix = scales (pos 8192) (pos 8192); dx = pos 3; dy = negsuc 0 }

-- a component turned by a right angle
abbrev pub turned : Component
turned = record {
  glyph = 0;
  matrix = record { xx = pos 0; yx = pos 16384; xy = negsuc 16383; yy = pos 0 };
  dx = pos 0;
  dy = pos 0;
}

-- a point under a matrix is rounded, halves up, and x is the first row
abbrev pub PointsArePlaced : Type 0
PointsArePlaced =
    (placed half_size (on (pos 5) (negsuc 4)) ≡ on (pos 6) (negsuc 2))
    × (placed half_size (off (pos 4) (pos 4)) ≡ off (pos 5) (pos 1))
    × (placed turned (on (pos 7) (pos 2)) ≡ on (negsuc 1) (pos 7))

-- the glyph, and at 26 a composite glyph: it, 100 to the right and 2 down
abbrev pub example_tables : OutlineTables
example_tables = record {
  glyf = example_glyph ++ 0 ∷ header 255 255 ++ 0 ∷ 2 ∷ 0 ∷ 0 ∷ 100 ∷ 254 ∷ [];
  loca = 0 ∷ 0 ∷ 0 ∷ 13 ∷ 0 ∷ 21 ∷ 0 ∷ 21 ∷ [];
  is_long = false;
  glyph_count = 4;
}

-- a composite glyph is its components, and a glyph without data has no contours
abbrev pub ComponentsAreDrawn : Type 0
ComponentsAreDrawn =
    (outline_of example_tables 1
    ≡ Ok (record {
      points = on (pos 110) (negsuc 1) ∷ off (pos 106) (pos 5) ∷ on (negsuc 193) (pos 518) ∷ [];
      ends = 3 ∷ [];
    }))
    × (outline_of example_tables 2 ≡ Ok (record { points = []; ends = [] }))

-- each fault of an offset, at its entry
abbrev pub OffsetFaultsHaveTheirPlaces : Type 0
OffsetFaultsHaveTheirPlaces =
    (outline_of example_tables 3 ≡ Err (fault_at LOCA PastEnd 8))
    × (outline_of example_tables 4 ≡ Err (fault_at LOCA Missing 8))
    × (glyph_bytes (record example_tables { loca = 0 ∷ 2 ∷ 0 ∷ 1 ∷ [] }) 0 ≡ Err (fault_at LOCA PastEnd 2))
    × (glyph_bytes (record example_tables { loca = 0 ∷ 2 ∷ 0 ∷ 22 ∷ [] }) 0 ≡ Err (fault_at LOCA PastEnd 2))
    × (glyph_bytes (record example_tables { loca = 0 ∷ 0 ∷ 0 ∷ 25 ∷ 0 ∷ 0 ∷ 0 ∷ 27 ∷ []; is_long = true }) 0
    ≡ Ok (record { bytes = 0 ∷ 255 ∷ []; place = 25 }))
