-- Worked examples of charstrings.
use Rattle.std.specs.Prelude.{◌≡◌, ℕ, ℤ, ◌*ℤ◌, ◌++◌, List, [], ◌∷◌, pos, negsuc, Some, None, Result, Ok, Err}
use Rattle.aat_bytes.specs.Faults.{after}
use Rattle.aat_bytes.specs.declared.error.Fault.{Fault}
use Rattle.aat_bytes.specs.declared.error.FaultKind.TheVariants.{PastEnd, UnknownFormat, Missing}
use Rattle.aat_read_charstrings.specs.Dicts.{entry_of, real_size}
use Rattle.aat_read_charstrings.specs.FontDicts.{font_number}
use Rattle.aat_read_charstrings.specs.Fonts.{charstrings_of, outline_of}
use Rattle.aat_read_charstrings.specs.Indexes.{fault_of, index_at, object_at}
use Rattle.aat_read_charstrings.specs.Integers.{integer_at}
use Rattle.aat_read_charstrings.specs.Machines.{bias_of, drawn_glyph}
use Rattle.aat_read_charstrings.specs.Steps.{curve, line, point, steps_of}
use Rattle.aat_read_charstrings.specs.Tokens.{number_at}
use Rattle.aat_read_charstrings.specs.declared.path.CubicSegment.{CubicSegment}
use Rattle.aat_read_charstrings.specs.declared.path.CubicSegment.TheVariants.{MoveTo, LineTo, Close}
use Rattle.aat_read_charstrings.specs.declared.path.FixedPoint.{FixedPoint}
use Rattle.aat_read_charstrings.specs.declared.steps.DrawOperator.TheVariants.{RLineTo, HLineTo, VLineTo, RRCurveTo, RCurveLine, RLineCurve, VVCurveTo, HHCurveTo, VHCurveTo, HVCurveTo, HFlex, HFlex1, Flex1}

-- the integers of Technical Note 5176, and numbers of a charstring in 65536ths
abbrev pub IntegersAreThoseOfTheNote : Type 0
IntegersAreThoseOfTheNote =
    (integer_at (139 ∷ []) 0 ≡ pos 0)
    × (integer_at (239 ∷ []) 0 ≡ pos 100)
    × (integer_at (39 ∷ []) 0 ≡ negsuc 99)
    × (integer_at (250 ∷ 124 ∷ []) 0 ≡ pos 1000)
    × (integer_at (254 ∷ 124 ∷ []) 0 ≡ negsuc 999)
    × (integer_at (28 ∷ 39 ∷ 16 ∷ []) 0 ≡ pos 10000)
    × (integer_at (28 ∷ 216 ∷ 240 ∷ []) 0 ≡ negsuc 9999)
    × (number_at (140 ∷ []) 0 ≡ pos 65536)
    × (number_at (255 ∷ 255 ∷ 255 ∷ 128 ∷ 0 ∷ []) 0 ≡ negsuc 32767)

-- a DICT with 100000 and 1 for the key 17, behind -2.25 for 16, and the real numbers of Technical Note 5176
abbrev pub example_dict : List ℕ
example_dict = 30 ∷ 226 ∷ 162 ∷ 95 ∷ 16 ∷ 29 ∷ 0 ∷ 1 ∷ 134 ∷ 160 ∷ 140 ∷ 17 ∷ []

abbrev pub KeysHaveOperands : Type 0
KeysHaveOperands =
    (real_size example_dict 1 12 ≡ 3)
    × (real_size (30 ∷ 10 ∷ 20 ∷ 5 ∷ 65 ∷ 195 ∷ 255 ∷ []) 1 7 ≡ 6)
    × (entry_of example_dict (record { start = 0; end = 12 }) 17 ≡ Ok (Some (record { before = pos 100000; last = pos 1 })))
    × (entry_of example_dict (record { start = 0; end = 12 }) 18 ≡ Ok None)
    × (entry_of example_dict (record { start = 0; end = 8 }) 17 ≡ Err (fault_of PastEnd 5))

-- an INDEX of two objects, of one byte and of two, at 1
abbrev pub example_index : List ℕ
example_index = 9 ∷ 0 ∷ 2 ∷ 1 ∷ 1 ∷ 2 ∷ 4 ∷ 7 ∷ 8 ∷ 9 ∷ []

abbrev pub ObjectsHaveOffsets : Type 0
ObjectsHaveOffsets =
    (index_at example_index 1 ≡ Ok (record { offsets = 4; count = 2; size = 1 }))
    × (index_at (0 ∷ 0 ∷ []) 0 ≡ Ok (record { offsets = 2; count = 0; size = 0 }))
    × (index_at (0 ∷ 1 ∷ 5 ∷ []) 0 ≡ Err (fault_of UnknownFormat 2))
    × (index_at (0 ∷ 1 ∷ 1 ∷ 1 ∷ []) 0 ≡ Err (fault_of PastEnd 3))
    × (object_at example_index (record { offsets = 4; count = 2; size = 1 }) 1 ≡ Ok (record { start = 8; end = 10 }))
    × (object_at example_index (record { offsets = 4; count = 2; size = 1 }) 2 ≡ Err (fault_of Missing 4))

-- the number of a Font DICT by glyph, and by range
abbrev pub GlyphsHaveFontDicts : Type 0
GlyphsHaveFontDicts =
    (font_number (0 ∷ 5 ∷ 6 ∷ []) 0 1 ≡ Ok 6)
    × (font_number (3 ∷ 0 ∷ 2 ∷ 0 ∷ 0 ∷ 7 ∷ 0 ∷ 3 ∷ 8 ∷ 0 ∷ 9 ∷ []) 0 2 ≡ Ok 7)
    × (font_number (3 ∷ 0 ∷ 2 ∷ 0 ∷ 0 ∷ 7 ∷ 0 ∷ 3 ∷ 8 ∷ 0 ∷ 9 ∷ []) 0 3 ≡ Ok 8)
    × (font_number (3 ∷ 0 ∷ 2 ∷ 0 ∷ 0 ∷ 7 ∷ 0 ∷ 3 ∷ 8 ∷ 0 ∷ 9 ∷ []) 0 9 ≡ Err (fault_of Missing 0))

-- the numbers from 1 to 8, and a further one
abbrev pub eight : List ℤ
eight = pos 1 ∷ pos 2 ∷ pos 3 ∷ pos 4 ∷ pos 5 ∷ pos 6 ∷ pos 7 ∷ pos 8 ∷ []

-- each operator draws the lines and curves of Technical Note 5177
abbrev pub OperatorsDraw : Type 0
OperatorsDraw =
    (steps_of RLineTo (pos 1 ∷ pos 2 ∷ pos 3 ∷ pos 4 ∷ []) ≡ line (pos 1) (pos 2) ∷ line (pos 3) (pos 4) ∷ [])
    × (steps_of HLineTo (pos 1 ∷ pos 2 ∷ pos 3 ∷ []) ≡ line (pos 1) (pos 0) ∷ line (pos 0) (pos 2) ∷ line (pos 3) (pos 0) ∷ [])
    × (steps_of VLineTo (pos 1 ∷ pos 2 ∷ []) ≡ line (pos 0) (pos 1) ∷ line (pos 2) (pos 0) ∷ [])
    × (steps_of RRCurveTo (pos 1 ∷ pos 2 ∷ pos 3 ∷ pos 4 ∷ pos 5 ∷ pos 6 ∷ []) ≡ curve (pos 1) (pos 2) (pos 3) (pos 4) (pos 5) (pos 6) ∷ [])
    × (steps_of RCurveLine eight ≡ curve (pos 1) (pos 2) (pos 3) (pos 4) (pos 5) (pos 6) ∷ line (pos 7) (pos 8) ∷ [])
    × (steps_of RLineCurve eight ≡ line (pos 1) (pos 2) ∷ curve (pos 3) (pos 4) (pos 5) (pos 6) (pos 7) (pos 8) ∷ [])
    × (steps_of HHCurveTo (pos 1 ∷ pos 2 ∷ pos 3 ∷ pos 4 ∷ pos 5 ∷ []) ≡ curve (pos 2) (pos 1) (pos 3) (pos 4) (pos 5) (pos 0) ∷ [])
    × (steps_of VVCurveTo (pos 1 ∷ pos 2 ∷ pos 3 ∷ pos 4 ∷ pos 5 ∷ []) ≡ curve (pos 1) (pos 2) (pos 3) (pos 4) (pos 0) (pos 5) ∷ [])
    × (steps_of HVCurveTo (pos 1 ∷ pos 2 ∷ pos 3 ∷ pos 4 ∷ pos 5 ∷ []) ≡ curve (pos 1) (pos 0) (pos 2) (pos 3) (pos 5) (pos 4) ∷ [])
    × (steps_of VHCurveTo eight
    ≡ curve (pos 0) (pos 1) (pos 2) (pos 3) (pos 4) (pos 0) ∷ curve (pos 5) (pos 0) (pos 6) (pos 7) (pos 0) (pos 8) ∷ [])
    × (steps_of HFlex (pos 1 ∷ pos 2 ∷ pos 3 ∷ pos 4 ∷ pos 5 ∷ pos 6 ∷ pos 7 ∷ [])
    ≡ curve (pos 1) (pos 0) (pos 2) (pos 3) (pos 4) (pos 0) ∷ curve (pos 5) (pos 0) (pos 6) (negsuc 2) (pos 7) (pos 0) ∷ [])
    × (steps_of HFlex1 (eight ++ pos 9 ∷ [])
    ≡ curve (pos 1) (pos 2) (pos 3) (pos 4) (pos 5) (pos 0) ∷ curve (pos 6) (pos 0) (pos 7) (pos 8) (pos 9) (negsuc 13) ∷ [])
    × (steps_of Flex1 (eight ++ pos 9 ∷ pos 20 ∷ pos 3 ∷ [])
    ≡ curve (pos 1) (pos 2) (pos 3) (pos 4) (pos 5) (pos 6) ∷ curve (pos 7) (pos 8) (pos 9) (pos 20) (negsuc 24) (pos 3) ∷ [])

-- a table of a font with one glyph: a move by 10 and 20 behind a width, a flat line of 5, an upright one of 7 that is
-- drawn by a global subroutine, and the end
abbrev pub example_table : List ℕ
example_table =
    1 ∷ 0 ∷ 4 ∷ 1
    ∷ 0 ∷ 1 ∷ 1 ∷ 1 ∷ 2 ∷ 65
    ∷ 0 ∷ 1 ∷ 1 ∷ 1 ∷ 3 ∷ 167 ∷ 17
    ∷ 0 ∷ 0
    ∷ 0 ∷ 1 ∷ 1 ∷ 1 ∷ 4 ∷ 146 ∷ 7 ∷ 11
    ∷ 9
    ∷ 0 ∷ 2 ∷ 1 ∷ 1 ∷ 10 ∷ 11 ∷ 200 ∷ 149 ∷ 159 ∷ 21 ∷ 144 ∷ 6 ∷ 32 ∷ 29 ∷ 14 ∷ 11 ∷ []

-- a point of whole units
abbrev pub units : ℤ → ℤ → FixedPoint
units x y = point (x *ℤ pos 65536) (y *ℤ pos 65536)

-- what is drawn of its glyphs
abbrev pub GlyphsAreDrawn : Type 0
GlyphsAreDrawn =
    (after (charstrings_of example_table) (λ tables. outline_of tables 0)
    ≡ Ok (MoveTo (units (pos 10) (pos 20)) ∷ LineTo (units (pos 15) (pos 20)) ∷ LineTo (units (pos 15) (pos 27)) ∷ Close ∷ []))
    × (after (charstrings_of example_table) (λ tables. outline_of tables 1) ≡ Err (fault_of Missing 43))
    × (after (charstrings_of example_table) (λ tables. outline_of tables 2) ≡ Err (fault_of Missing 31))

-- a charstring without subroutines
abbrev pub alone : List ℕ → Result (List CubicSegment) Fault
alone cff =
    drawn_glyph (record {
      cff = cff;
      globals = record { offsets = 1; count = 0; size = 0 };
      locals = record { offsets = 1; count = 0; size = 0 };
    }) (record { start = 0; end = 8 })

-- stems and masks are passed over: a stem, another one in front of a mask of a byte, and the end; and each fault has its
-- place
abbrev pub FaultsHaveTheirPlaces : Type 0
FaultsHaveTheirPlaces =
    (alone (140 ∷ 140 ∷ 1 ∷ 140 ∷ 140 ∷ 19 ∷ 21 ∷ 14 ∷ []) ≡ Ok [])
    × (alone (140 ∷ 21 ∷ 14 ∷ 14 ∷ 14 ∷ 14 ∷ 14 ∷ 14 ∷ []) ≡ Err (fault_of PastEnd 1))
    × (alone (140 ∷ 12 ∷ 10 ∷ 14 ∷ 14 ∷ 14 ∷ 14 ∷ 14 ∷ []) ≡ Err (fault_of UnknownFormat 1))
    × (alone (140 ∷ 140 ∷ 140 ∷ 140 ∷ 14 ∷ 14 ∷ 14 ∷ 14 ∷ []) ≡ Err (fault_of UnknownFormat 4))
    × (alone (140 ∷ 10 ∷ 14 ∷ 14 ∷ 14 ∷ 14 ∷ 14 ∷ 14 ∷ []) ≡ Err (fault_of Missing 1))
    × (alone (139 ∷ 139 ∷ 21 ∷ 139 ∷ 6 ∷ 139 ∷ 28 ∷ 0 ∷ []) ≡ Err (fault_of PastEnd 6))

-- the numbers of subroutines count from the middle
abbrev pub SubroutinesAreBiased : Type 0
SubroutinesAreBiased =
    (bias_of 1239 ≡ pos 107) × (bias_of 1240 ≡ pos 1131) × (bias_of 33899 ≡ pos 1131) × (bias_of 33900 ≡ pos 32768)
