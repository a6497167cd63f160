-- Worked examples of tables that are written. Apple's TrueType Reference Manual, "The 'ankr' table" and "The 'kerx'
-- table".
use Rattle.std.specs.Prelude.{◌≡◌, ℕ, List, [], ◌∷◌, ◌++◌, pos, negsuc, true, false, Result, Ok, Err}
use Rattle.aat_kerning_tables.specs.Classes.{ClassValues}
use Rattle.aat_kerning_tables.specs.declared.kerx.KerxFormat.{KerxFormat}
use Rattle.aat_kerning_tables.specs.declared.kerx.KerxFormat.TheVariants.{Format0, Format1, Format2Classes, Format6, Format6Classes}
use Rattle.aat_kerning_tables.specs.declared.kerx.KerxSubtable.{KerxSubtable}
use Rattle.aat_read_extended.specs.kerx.KerxExamples.{machine_with}
use Rattle.aat_write_kerx.specs.AnkrBytes.{ankr_written}
use Rattle.aat_write_kerx.specs.KerxBytes.{kerx_written}
use Rattle.aat_write_kerx.specs.declared.kerx_error.KerxWriteError.{KerxWriteError}
use Rattle.aat_write_kerx.specs.declared.kerx_error.KerxWriteError.TheVariants.{Subtable}
use Rattle.aat_write_kerx.specs.declared.subtable_error.SubtableWriteError.TheVariants.{Listed, HasTuples, NoColumns, TooFar, NoIndex, Variable}

-- the lookup of a glyph and a value
abbrev pub example_lookup : ℕ → ℕ → List ℕ
example_lookup glyph value =
    0 ∷ 6 ∷ 0 ∷ 4 ∷ 0 ∷ 2 ∷ 0 ∷ 0 ∷ 0 ∷ 0 ∷ 0 ∷ 0 ∷ 0 ∷ glyph ∷ 0 ∷ value ∷ 255 ∷ 255 ∷ 255 ∷ 255 ∷ []

-- glyph 3 has a point, and glyph 5 has none: the points start behind the lookup, and those of glyph 5 eight bytes on
abbrev pub PointsHaveTheirPlaces : Type 0
PointsHaveTheirPlaces =
    ankr_written ((3, record { x = pos 1; y = negsuc 0 } ∷ []) ∷ (5, []) ∷ []) ≡ Ok (
    (0 ∷ 0 ∷ 0 ∷ 0 ∷ 0 ∷ 0 ∷ 0 ∷ 12 ∷ 0 ∷ 0 ∷ 0 ∷ 36 ∷ [])
    ++ (0 ∷ 6 ∷ 0 ∷ 4 ∷ 0 ∷ 3 ∷ 0 ∷ 0 ∷ 0 ∷ 0 ∷ 0 ∷ 0 ∷ 0 ∷ 3 ∷ 0 ∷ 0 ∷ 0 ∷ 5 ∷ 0 ∷ 8 ∷ 255 ∷ 255 ∷ 255 ∷ 255 ∷ [])
    ++ (0 ∷ 0 ∷ 0 ∷ 1 ∷ 0 ∷ 1 ∷ 255 ∷ 255 ∷ 0 ∷ 0 ∷ 0 ∷ 0 ∷ []))

-- a subtable for vertical text, across the line
abbrev pub example_subtable : ℕ → KerxFormat → KerxSubtable
example_subtable tuple_count format = record {
  format = format;
  horizontal = false;
  has_cross_stream = true;
  variable = false;
  is_last_to_first = false;
  tuple_count = tuple_count;
}

-- what is written of one such subtable
abbrev pub written_example : ℕ → KerxFormat → Result (List ℕ) KerxWriteError
written_example tuple_count format = kerx_written (example_subtable tuple_count format ∷ [])

-- the header of a table of one subtable, and that of the subtable: its length, and its format
abbrev pub example_headers : ℕ → ℕ → List ℕ
example_headers size format =
    0 ∷ 2 ∷ 0 ∷ 0 ∷ 0 ∷ 0 ∷ 0 ∷ 1 ∷ 0 ∷ 0 ∷ 0 ∷ size ∷ 192 ∷ 0 ∷ 0 ∷ format ∷ 0 ∷ 0 ∷ 0 ∷ 0 ∷ []

-- one pair
abbrev pub PairsHaveTheirNumber : Type 0
PairsHaveTheirNumber =
    written_example 0 (Format0 ((1, 2, negsuc 0) ∷ [])) ≡ Ok (example_headers 34 0
    ++ (0 ∷ 0 ∷ 0 ∷ 1 ∷ 0 ∷ 0 ∷ 0 ∷ 0 ∷ 0 ∷ 0 ∷ 0 ∷ 0 ∷ 0 ∷ 0 ∷ 0 ∷ 0 ∷ 0 ∷ 1 ∷ 0 ∷ 2 ∷ 255 ∷ 255 ∷ []))

-- two classes of right glyphs and a class of a left glyph
abbrev pub example_classes : ℕ → ℕ → ClassValues
example_classes class count = record {
  left = (1, class) ∷ [];
  right = (2, 1) ∷ [];
  right_count = count;
  values = pos 0 ∷ pos 0 ∷ pos 0 ∷ negsuc 19 ∷ [];
}

-- class 1 of left glyphs has the row that starts at value 2
abbrev pub RowsHaveTheirOffsets : Type 0
RowsHaveTheirOffsets =
    (written_example 0 (Format2Classes (example_classes 1 2)) ≡ Ok (example_headers 76 2
    ++ (0 ∷ 0 ∷ 0 ∷ 4 ∷ 0 ∷ 0 ∷ 0 ∷ 28 ∷ 0 ∷ 0 ∷ 0 ∷ 48 ∷ 0 ∷ 0 ∷ 0 ∷ 68 ∷ [])
    ++ example_lookup 1 2 ++ example_lookup 2 1 ++ (0 ∷ 0 ∷ 0 ∷ 0 ∷ 0 ∷ 0 ∷ 255 ∷ 236 ∷ [])))
    × (written_example 0 (Format6Classes (example_classes 1 2)) ≡ Ok (example_headers 84 6
    ++ (0 ∷ 0 ∷ 0 ∷ 0 ∷ 0 ∷ 2 ∷ 0 ∷ 2 ∷ 0 ∷ 0 ∷ 0 ∷ 36 ∷ 0 ∷ 0 ∷ 0 ∷ 56 ∷ 0 ∷ 0 ∷ 0 ∷ 76 ∷ 0 ∷ 0 ∷ 0 ∷ 0 ∷ [])
    ++ example_lookup 1 2 ++ example_lookup 2 1 ++ (0 ∷ 0 ∷ 0 ∷ 0 ∷ 0 ∷ 0 ∷ 255 ∷ 236 ∷ [])))

-- a stack machine with an action
abbrev pub example_stack : ℕ → KerxFormat
example_stack action = Format1 (record { state_table = machine_with action; values = pos 5 ∷ negsuc 1 ∷ [] })

-- value 1 is named by 2 bytes
abbrev pub StackMachineHasItsValues : Type 0
StackMachineHasItsValues =
    written_example 0 (example_stack 1) ≡ Ok (example_headers 88 1
    ++ (0 ∷ 0 ∷ 0 ∷ 4 ∷ 0 ∷ 0 ∷ 0 ∷ 20 ∷ 0 ∷ 0 ∷ 0 ∷ 40 ∷ 0 ∷ 0 ∷ 0 ∷ 48 ∷ 0 ∷ 0 ∷ 0 ∷ 72 ∷ [])
    ++ example_lookup 5 3
    ++ (0 ∷ 0 ∷ 0 ∷ 1 ∷ 0 ∷ 2 ∷ 0 ∷ 3 ∷ [])
    ++ (0 ∷ 0 ∷ 128 ∷ 0 ∷ 0 ∷ 2 ∷ 0 ∷ 0 ∷ 128 ∷ 0 ∷ 0 ∷ 2 ∷ 0 ∷ 0 ∷ 128 ∷ 0 ∷ 0 ∷ 2 ∷ 0 ∷ 0 ∷ 128 ∷ 0 ∷ 0 ∷ 2 ∷ [])
    ++ (0 ∷ 5 ∷ 255 ∷ 254 ∷ []))

-- listed pairs of a format by classes, tuples, rows without values, a row that is too far, a value that is, and
-- variations, before listed pairs
abbrev pub SubtablesAreRefused : Type 0
SubtablesAreRefused =
    (kerx_written (example_subtable 0 (Format0 []) ∷ example_subtable 1 (Format6 []) ∷ []) ≡ Err (Subtable 1 Listed))
    × (written_example 1 (Format0 []) ≡ Err (Subtable 0 HasTuples))
    × (written_example 0 (Format2Classes (example_classes 1 0)) ≡ Err (Subtable 0 NoColumns))
    × (written_example 0 (Format6Classes (example_classes 32768 2)) ≡ Err (Subtable 0 (TooFar 0)))
    × (written_example 0 (example_stack 32768) ≡ Err (Subtable 0 (NoIndex 0)))
    × (kerx_written (record (example_subtable 1 (Format6 [])) { variable = true } ∷ []) ≡ Err (Subtable 0 Variable))
