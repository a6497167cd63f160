-- The tables of outlines. Apple's TrueType Reference Manual, "The 'glyf' table" and "The 'loca' table".
use Rattle.std.specs.Prelude.{ℕ, ◌+◌, List, [], ◌∷◌, length, map, take, not, Bool, Option, Some, None, Result, Ok, Err, if◌then◌else◌, nat_lt}
use Rattle.std.specs.List.{flat_map, list_all, range_with_len}
use Rattle.std.specs.Option.{option_or}
use Rattle.aat_read_outlines.specs.Outlines.{PointLists}
use Rattle.aat_write_machine.specs.Words.{long_bytes}
use Rattle.aat_write_truetype.specs.outlines.GlyphData.{are_short_steps, glyph_data, is_near, origin}
use Rattle.aat_write_truetype.specs.declared.outlines.error.OutlineWriteError.{OutlineWriteError}
use Rattle.aat_write_truetype.specs.declared.outlines.error.OutlineWriteError.TheVariants.{TooMany, TooManyContours, FarPoint, FarStep, TooLong}

-- whether an outline has more contours than a signed number of 16 bits counts
abbrev pub has_many_contours : PointLists → Bool
has_many_contours outline = nat_lt 32767 (length outline.ends)

-- whether an outline has a coordinate of more than 16 bits, and such a step
abbrev pub has_far_point : PointLists → Bool
has_far_point outline = not (list_all is_near outline.points)

abbrev pub has_far_step : PointLists → Bool
has_far_step outline = not (are_short_steps origin outline.points)

-- the first error of the outline at an index
abbrev pub error_in : ℕ → PointLists → Option OutlineWriteError
error_in index outline =
    if has_many_contours outline then Some (TooManyContours index) else
    if has_far_point outline then Some (FarPoint index) else
    if has_far_step outline then Some (FarStep index) else None

-- the error of the first outline that has one, where the first one is at an index
abbrev pub first_error : ℕ → List PointLists → Option OutlineWriteError
first_error index [] = None
first_error index (outline ∷ outlines) = option_or (error_in index outline) (first_error (index + 1) outlines)

-- the error of outlines
abbrev pub error_of : List PointLists → Option OutlineWriteError
error_of outlines = if nat_lt 65535 (length outlines) then Some TooMany else first_error 0 outlines

-- the data of all glyphs
abbrev pub glyf_bytes : List PointLists → List ℕ
glyf_bytes outlines = flat_map glyph_data outlines

-- the offset of an outline, and that behind the last one
abbrev pub offset_of : List PointLists → ℕ → ℕ
offset_of outlines index = length (glyf_bytes (take index outlines))

-- the offsets of all outlines, of 32 bits
abbrev pub loca_bytes : List PointLists → List ℕ
loca_bytes outlines = long_bytes (map (offset_of outlines) (range_with_len 0 (length outlines + 1)))

-- the two tables
pub record Written : Type 0 where
  pub glyf : List ℕ
  pub loca : List ℕ

-- what is written of outlines, or their first error
abbrev pub outlines_written : List PointLists → Result Written OutlineWriteError
outlines_written outlines = elim (error_of outlines) [
  | Some error ↦ Err error
  | None ↦
      if nat_lt 4294967295 (length (glyf_bytes outlines))
      then Err TooLong
      else Ok (record { glyf = glyf_bytes outlines; loca = loca_bytes outlines })
]
