-- The components of a composite glyph. Apple's TrueType Reference Manual, "The 'glyf' table".
use Rattle.std.specs.Prelude.{ℕ, zero, suc, ℤ, pos, ◌+◌, ◌*◌, ◌+ℤ◌, ◌*ℤ◌, ◌||◌, List, [], ◌∷◌, length, slice_index, Result, Ok, Err, if◌then◌else◌, nat_lt}
use Rattle.std.specs.Int.{cast_signed, int_div_euclid, saturate_to_bits, w8}
use Rattle.aat_bytes.specs.Faults.{after}
use Rattle.aat_bytes.specs.Numbers.{be16, signed16}
use Rattle.aat_bytes.specs.declared.error.Fault.{Fault}
use Rattle.aat_read_outlines.specs.Flags.{has}
use Rattle.aat_read_outlines.specs.Glyphs.{GlyphBytes, past}
use Rattle.aat_read_outlines.specs.declared.components.Component.{Component}
use Rattle.aat_read_outlines.specs.declared.components.Matrix.{Matrix}
use Rattle.aat_read_outlines.specs.declared.components.TheConstants.{ARE_WORDS, ARE_OFFSETS, HAS_SCALE, HAS_MORE, HAS_TWO_SCALES, HAS_MATRIX}
use Rattle.aat_read_outlines.specs.declared.outline.OutlinePoint.{OutlinePoint}

-- how many bytes each of the two arguments takes that stand behind the flags and the glyph
abbrev pub argument_size : ℕ → ℕ
argument_size flags = if has flags ARE_WORDS then 2 else 1

-- how many bytes the numbers of the matrix take behind the arguments
abbrev pub matrix_size : ℕ → ℕ
matrix_size flags =
    if has flags HAS_SCALE then 2 else
    if has flags HAS_TWO_SCALES then 4 else
    if has flags HAS_MATRIX then 8 else 0

-- how many bytes a component takes
abbrev pub component_size : ℕ → ℕ
component_size flags = 4 + 2 * argument_size flags + matrix_size flags

-- the offset in an argument. Where the arguments are the numbers of points that are to meet, the offset is 0
abbrev pub offset_at : List ℕ → ℕ → ℕ → ℤ
offset_at bytes place flags =
    if has flags ARE_OFFSETS
    then (if has flags ARE_WORDS
    then signed16 (be16 bytes place)
    else cast_signed w8 (slice_index bytes place))
    else pos 0

-- a signed number at a place, of which 16384 is 1
abbrev pub part_at : List ℕ → ℕ → ℤ
part_at bytes place = signed16 (be16 bytes place)

-- a matrix of two scales
abbrev pub scales : ℤ → ℤ → Matrix
scales x y = record { xx = x; yx = pos 0; xy = pos 0; yy = y }

-- the matrix at a place: one scale, two scales, or all four numbers
abbrev pub matrix_at : List ℕ → ℕ → ℕ → Matrix
matrix_at bytes place flags =
    if has flags HAS_SCALE then scales (part_at bytes place) (part_at bytes place) else
    if has flags HAS_TWO_SCALES then scales (part_at bytes place) (part_at bytes (place + 2)) else
    if has flags HAS_MATRIX then record {
      xx = part_at bytes place;
      yx = part_at bytes (place + 2);
      xy = part_at bytes (place + 4);
      yy = part_at bytes (place + 6);
    } else scales (pos 16384) (pos 16384)

-- the component at a place that has these flags
abbrev pub component_at : List ℕ → ℕ → ℕ → Component
component_at bytes place flags = record {
  glyph = be16 bytes (place + 2);
  matrix = matrix_at bytes (place + 4 + 2 * argument_size flags) flags;
  dx = offset_at bytes (place + 4) flags;
  dy = offset_at bytes (place + 4 + argument_size flags) flags;
}

-- the flags of the component at a place, if it is there as a whole
abbrev pub flags_at : GlyphBytes → ℕ → Result ℕ Fault
flags_at glyph place =
    if nat_lt (length glyph.bytes) (place + 4) || nat_lt (length glyph.bytes) (place + component_size (be16 glyph.bytes place))
    then Err (past glyph place)
    else Ok (be16 glyph.bytes place)

-- the components from a place on, up to so many: behind the last one none is said to be
abbrev pub components_from : GlyphBytes → ℕ → ℕ → Result (List Component) Fault
components_from glyph place zero = Ok []
components_from glyph place (suc limit) =
    after (flags_at glyph place) (λ flags.
    if has flags HAS_MORE
    then after (components_from glyph (place + component_size flags) limit) (λ rest.
    Ok (component_at glyph.bytes place flags ∷ rest))
    else Ok (component_at glyph.bytes place flags ∷ []))

-- a number of 16384ths, rounded to the nearest unit, halves up
abbrev pub nearest_unit : ℤ → ℤ
nearest_unit parts = int_div_euclid (parts +ℤ pos 8192) (pos 16384)

-- a coordinate of a point under a row of a matrix and an offset, as far as a signed number of 32 bits holds it
abbrev pub coordinate_of : ℤ → ℤ → ℤ → OutlinePoint → ℤ
coordinate_of first second offset point =
    saturate_to_bits 31 (nearest_unit (first *ℤ point.x +ℤ second *ℤ point.y +ℤ offset *ℤ pos 16384))

-- a point of a component's glyph, placed in the composite glyph
abbrev pub placed : Component → OutlinePoint → OutlinePoint
placed component point = record {
  x = coordinate_of component.matrix.xx component.matrix.xy component.dx point;
  y = coordinate_of component.matrix.yx component.matrix.yy component.dy point;
  is_on_curve = point.is_on_curve;
}
