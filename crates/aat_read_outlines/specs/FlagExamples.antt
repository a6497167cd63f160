-- Worked examples of flags: which bit of the number each is. Apple's TrueType Reference Manual, "The 'glyf' table".
use Rattle.std.specs.Prelude.{◌≡◌, ◌^◌, ℕ}
use Rattle.aat_read_outlines.specs.declared.components.TheConstants.{ARE_WORDS, ARE_OFFSETS, HAS_SCALE, HAS_MORE, HAS_TWO_SCALES, HAS_MATRIX}
use Rattle.aat_read_outlines.specs.declared.flags.TheConstants.{ON_CURVE, X_SHORT, Y_SHORT, REPEAT, X_SAME, Y_SAME}

-- a flag is this bit alone, the lowest of them 0
abbrev pub IsBit : ℕ → ℕ → Type 0
IsBit bit flag = flag ≡ 2 ^ bit

-- the flags of a point
pub record PointFlagsAreBits : Type 0 where
  pub on_curve : IsBit 0 ON_CURVE
  pub x_short : IsBit 1 X_SHORT
  pub y_short : IsBit 2 Y_SHORT
  pub repeat : IsBit 3 REPEAT
  pub x_same : IsBit 4 X_SAME
  pub y_same : IsBit 5 Y_SAME

-- the flags of a component
pub record ComponentFlagsAreBits : Type 0 where
  pub are_words : IsBit 0 ARE_WORDS
  pub are_offsets : IsBit 1 ARE_OFFSETS
  pub has_scale : IsBit 3 HAS_SCALE
  pub has_more : IsBit 5 HAS_MORE
  pub has_two_scales : IsBit 6 HAS_TWO_SCALES
  pub has_matrix : IsBit 7 HAS_MATRIX
