-- A table of anchor points that is written is read again. Apple's TrueType Reference Manual, "The 'ankr' table".
use Rattle.std.specs.Prelude.{◌≡◌, ℕ, ℤ, ◌<◌, List, All, Ok}
use Rattle.std.specs.Int.{w16}
use Rattle.std.specs.Int.RustNames.{FitsSigned}
use Rattle.aat_kerning_tables.specs.AnchorPoints.{Points}
use Rattle.aat_kerning_tables.specs.declared.ankr.Point.{Point}
use Rattle.aat_read_extended.specs.kerx.Anchors.{ankr_of}
use Rattle.aat_write_kerx.specs.AnkrBytes.{ankr_written}

-- a signed number has 16 bits
abbrev pub IsSigned : ℤ → Type 0
IsSigned number = FitsSigned w16 number

-- the numbers of a point have 16 bits each
abbrev pub IsPoint : Point → Type 0
IsPoint point = IsSigned point.x × IsSigned point.y

-- a glyph and the numbers of its points have 16 bits each
abbrev pub IsRow : ℕ × List Point → Type 0
IsRow row = (row.0 < 65536) × All IsPoint row.1

-- the reader gives the very rows that were written
abbrev pub WrittenPointsAreRead : Type 0
WrittenPointsAreRead =
    (points : Points) (bytes : List ℕ) (glyph_count : ℕ)
    → All IsRow points
    → ankr_written points ≡ Ok bytes
    → ankr_of bytes glyph_count ≡ Ok points
