-- Why tracks are refused.
use Rattle.std.specs.Prelude.{ℕ}
use Rattle.aat_glyph.specs.declared.placement.error.TrackingError.{TrackingError}
use Rattle.aat_glyph.specs.declared.placement.error.TrackingError.TheVariants.{TooManyTracks, TooManySizes, ValueCount}

-- the numbers of the errors
abbrev pub number_of_tracking_error : TrackingError → ℕ
number_of_tracking_error TooManyTracks = 1
number_of_tracking_error TooManySizes = 2
number_of_tracking_error ValueCount = 3
