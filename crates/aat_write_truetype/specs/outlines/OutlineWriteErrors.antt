-- Why outlines are not written.
use Rattle.std.specs.Prelude.{◌≡◌, ℕ, List, None, Result, Ok, Err}
use Rattle.aat_read_outlines.specs.Outlines.{PointLists}
use Rattle.aat_write_truetype.specs.outlines.Tables.{Written, error_of, outlines_written}
use Rattle.aat_write_truetype.specs.declared.outlines.error.OutlineWriteError.{OutlineWriteError}
use Rattle.aat_write_truetype.specs.declared.outlines.error.OutlineWriteError.TheVariants.{TooMany, TooManyContours, FarPoint, FarStep, TooLong, OutOfMemory}

-- the numbers of the errors
abbrev pub number_of_outline_error : OutlineWriteError → ℕ
number_of_outline_error TooMany = 1
number_of_outline_error (TooManyContours outline) = 2
number_of_outline_error (FarPoint outline) = 3
number_of_outline_error (FarStep outline) = 4
number_of_outline_error TooLong = 5
number_of_outline_error OutOfMemory = 6

-- why nothing is written: the first error of the outlines, and want of memory only where they have none
abbrev pub Refuses : List PointLists → OutlineWriteError → Type 0
Refuses outlines TooMany = outlines_written outlines ≡ Err TooMany
Refuses outlines (TooManyContours outline) = outlines_written outlines ≡ Err (TooManyContours outline)
Refuses outlines (FarPoint outline) = outlines_written outlines ≡ Err (FarPoint outline)
Refuses outlines (FarStep outline) = outlines_written outlines ≡ Err (FarStep outline)
Refuses outlines TooLong = outlines_written outlines ≡ Err TooLong
Refuses outlines OutOfMemory = error_of outlines ≡ None

-- a call that takes memory writes these tables
abbrev pub Writes : Result Written OutlineWriteError → List PointLists → Type 0
Writes (Ok written) outlines = outlines_written outlines ≡ Ok written
Writes (Err error) outlines = Refuses outlines error
