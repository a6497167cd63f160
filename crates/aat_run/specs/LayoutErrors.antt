-- The numbers of the layer's errors.
use Rattle.std.specs.Prelude.{ℕ}
use Rattle.aat_glyph.specs.declared.error.BufferError.{BufferError}
use Rattle.aat_glyph.specs.declared.error.BufferError.TheVariants as buffer
use Rattle.aat_run.specs.declared.error.AatError.{AatError}
use Rattle.aat_run.specs.declared.error.AatError.TheVariants.{AaltValue, TooLong, OutOfMemory, BufferFailed}

-- 1 for a value of alternates that is no setting, 2 for a line that would be too long, 3 for want of memory, 4 for
-- a buffer that had failed before
abbrev pub number_of_aat_error : AatError → ℕ
number_of_aat_error (AaltValue value) = 1
number_of_aat_error TooLong = 2
number_of_aat_error OutOfMemory = 3
number_of_aat_error BufferFailed = 4

-- what a refusal of a buffer's call is to a run
abbrev pub error_of_buffer : BufferError → AatError
error_of_buffer buffer.TooLong = TooLong
error_of_buffer buffer.OutOfMemory = OutOfMemory
