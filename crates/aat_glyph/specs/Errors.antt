-- Why a call of the buffer is refused.
use Rattle.std.specs.Prelude.{ℕ}
use Rattle.aat_glyph.specs.declared.error.BufferError.{BufferError}
use Rattle.aat_glyph.specs.declared.error.BufferError.TheVariants.{TooLong, OutOfMemory}

-- the number of an error
abbrev pub error_number : BufferError → ℕ
error_number TooLong = 1
error_number OutOfMemory = 2
