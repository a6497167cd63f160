-- Why a text is refused.
use Rattle.std.specs.Prelude.{ℕ}
use Rattle.aat_text.specs.declared.error.TextError.{TextError}
use Rattle.aat_text.specs.declared.error.TextError.TheVariants.{TooLong, OutOfMemory}

-- the numbers of the errors
abbrev pub number_of_text_error : TextError → ℕ
number_of_text_error TooLong = 1
number_of_text_error OutOfMemory = 2
