-- Why a text is not typeset.
use Rattle.std.specs.Prelude.{ℕ}
use Rattle.aat_run.specs.declared.error.AatError.{AatError}
use Rattle.aat_run.specs.declared.error.AatError.TheVariants as shaper
use Rattle.aat_text.specs.declared.error.TextError.{TextError}
use Rattle.aat_text.specs.declared.error.TextError.TheVariants as text
use Rattle.aat_typesetter.specs.declared.error.TypesetError.{TypesetError}
use Rattle.aat_typesetter.specs.declared.error.TypesetError.TheVariants.{TextTooLong, Refused, OutOfMemory}

-- the numbers of the errors
abbrev pub number_of_typeset_error : TypesetError → ℕ
number_of_typeset_error TextTooLong = 1
number_of_typeset_error (Refused error) = 2
number_of_typeset_error OutOfMemory = 3

-- what a refusal of the shaper is to a typesetter
abbrev pub error_of_shaper : AatError → TypesetError
error_of_shaper (shaper.AaltValue value) = Refused (shaper.AaltValue value)
error_of_shaper shaper.TooLong = Refused shaper.TooLong
error_of_shaper shaper.OutOfMemory = OutOfMemory
error_of_shaper shaper.BufferFailed = Refused shaper.BufferFailed

-- what a refusal of a text is
abbrev pub error_of_text : TextError → TypesetError
error_of_text text.TooLong = TextTooLong
error_of_text text.OutOfMemory = OutOfMemory

-- why a text is refused that may be too long, and for whose glyphs the shaper has these errors
abbrev pub RefusesTypesetting : Type 0 → (AatError → Type 0) → TypesetError → Type 0
RefusesTypesetting long refuses TextTooLong = long
RefusesTypesetting long refuses (Refused error) = refuses error
RefusesTypesetting long refuses OutOfMemory = Unit {0}
