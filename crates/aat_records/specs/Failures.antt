-- How calls end.
use Rattle.std.specs.Prelude.{ℕ, Result, Ok, Err}
use Rattle.aat_run.specs.declared.error.AatError.TheVariants as shaper
use Rattle.aat_typesetter.specs.declared.error.TypesetError.{TypesetError}
use Rattle.aat_typesetter.specs.declared.error.TypesetError.TheVariants as typesetter
use Rattle.aat_records.specs.declared.failure.Failure.{Failure}
use Rattle.aat_records.specs.declared.failure.Failure.TheVariants.{NoFont, OutOfMemory, BadFont, BadText, TextTooLong, AlternateTooLarge, LineTooLong, BadFeature, BadOption, NotThere}

-- the numbers of the failures
abbrev pub number_of_failure : Failure → ℕ
number_of_failure NoFont = 1
number_of_failure OutOfMemory = 2
number_of_failure BadFont = 3
number_of_failure BadText = 4
number_of_failure TextTooLong = 5
number_of_failure AlternateTooLarge = 6
number_of_failure LineTooLong = 7
number_of_failure BadFeature = 8
number_of_failure BadOption = 9
number_of_failure NotThere = 10

-- what a refusal of the typesetter is
abbrev pub failure_of_typeset : TypesetError → Failure
failure_of_typeset typesetter.TextTooLong = TextTooLong
failure_of_typeset (typesetter.Refused (shaper.AaltValue value)) = AlternateTooLarge
failure_of_typeset (typesetter.Refused shaper.TooLong) = LineTooLong
failure_of_typeset (typesetter.Refused shaper.OutOfMemory) = OutOfMemory
failure_of_typeset (typesetter.Refused shaper.BufferFailed) = LineTooLong
failure_of_typeset typesetter.OutOfMemory = OutOfMemory

-- the number that C is told of an outcome, 0 where the call answers
abbrev pub number_of_outcome : {X : Type 0} → Result X Failure → ℕ
number_of_outcome (Ok answer) = 0
number_of_outcome (Err failure) = number_of_failure failure

-- how many there are, 0 where the call fails
abbrev pub count_of_outcome : Result ℕ Failure → ℕ
count_of_outcome (Ok count) = count
count_of_outcome (Err failure) = 0
