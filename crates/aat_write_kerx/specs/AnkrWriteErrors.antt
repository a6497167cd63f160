-- Why a table of anchor points is not written.
use Rattle.std.specs.Prelude.{◌≡◌, ℕ, List, Result, Ok, Err}
use Rattle.std.specs.declared.vec.Vec.{Vec}
use Rattle.aat_write_machine.specs.declared.write_error.WriteError.{WriteError}
use Rattle.aat_write_machine.specs.declared.write_error.WriteError.TheVariants as lookup_errors
use Rattle.aat_write_kerx.specs.declared.ankr_error.AnkrWriteError.{AnkrWriteError}
use Rattle.aat_write_kerx.specs.declared.ankr_error.AnkrWriteError.TheVariants.{TooFar, TooManyPoints, Lookup, OutOfMemory}

-- the numbers of the errors
abbrev pub number_of_ankr_error : AnkrWriteError → ℕ
number_of_ankr_error (TooFar place) = 1
number_of_ankr_error (TooManyPoints place) = 2
number_of_ankr_error (Lookup e) = 3
number_of_ankr_error OutOfMemory = 4

-- what the error of the lookup is here
abbrev pub error_of_lookup : WriteError → AnkrWriteError
error_of_lookup lookup_errors.OutOfMemory = OutOfMemory
error_of_lookup e = Lookup e

-- why nothing is written: the error of the table, or want of memory before it is met
abbrev pub RefusesWithin : Result (List ℕ) AnkrWriteError → AnkrWriteError → Type 0
RefusesWithin written (TooFar place) = written ≡ Err (TooFar place)
RefusesWithin written (TooManyPoints place) = written ≡ Err (TooManyPoints place)
RefusesWithin written (Lookup e) = written ≡ Err (Lookup e)
RefusesWithin written OutOfMemory = Unit {0}

-- a call that takes memory more than once writes these bytes
abbrev pub WritesWithin : {Z : Type 0} → Result (Vec ℕ Z) AnkrWriteError → Result (List ℕ) AnkrWriteError → Type 0
WritesWithin (Ok out) written = written ≡ Ok out.items
WritesWithin (Err e) written = RefusesWithin written e
