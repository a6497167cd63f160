-- Why a part of `morx` is not written.
use Rattle.std.specs.Prelude.{◌≡◌, ℕ, List, Option, Some, None, Result, Ok, Err}
use Rattle.std.specs.declared.vec.Vec.{Vec}
use Rattle.aat_write_machine.specs.declared.write_error.WriteError.{WriteError}
use Rattle.aat_write_machine.specs.declared.write_error.WriteError.TheVariants as lookup_errors
use Rattle.aat_write_machine.specs.declared.error.MorxWriteError.{MorxWriteError}
use Rattle.aat_write_machine.specs.declared.error.MorxWriteError.TheVariants.{FewClasses, TooManyRules, OutOfPlace, NoRow, NotNamed, NotRising, TooManyPairs, LookupCount, TooManyLookups, TooLong, OutOfMemory}

-- the numbers of the errors
abbrev pub number_of_morx_error : MorxWriteError → ℕ
number_of_morx_error FewClasses = 1
number_of_morx_error TooManyRules = 2
number_of_morx_error (OutOfPlace place) = 3
number_of_morx_error (NoRow place) = 4
number_of_morx_error (NotNamed state) = 5
number_of_morx_error (NotRising place) = 6
number_of_morx_error TooManyPairs = 7
number_of_morx_error (LookupCount count) = 8
number_of_morx_error TooManyLookups = 9
number_of_morx_error TooLong = 10
number_of_morx_error OutOfMemory = 11

-- what the error of a lookup is here
abbrev pub error_of_lookup : WriteError → MorxWriteError
error_of_lookup (lookup_errors.NotRising place) = NotRising place
error_of_lookup lookup_errors.TooMany = TooManyPairs
error_of_lookup lookup_errors.OutOfMemory = OutOfMemory

-- the bytes of a lookup, or what its error is here
abbrev pub of_lookup : Result (List ℕ) WriteError → Result (List ℕ) MorxWriteError
of_lookup (Ok bytes) = Ok bytes
of_lookup (Err e) = Err (error_of_lookup e)

-- what comes of what is written, or the error that is there already
abbrev pub after_written :
    {X Y : Type 0} → Result X MorxWriteError → (X → Result Y MorxWriteError) → Result Y MorxWriteError
after_written (Ok x) next = next x
after_written (Err e) next = Err e

-- what is not refused
abbrev pub unless_refused : {X : Type 0} → Option MorxWriteError → Result X MorxWriteError → Result X MorxWriteError
unless_refused None written = written
unless_refused (Some e) written = Err e

-- why nothing is written: the error of the table, or want of memory before it is met
abbrev pub RefusesWithin : {X : Type 0} → Result X MorxWriteError → MorxWriteError → Type 0
RefusesWithin written FewClasses = written ≡ Err FewClasses
RefusesWithin written TooManyRules = written ≡ Err TooManyRules
RefusesWithin written (OutOfPlace place) = written ≡ Err (OutOfPlace place)
RefusesWithin written (NoRow place) = written ≡ Err (NoRow place)
RefusesWithin written (NotNamed state) = written ≡ Err (NotNamed state)
RefusesWithin written (NotRising place) = written ≡ Err (NotRising place)
RefusesWithin written TooManyPairs = written ≡ Err TooManyPairs
RefusesWithin written (LookupCount count) = written ≡ Err (LookupCount count)
RefusesWithin written TooManyLookups = written ≡ Err TooManyLookups
RefusesWithin written TooLong = written ≡ Err TooLong
RefusesWithin written OutOfMemory = Unit {0}

-- a call that takes memory writes these bytes
abbrev pub Writes : {Z : Type 0} → Result (Vec ℕ Z) MorxWriteError → Result (List ℕ) MorxWriteError → Type 0
Writes (Ok out) written = written ≡ Ok out.items
Writes (Err e) written = RefusesWithin written e
