-- Why a kerning table is not written.
use Rattle.std.specs.Prelude.{◌≡◌, ℕ, List, Option, Some, None, Result, Ok, Err}
use Rattle.std.specs.declared.vec.Vec.{Vec}
use Rattle.aat_write_truetype.specs.declared.kern.error.KernWriteError.{KernWriteError}
use Rattle.aat_write_truetype.specs.declared.kern.error.KernWriteError.TheVariants.{TooManyPairs, ClassCount, RuleCount, TooLong, Class, Rule, Value, OutOfMemory, Variable}

-- the numbers of the errors
abbrev pub number_of_kern_error : KernWriteError → ℕ
number_of_kern_error TooManyPairs = 1
number_of_kern_error ClassCount = 2
number_of_kern_error RuleCount = 3
number_of_kern_error TooLong = 4
number_of_kern_error (Class place) = 5
number_of_kern_error (Rule place) = 6
number_of_kern_error (Value place) = 7
number_of_kern_error OutOfMemory = 8
number_of_kern_error Variable = 9

-- what comes of what is written, or the error that is there already
abbrev pub after_written :
    {X Y : Type 0} → Result X KernWriteError → (X → Result Y KernWriteError) → Result Y KernWriteError
after_written (Ok x) next = next x
after_written (Err e) next = Err e

-- what is not refused
abbrev pub unless_refused : {X : Type 0} → Option KernWriteError → X → Result X KernWriteError
unless_refused None x = Ok x
unless_refused (Some e) x = Err e

-- why nothing is written: the error of the table, or want of memory before it is met
abbrev pub RefusesWithin : {X : Type 0} → Result X KernWriteError → KernWriteError → Type 0
RefusesWithin written TooManyPairs = written ≡ Err TooManyPairs
RefusesWithin written ClassCount = written ≡ Err ClassCount
RefusesWithin written RuleCount = written ≡ Err RuleCount
RefusesWithin written TooLong = written ≡ Err TooLong
RefusesWithin written (Class place) = written ≡ Err (Class place)
RefusesWithin written (Rule place) = written ≡ Err (Rule place)
RefusesWithin written (Value place) = written ≡ Err (Value place)
RefusesWithin written OutOfMemory = Unit {0}
RefusesWithin written Variable = written ≡ Err Variable

-- a call that takes memory writes these bytes
abbrev pub Writes : {Z : Type 0} → Result (Vec ℕ Z) KernWriteError → Result (List ℕ) KernWriteError → Type 0
Writes (Ok out) written = written ≡ Ok out.items
Writes (Err e) written = RefusesWithin written e
