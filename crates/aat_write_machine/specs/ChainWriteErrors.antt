-- Why chains are not written.
use Rattle.std.specs.Prelude.{◌≡◌, ℕ, List, Result, Ok, Err, IsOk}
use Rattle.std.specs.declared.vec.Vec.{Vec}
use Rattle.aat_write_machine.specs.declared.error.MorxWriteError.{MorxWriteError}
use Rattle.aat_write_machine.specs.declared.error.MorxWriteError.TheVariants as subtable_errors
use Rattle.aat_write_machine.specs.declared.chain_error.ChainWriteError.{ChainWriteError}
use Rattle.aat_write_machine.specs.declared.chain_error.ChainWriteError.TheVariants.{Subtable, TooLong, TooManySubtables, OutOfMemory}

-- the numbers of the errors
abbrev pub number_of_chain_error : ChainWriteError → ℕ
number_of_chain_error (Subtable e) = 1
number_of_chain_error TooLong = 2
number_of_chain_error TooManySubtables = 3
number_of_chain_error OutOfMemory = 4

-- what the error of a subtable is here
abbrev pub error_of_subtable : MorxWriteError → ChainWriteError
error_of_subtable subtable_errors.OutOfMemory = OutOfMemory
error_of_subtable e = Subtable e

-- why nothing is written: the error of the chains, and want of memory only where they have none
abbrev pub Refuses : Result (List ℕ) ChainWriteError → ChainWriteError → Type 0
Refuses written (Subtable e) = written ≡ Err (Subtable e)
Refuses written TooLong = written ≡ Err TooLong
Refuses written TooManySubtables = written ≡ Err TooManySubtables
Refuses written OutOfMemory = IsOk written

-- a call that takes memory writes these bytes
abbrev pub Writes : {Z : Type 0} → Result (Vec ℕ Z) ChainWriteError → Result (List ℕ) ChainWriteError → Type 0
Writes (Ok out) written = written ≡ Ok out.items
Writes (Err e) written = Refuses written e

-- why nothing is written: the error of the table, or want of memory before it is met
abbrev pub RefusesWithin : Result (List ℕ) ChainWriteError → ChainWriteError → Type 0
RefusesWithin written (Subtable e) = written ≡ Err (Subtable e)
RefusesWithin written TooLong = written ≡ Err TooLong
RefusesWithin written TooManySubtables = written ≡ Err TooManySubtables
RefusesWithin written OutOfMemory = Unit {0}

-- a call that takes memory more than once writes these bytes
abbrev pub WritesWithin : {Z : Type 0} → Result (Vec ℕ Z) ChainWriteError → Result (List ℕ) ChainWriteError → Type 0
WritesWithin (Ok out) written = written ≡ Ok out.items
WritesWithin (Err e) written = RefusesWithin written e
