-- Why an extended kerning table is not written.
use Rattle.std.specs.Prelude.{◌≡◌, ℕ, List, Result, Ok, Err}
use Rattle.std.specs.declared.vec.Vec.{Vec}
use Rattle.aat_write_machine.specs.declared.write_error.WriteError.{WriteError}
use Rattle.aat_write_machine.specs.declared.write_error.WriteError.TheVariants as pair_errors
use Rattle.aat_write_machine.specs.declared.error.MorxWriteError.{MorxWriteError}
use Rattle.aat_write_machine.specs.declared.error.MorxWriteError.TheVariants as machine_errors
use Rattle.aat_write_kerx.specs.declared.kerx_error.KerxWriteError.{KerxWriteError}
use Rattle.aat_write_kerx.specs.declared.kerx_error.KerxWriteError.TheVariants as table_errors
use Rattle.aat_write_kerx.specs.declared.subtable_error.SubtableWriteError.{SubtableWriteError}
use Rattle.aat_write_kerx.specs.declared.subtable_error.SubtableWriteError.TheVariants.{Listed, HasTuples, Pairs, NoColumns, TooFar, NoIndex, Machine, OutOfMemory, Variable}

-- the numbers of the errors of a subtable
abbrev pub number_of_subtable_error : SubtableWriteError → ℕ
number_of_subtable_error Listed = 1
number_of_subtable_error HasTuples = 2
number_of_subtable_error (Pairs e) = 3
number_of_subtable_error NoColumns = 4
number_of_subtable_error (TooFar place) = 5
number_of_subtable_error (NoIndex place) = 6
number_of_subtable_error (Machine e) = 7
number_of_subtable_error OutOfMemory = 8
number_of_subtable_error Variable = 9

-- the numbers of the errors of a table
abbrev pub number_of_kerx_error : KerxWriteError → ℕ
number_of_kerx_error (table_errors.Subtable number e) = 1
number_of_kerx_error table_errors.TooLong = 2
number_of_kerx_error table_errors.OutOfMemory = 3

-- what the error of pairs is here
abbrev pub error_of_pairs : WriteError → SubtableWriteError
error_of_pairs pair_errors.OutOfMemory = OutOfMemory
error_of_pairs e = Pairs e

-- what the error of a machine is here
abbrev pub error_of_machine : MorxWriteError → SubtableWriteError
error_of_machine machine_errors.OutOfMemory = OutOfMemory
error_of_machine e = Machine e

-- what the error of the subtable of a number is here
abbrev pub error_of_subtable : ℕ → SubtableWriteError → KerxWriteError
error_of_subtable number OutOfMemory = table_errors.OutOfMemory
error_of_subtable number e = table_errors.Subtable number e

-- what is written of pairs, or what their error is here
abbrev pub of_pairs : {X : Type 0} → Result X WriteError → Result X SubtableWriteError
of_pairs (Ok x) = Ok x
of_pairs (Err e) = Err (error_of_pairs e)

-- what is written of a machine, or what its error is here
abbrev pub of_machine : {X : Type 0} → Result X MorxWriteError → Result X SubtableWriteError
of_machine (Ok x) = Ok x
of_machine (Err e) = Err (error_of_machine e)

-- what is written of the subtable of a number, or what its error is here
abbrev pub of_subtable : {X : Type 0} → ℕ → Result X SubtableWriteError → Result X KerxWriteError
of_subtable number (Ok x) = Ok x
of_subtable number (Err e) = Err (error_of_subtable number e)

-- what comes of what is written, or the error that is there already
abbrev pub after_written : {E X Y : Type 0} → Result X E → (X → Result Y E) → Result Y E
after_written (Ok x) next = next x
after_written (Err e) next = Err e

-- why a subtable is not written: its error, or want of memory before it is met
abbrev pub RefusesWithin : {X : Type 0} → Result X SubtableWriteError → SubtableWriteError → Type 0
RefusesWithin written OutOfMemory = Unit {0}
RefusesWithin written e = written ≡ Err e

-- a call that takes memory writes these bytes
abbrev pub Writes : {Z : Type 0} → Result (Vec ℕ Z) SubtableWriteError → Result (List ℕ) SubtableWriteError → Type 0
Writes (Ok out) written = written ≡ Ok out.items
Writes (Err e) written = RefusesWithin written e

-- why a table is not written: its error, or want of memory before it is met
abbrev pub TableRefusesWithin : {X : Type 0} → Result X KerxWriteError → KerxWriteError → Type 0
TableRefusesWithin written table_errors.OutOfMemory = Unit {0}
TableRefusesWithin written e = written ≡ Err e

-- a call that takes memory writes this table
abbrev pub WritesTable : {Z : Type 0} → Result (Vec ℕ Z) KerxWriteError → Result (List ℕ) KerxWriteError → Type 0
WritesTable (Ok out) written = written ≡ Ok out.items
WritesTable (Err e) written = TableRefusesWithin written e
