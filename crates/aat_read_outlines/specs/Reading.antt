-- What a call that takes memory reads.
use Rattle.std.specs.Prelude.{◌≡◌, Result, Ok, Err}
use Rattle.aat_bytes.specs.declared.error.Fault.{Fault}
use Rattle.aat_bytes.specs.declared.error.ReadError.{ReadError}
use Rattle.aat_bytes.specs.declared.error.ReadError.TheVariants as errors

-- why nothing is read: a fault is that of the bytes, and want of memory says nothing of them
abbrev pub Refuses : {X : Type 0} → Result X Fault → ReadError → Type 0
Refuses read (errors.Fault fault) = read ≡ Err fault
Refuses read errors.OutOfMemory = Unit {0}

-- a call that takes memory gives what the bytes say
abbrev pub Gives : {X : Type 0} → Result X ReadError → Result X Fault → Type 0
Gives (Ok x) read = read ≡ Ok x
Gives (Err e) read = Refuses read e
