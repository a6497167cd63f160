-- What a call that takes memory reads.
use Rattle.std.specs.Prelude.{◌≡◌, Result, Ok, Err}
use Rattle.aat_bytes.specs.declared.error.Fault.{Fault}
use Rattle.aat_bytes.specs.declared.error.ReadError.{ReadError}
use Rattle.aat_bytes.specs.declared.error.ReadError.TheVariants as errors

-- why nothing is read: a fault is that of the bytes, and want of memory says nothing of them
abbrev pub Refuses : {X : Type 0} → Result X Fault → ReadError → Type 0
Refuses read (errors.Fault fault) = read ≡ Err fault
Refuses read errors.OutOfMemory = Unit {0}

-- a call that takes memory makes of a value what the bytes say
abbrev pub Makes : {X S : Type 0} → Result X ReadError → Result S Fault → S → Type 0
Makes (Ok _) read made = read ≡ Ok made
Makes (Err e) read made = Refuses read e
