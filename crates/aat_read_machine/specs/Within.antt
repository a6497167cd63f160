-- What a call gives that takes memory more than once.
use Rattle.std.specs.Prelude.{◌≡◌, Result, Ok, Err}
use Rattle.aat_bytes.specs.declared.error.Fault.{Fault}
use Rattle.aat_bytes.specs.declared.error.ReadError.{ReadError}
use Rattle.aat_bytes.specs.declared.error.ReadError.TheVariants as errors

-- why bytes make no table: their first fault, or want of memory before it is met
abbrev pub RefusesWithin : {X : Type 0} → Result X Fault → ReadError → Type 0
RefusesWithin read (errors.Fault fault) = read ≡ Err fault
RefusesWithin read errors.OutOfMemory = Unit {0}

-- a call gives what the bytes say, or wants memory
abbrev pub GivesWithin : {X : Type 0} → Result X ReadError → Result X Fault → Type 0
GivesWithin (Ok x) read = read ≡ Ok x
GivesWithin (Err e) read = RefusesWithin read e

-- a call gives what the bytes say, as it is seen by a view, or wants memory before their first fault is met
abbrev pub GivesAs : {X Y : Type 0} → (X → Y) → Result X ReadError → Result Y Fault → Type 0
GivesAs view (Ok x) read = read ≡ Ok (view x)
GivesAs view (Err e) read = RefusesWithin read e
