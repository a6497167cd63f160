-- Why a table is not written.
use Rattle.std.specs.Prelude.{◌≡◌, ℕ, List, ◌++◌, Bool, Option, Some, None, Result, Ok, Err, IsOk, if◌then◌else◌}
use Rattle.std.specs.declared.vec.Vec.{Vec}
use Rattle.aat_write_machine.specs.declared.write_error.WriteError.{WriteError}
use Rattle.aat_write_machine.specs.declared.write_error.WriteError.TheVariants.{NotRising, TooMany, OutOfMemory}

-- the numbers of the errors
abbrev pub number_of_write_error : WriteError → ℕ
number_of_write_error (NotRising place) = 1
number_of_write_error TooMany = 2
number_of_write_error OutOfMemory = 3

-- bytes of elements that have to rise, given the place of their first fall and whether they are too many
abbrev pub unless_refused : Option ℕ → Bool → List ℕ → Result (List ℕ) WriteError
unless_refused (Some place) many bytes = Err (NotRising place)
unless_refused None many bytes = if many then Err TooMany else Ok bytes

-- why nothing is written: the error of the table, and want of memory only where it has none
abbrev pub Refuses : Result (List ℕ) WriteError → WriteError → Type 0
Refuses written (NotRising place) = written ≡ Err (NotRising place)
Refuses written TooMany = written ≡ Err TooMany
Refuses written OutOfMemory = IsOk written

-- a call that takes memory writes these bytes
abbrev pub Writes : {Z : Type 0} → Result (Vec ℕ Z) WriteError → Result (List ℕ) WriteError → Type 0
Writes (Ok out) written = written ≡ Ok out.items
Writes (Err e) written = Refuses written e

-- what was there and what is written behind it
abbrev pub behind : List ℕ → Result (List ℕ) WriteError → Result (List ℕ) WriteError
behind front (Ok bytes) = Ok (front ++ bytes)
behind front (Err e) = Err e

-- why nothing is appended: what was there stays as it was, but where memory is wanting
abbrev pub RefusesBehind : List ℕ → List ℕ → Result (List ℕ) WriteError → WriteError → Type 0
RefusesBehind old new written (NotRising place) = (written ≡ Err (NotRising place)) × (new ≡ old)
RefusesBehind old new written TooMany = (written ≡ Err TooMany) × (new ≡ old)
RefusesBehind old new written OutOfMemory = IsOk written

-- a call that takes memory appends these bytes
abbrev pub Appends : {U : Type 0} → Result U WriteError → List ℕ → List ℕ → Result (List ℕ) WriteError → Type 0
Appends (Ok done) old new written = behind old written ≡ Ok new
Appends (Err e) old new written = RefusesBehind old new written e
