-- Why a tracking table is not written.
use Rattle.std.specs.Prelude.{◌≡◌, ℕ, List, Result, Ok, Err, IsOk}
use Rattle.std.specs.declared.vec.Vec.{Vec}
use Rattle.aat_write_sfnt.specs.declared.trak.error.TrakWriteError.{TrakWriteError}
use Rattle.aat_write_sfnt.specs.declared.trak.error.TrakWriteError.TheVariants.{TooMany, RowValues, ColumnsTooFar, ColumnValues, OutOfMemory}

-- the numbers of the errors
abbrev pub number_of_trak_error : TrakWriteError → ℕ
number_of_trak_error TooMany = 1
number_of_trak_error (RowValues track) = 2
number_of_trak_error ColumnsTooFar = 3
number_of_trak_error (ColumnValues track) = 4
number_of_trak_error OutOfMemory = 5

-- why nothing is written: the error of the table, and want of memory only where it has none
abbrev pub Refuses : Result (List ℕ) TrakWriteError → TrakWriteError → Type 0
Refuses written TooMany = written ≡ Err TooMany
Refuses written (RowValues track) = written ≡ Err (RowValues track)
Refuses written ColumnsTooFar = written ≡ Err ColumnsTooFar
Refuses written (ColumnValues track) = written ≡ Err (ColumnValues track)
Refuses written OutOfMemory = IsOk written

-- a call that takes memory writes these bytes
abbrev pub Writes : {Z : Type 0} → Result (Vec ℕ Z) TrakWriteError → Result (List ℕ) TrakWriteError → Type 0
Writes (Ok out) written = written ≡ Ok out.items
Writes (Err e) written = Refuses written e
