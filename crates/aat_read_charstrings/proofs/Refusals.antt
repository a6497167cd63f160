-- What refuses a call that another call stands on.
use Rattle.std.proofs.Common.{◌≡◌, Result, Err}
use Rattle.aat_bytes.specs.declared.error.Fault.{Fault}
use Rattle.aat_bytes.specs.declared.error.ReadError.{ReadError}
use Rattle.aat_bytes.specs.declared.error.ReadError.TheVariants as errors
use Rattle.aat_read_charstrings.specs.Reading.{Refuses}

-- where each fault of the inner bytes is one of the outer, so is each refusal
pub refused_by :
    {X Y : Type 0} (inner : Result X Fault) (outer : Result Y Fault)
    → ((fault : Fault) → inner ≡ Err fault → outer ≡ Err fault)
    → (error : ReadError) → Refuses inner error → Refuses outer error
refused_by inner outer passes (errors.Fault fault) is = passes fault is
refused_by inner outer passes errors.OutOfMemory is = tt
