-- Why a text is refused, where it cannot be too long.
use Rattle.std.proofs.Common.{Err, Ok, Result}
use Rattle.std.specs.Prelude.{IfErr}
use Rattle.aat_run.specs.declared.error.AatError.{AatError}
use Rattle.aat_typesetter.specs.TypesetErrors.{RefusesTypesetting}
use Rattle.aat_typesetter.specs.declared.error.TypesetError.{TypesetError}
use Rattle.aat_typesetter.specs.declared.error.TypesetError.TheVariants.{TextTooLong, Refused, OutOfMemory}

-- a text that may be too long is refused for the same errors
pub refused_besides :
    (long : Type 0) (refuses : AatError → Type 0) (error : TypesetError)
    → RefusesTypesetting ⊥ refuses error → RefusesTypesetting long refuses error
refused_besides long refuses TextTooLong h = absurd h
refused_besides long refuses (Refused error) h = h
refused_besides long refuses OutOfMemory h = h

-- so is a result
pub results_besides :
    {V : Type 0} (long : Type 0) (refuses : AatError → Type 0) (result : Result V TypesetError)
    → IfErr result (RefusesTypesetting ⊥ refuses) → IfErr result (RefusesTypesetting long refuses)
results_besides long refuses (Ok v) h = h
results_besides long refuses (Err error) h = refused_besides long refuses error h
