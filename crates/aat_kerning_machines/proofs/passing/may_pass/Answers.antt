use Rattle.std.proofs.Common.{rules}
use Rattle.aat_kerning_machines.proofs.passing.may_pass.Goals as goal

-- answered here, so that a wrong body is refused sooner
pub returns-in-Some : goal.returns-in-Some
returns-in-Some g c = search rules
