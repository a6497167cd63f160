use Rattle.std.proofs.Common.{rules}
use Rattle.aat_kerning_machines.proofs.driver1.give_listed.Goals as goal

-- answered here, so that a wrong body is refused sooner
pub returns : goal.returns
returns g c = search rules
