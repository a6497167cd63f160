use Rattle.std.proofs.Common.{rules}
use Rattle.aat_kerning_machines.proofs.driver4.Driver4.anchor.Goals as goal

-- answered here, so that a wrong body is refused sooner
pub returns-in-None-clause-missing : goal.returns-in-None-clause-missing
returns-in-None-clause-missing g c = search rules
