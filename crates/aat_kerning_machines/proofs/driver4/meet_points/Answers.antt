use Rattle.std.proofs.Common.{rules}
use Rattle.aat_kerning_machines.proofs.driver4.meet_points.Goals as goal

-- answered here, so that a wrong body is refused sooner
pub returns-clause-standing : goal.returns-clause-standing
returns-clause-standing g c = search rules
