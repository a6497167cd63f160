use Rattle.std.proofs.Common.{rules}
use Rattle.aat_kerning_machines.proofs.stack_values.give_across.Goals as goal

-- answered here, so that a wrong body is refused sooner
pub returns-then-pos-ne-UNATTACHED : goal.returns-then-pos-ne-UNATTACHED
returns-then-pos-ne-UNATTACHED g c = search rules

pub returns-else-pos-ne-UNATTACHED : goal.returns-else-pos-ne-UNATTACHED
returns-else-pos-ne-UNATTACHED g c = search rules
