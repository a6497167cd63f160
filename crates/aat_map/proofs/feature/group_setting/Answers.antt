use Rattle.std.proofs.Common.{rules}
use Rattle.aat_map.proofs.feature.group_setting.Goals as goal

-- answered here, so that a wrong body is refused sooner
pub returns-else-info : goal.returns-else-info
returns-else-info c = search rules
