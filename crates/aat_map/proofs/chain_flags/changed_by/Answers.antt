use Rattle.std.proofs.Common.{rules}
use Rattle.aat_map.proofs.chain_flags.changed_by.Goals as goal

-- answered here, so that a wrong body is refused sooner
pub returns-then-is_asked : goal.returns-then-is_asked
returns-then-is_asked c = search rules
