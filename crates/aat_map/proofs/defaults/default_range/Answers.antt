use Rattle.std.proofs.Common.{rules}
use Rattle.aat_map.proofs.defaults.default_range.Goals as goal

-- answered here, so that a wrong body is refused sooner
pub returns : goal.returns
returns c = search rules
