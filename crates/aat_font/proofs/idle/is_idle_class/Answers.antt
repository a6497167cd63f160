use Rattle.std.proofs.Common.{rules}
use Rattle.aat_font.proofs.idle.is_idle_class.Goals as goal

-- answered here, so that a wrong body is refused sooner
pub returns-in-None : goal.returns-in-None
returns-in-None g c = search rules
