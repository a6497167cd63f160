use Rattle.std.proofs.Common.{rules}
use Rattle.aat_lookup.proofs.class_array.ClassArray.class.Goals as goal

-- answered here, so that a wrong body is refused sooner
pub returns-in-Some : goal.returns-in-Some
returns-in-Some g c = search rules

pub returns-in-None : goal.returns-in-None
returns-in-None g c = search rules
