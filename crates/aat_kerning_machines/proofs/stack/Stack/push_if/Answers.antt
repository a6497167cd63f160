use Rattle.std.proofs.Common.{rules}
use Rattle.aat_kerning_machines.proofs.stack.Stack.push_if.Goals as goal

-- answered here, so that a wrong body is refused sooner
pub returns-then-does_push : goal.returns-then-does_push
returns-then-does_push c = search rules
