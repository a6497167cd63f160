use Rattle.std.proofs.Common.{rules}
use Rattle.aat_kerning_machines.specs.Stack.{kern_act}
use Rattle.aat_kerning_machines.proofs.state_machine_driver.StateMachineDriver.act.Goals as goal

-- answered here, so that a wrong body is refused sooner
pub returns-then-from-len : goal.returns-then-from-len
unfolding kern_act
returns-then-from-len g c = search rules
