use Rattle.aat_write_machine.proofs.ContextualAgain.{contextuals_are_read}
use Rattle.aat_write_machine.proofs.laws.contextuals_are_read.Goals as goal

pub returns : goal.returns
returns c = contextuals_are_read c.written_lookups_are_read.ensures c.machines_are_read.ensures
