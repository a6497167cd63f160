use Rattle.aat_write_machine.proofs.ListsAgain.{insertions_are_read}
use Rattle.aat_write_machine.proofs.laws.insertions_are_read.Goals as goal

pub returns : goal.returns
returns c = insertions_are_read c.machines_are_read.ensures
