use Rattle.aat_write_machine.proofs.ListsAgain.{ligatures_are_read}
use Rattle.aat_write_machine.proofs.laws.ligatures_are_read.Goals as goal

pub returns : goal.returns
returns c = ligatures_are_read c.machines_are_read.ensures
