use Rattle.aat_write_machine.proofs.TablesAgain.{written_chains_are_read}
use Rattle.aat_write_machine.proofs.laws.written_chains_are_read.Goals as goal

pub returns : goal.returns
returns c = written_chains_are_read
