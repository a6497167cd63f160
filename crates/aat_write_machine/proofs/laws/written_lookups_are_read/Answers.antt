use Rattle.aat_write_machine.proofs.ReadAgain.{written_lookups_are_read}
use Rattle.aat_write_machine.proofs.laws.written_lookups_are_read.Goals as goal

pub returns : goal.returns
returns c = written_lookups_are_read
