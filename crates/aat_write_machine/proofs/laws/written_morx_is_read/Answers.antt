use Rattle.aat_write_machine.proofs.MorxAgain.{written_morx_is_read}
use Rattle.aat_write_machine.proofs.laws.written_morx_is_read.Goals as goal

pub returns : goal.returns
returns c = written_morx_is_read c.subtable_kinds_are_read.ensures
