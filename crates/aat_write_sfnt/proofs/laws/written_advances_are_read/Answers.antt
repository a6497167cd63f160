use Rattle.aat_write_sfnt.proofs.TablesAgain.{advances_are_read}
use Rattle.aat_write_sfnt.proofs.laws.written_advances_are_read.Goals as goal

pub returns : goal.returns
returns c = advances_are_read
