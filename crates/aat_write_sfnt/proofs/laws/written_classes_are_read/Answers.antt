use Rattle.aat_write_sfnt.proofs.TablesAgain.{classes_are_read}
use Rattle.aat_write_sfnt.proofs.laws.written_classes_are_read.Goals as goal

pub returns : goal.returns
returns c = classes_are_read
