use Rattle.aat_write_machine.proofs.FeatAgain.{written_feats_are_read}
use Rattle.aat_write_machine.proofs.laws.written_feats_are_read.Goals as goal

pub returns : goal.returns
returns c = written_feats_are_read
