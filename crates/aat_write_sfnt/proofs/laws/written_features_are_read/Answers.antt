use Rattle.aat_write_sfnt.proofs.FeaturesAgain.{written_features_are_read}
use Rattle.aat_write_sfnt.proofs.laws.written_features_are_read.Goals as goal

pub returns : goal.returns
returns c = written_features_are_read
