use Rattle.aat_write_sfnt.proofs.TrakAgain.{written_tracks_are_read}
use Rattle.aat_write_sfnt.proofs.laws.written_tracks_are_read.Goals as goal

pub returns : goal.returns
returns c = written_tracks_are_read
