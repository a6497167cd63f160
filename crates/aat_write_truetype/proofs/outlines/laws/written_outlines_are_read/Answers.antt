use Rattle.aat_write_truetype.proofs.outlines.OutlinesAgain.{written_outlines_are_read}
use Rattle.aat_write_truetype.proofs.outlines.laws.written_outlines_are_read.Goals as goal

pub returns : goal.returns
returns c = written_outlines_are_read
