use Rattle.aat_write_truetype.proofs.kern.KernAgain.{written_kern_is_read}
use Rattle.aat_write_truetype.proofs.kern.laws.written_kern_is_read.Goals as goal

pub returns : goal.returns
returns c = written_kern_is_read
