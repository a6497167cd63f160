use Rattle.aat_read_kern.proofs.TableBounded.{kern_bounded}
use Rattle.aat_read_kern.proofs.laws.kern_is_bounded.Goals as goal

pub returns : goal.returns
returns c = kern_bounded
