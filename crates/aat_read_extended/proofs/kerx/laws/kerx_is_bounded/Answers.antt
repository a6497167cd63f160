use Rattle.aat_read_extended.proofs.kerx.TableBounded.{kerx_bounded}
use Rattle.aat_read_extended.proofs.kerx.laws.kerx_is_bounded.Goals as goal

pub returns : goal.returns
returns c = kerx_bounded
