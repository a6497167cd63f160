use Rattle.aat_read_pairs.proofs.RisingPairs.{kern_pairs_rise, kerx_pairs_rise}
use Rattle.aat_read_pairs.proofs.laws.pairs_rise.Goals as goal

pub returns-clause-kern : goal.returns-clause-kern
returns-clause-kern c = kern_pairs_rise

pub returns-clause-kerx : goal.returns-clause-kerx
returns-clause-kerx c = kerx_pairs_rise
