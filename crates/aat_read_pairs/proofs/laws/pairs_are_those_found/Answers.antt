use Rattle.aat_read_pairs.proofs.RisingPairs.{kern_pairs_are_those_found, kerx_pairs_are_those_found, rising_pairs_are_all}
use Rattle.aat_read_pairs.proofs.laws.pairs_are_those_found.Goals as goal

pub returns-clause-kern : goal.returns-clause-kern
returns-clause-kern c = kern_pairs_are_those_found

pub returns-clause-kerx : goal.returns-clause-kerx
returns-clause-kerx c = kerx_pairs_are_those_found

pub returns-clause-rising : goal.returns-clause-rising
returns-clause-rising c = rising_pairs_are_all
