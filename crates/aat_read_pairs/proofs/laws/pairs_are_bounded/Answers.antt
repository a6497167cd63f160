use Rattle.aat_read_pairs.proofs.AddedUp.{class_values_are_bounded}
use Rattle.aat_read_pairs.proofs.RisingPairs.{kern_pairs_bounded, kerx_pairs_bounded}
use Rattle.aat_read_pairs.proofs.laws.pairs_are_bounded.Goals as goal

pub returns-clause-kern : goal.returns-clause-kern
returns-clause-kern c = kern_pairs_bounded

pub returns-clause-kerx : goal.returns-clause-kerx
returns-clause-kerx c = kerx_pairs_bounded

pub returns-clause-classes : goal.returns-clause-classes
returns-clause-classes c = class_values_are_bounded
