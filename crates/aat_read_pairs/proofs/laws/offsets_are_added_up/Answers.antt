use Rattle.aat_read_pairs.proofs.AddedUp.{offsets_are_added_up}
use Rattle.aat_read_pairs.proofs.laws.offsets_are_added_up.Goals as goal

pub returns : goal.returns
returns c = offsets_are_added_up
