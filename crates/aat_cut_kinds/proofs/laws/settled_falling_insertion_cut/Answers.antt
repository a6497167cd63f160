use Rattle.aat_cut_kinds.proofs.Bridge.{settled_insertion_leaves_parts_at_fall}
use Rattle.aat_cut_kinds.proofs.laws.settled_falling_insertion_cut.Goals as goal

pub returns : goal.returns
returns c = settled_insertion_leaves_parts_at_fall
