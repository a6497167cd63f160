use Rattle.aat_cut_kinds.proofs.Bridge.{any_settled_backward_insertion_leaves_parts}
use Rattle.aat_cut_kinds.proofs.laws.any_settled_backward_insertion_cut.Goals as goal

pub returns : goal.returns
returns c = any_settled_backward_insertion_leaves_parts
