use Rattle.aat_cut_kinds.proofs.Cutting.{backward_insertion_leaves_parts}
use Rattle.aat_cut_kinds.proofs.laws.unmarked_backward_insertion_cut.Goals as goal

pub returns : goal.returns
returns c = backward_insertion_leaves_parts
