use Rattle.aat_cut_kinds.proofs.Cutting.{insertion_leaves_parts}
use Rattle.aat_cut_kinds.proofs.laws.unmarked_insertion_cut.Goals as goal

pub returns : goal.returns
returns c = insertion_leaves_parts
