use Rattle.aat_cut_kinds.proofs.Cutting.{any_insertion_leaves_parts}
use Rattle.aat_cut_kinds.proofs.laws.any_unmarked_insertion_cut.Goals as goal

pub returns : goal.returns
returns c = any_insertion_leaves_parts
