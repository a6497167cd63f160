use Rattle.aat_cut_kinds.proofs.Cutting.{insertion_leaves_parts_at_fall}
use Rattle.aat_cut_kinds.proofs.laws.unmarked_falling_insertion_cut.Goals as goal

pub returns : goal.returns
returns c = insertion_leaves_parts_at_fall
