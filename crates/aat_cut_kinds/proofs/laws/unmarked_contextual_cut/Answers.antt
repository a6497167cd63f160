use Rattle.aat_cut_kinds.proofs.Cutting.{contextual_leaves_parts}
use Rattle.aat_cut_kinds.proofs.laws.unmarked_contextual_cut.Goals as goal

pub returns : goal.returns
returns c = contextual_leaves_parts
