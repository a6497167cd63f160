use Rattle.aat_cut_kinds.proofs.Cutting.{reversed_leaves_parts}
use Rattle.aat_cut_kinds.proofs.laws.reversed_cut.Goals as goal

pub returns : goal.returns
returns c = reversed_leaves_parts
