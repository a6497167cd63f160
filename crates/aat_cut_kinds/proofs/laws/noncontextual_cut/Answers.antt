use Rattle.aat_cut_kinds.proofs.Cutting.{noncontextual_leaves_parts}
use Rattle.aat_cut_kinds.proofs.laws.noncontextual_cut.Goals as goal

pub returns : goal.returns
returns c = noncontextual_leaves_parts
