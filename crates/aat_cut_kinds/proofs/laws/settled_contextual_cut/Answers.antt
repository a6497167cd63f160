use Rattle.aat_cut_kinds.proofs.Bridge.{settled_contextual_leaves_parts}
use Rattle.aat_cut_kinds.proofs.laws.settled_contextual_cut.Goals as goal

pub returns : goal.returns
returns c = settled_contextual_leaves_parts
