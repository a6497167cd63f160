use Rattle.aat_cut_kinds.specs.facts.KernedInOrder.{runs_keep_parts}
use Rattle.aat_cut_kinds.proofs.kerning_laws.runs_keep_parts.Goals as goal

pub returns : goal.returns
returns c = runs_keep_parts
