use Rattle.aat_cut_kinds.specs.facts.KernedInOrder.{runs_leave_parts}
use Rattle.aat_cut_kinds.proofs.kerning_laws.runs_leave_parts.Goals as goal

pub returns : goal.returns
returns c = runs_leave_parts
