use Rattle.aat_cut_kinds.specs.facts.OpensKept.{runs_keep_opens}
use Rattle.aat_cut_kinds.proofs.kerning_laws.runs_keep_opens.Goals as goal

pub returns : goal.returns
returns c = runs_keep_opens
