use Rattle.aat_cut_kinds.specs.facts.TableOpens.{tables_keep_opens}
use Rattle.aat_cut_kinds.proofs.kerning_laws.tables_keep_opens.Goals as goal

pub returns : goal.returns
returns c = tables_keep_opens
