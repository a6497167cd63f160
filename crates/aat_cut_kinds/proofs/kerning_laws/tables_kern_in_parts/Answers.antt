use Rattle.aat_cut_kinds.specs.facts.KernedTables.{tables_kern_in_parts}
use Rattle.aat_cut_kinds.proofs.kerning_laws.tables_kern_in_parts.Goals as goal

pub returns : goal.returns
returns c = tables_kern_in_parts
