use Rattle.std.proofs.Common.{sym, ◌∙◌}
use Rattle.aat_lookup.specs.Keys.{first}
use Rattle.aat_lookup.specs.facts.Falls.{rising}
use Rattle.aat_kerning_tables.proofs.class_pairs.ClassPairs.new.Goals as goal

pub of_rising-requires-clause-left : goal.of_rising-requires-clause-left
of_rising-requires-clause-left g c = rising first c.args.left.now (sym c.first_fall.ensures ∙ c.in_default.is)

pub of_rising-requires-clause-right : goal.of_rising-requires-clause-right
of_rising-requires-clause-right g c = rising first c.args.right.now (sym c.first_fall-2.ensures ∙ c.in_default-first_fall.is)
