use Rattle.std.proofs.Common.{sym, ◌∙◌}
use Rattle.aat_lookup.specs.Keys.{first}
use Rattle.aat_lookup.specs.facts.Falls.{rising}
use Rattle.aat_lookup.proofs.lookup.Lookup.new.Goals as goal

pub of_rising-requires : goal.of_rising-requires
of_rising-requires g c = rising first c.args.pairs.now (sym c.first_fall.ensures ∙ c.in_default.is)
