use Rattle.std.proofs.Common.{sym, ◌∙◌}
use Rattle.aat_kerning_tables.specs.Pairs.{key_of_pair}
use Rattle.aat_lookup.specs.facts.Falls.{rising}
use Rattle.aat_kerning_tables.proofs.pairs.Pairs.new.Goals as goal

pub over-requires : goal.over-requires
over-requires g c = rising key_of_pair c.args.pairs.now (sym c.first_fall.ensures ∙ c.in_default.is)

pub invariant_of-result : goal.invariant_of-result
invariant_of-result g c =
    let none = sym c.first_fall.ensures ∙ c.in_default.is in
    rw c.in_ok-from_slice.ensures.items (rising key_of_pair c.args.pairs.now none, c.in_ok-over.ensures.starts, c.in_ok-over.ensures.rights)
