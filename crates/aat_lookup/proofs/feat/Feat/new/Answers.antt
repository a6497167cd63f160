use Rattle.std.proofs.Common.{sym, ◌∙◌}
use Rattle.aat_lookup.specs.FeatureNames.{kind_of}
use Rattle.aat_lookup.specs.facts.Falls.{rising}
use Rattle.aat_lookup.proofs.feat.Feat.new.Goals as goal

pub invariant_of-result : goal.invariant_of-result
invariant_of-result g c =
    let none = sym c.first_fall.ensures ∙ c.in_default.is in
    rw c.in_ok-from_slice.ensures.items (rising kind_of c.args.names.now none)
