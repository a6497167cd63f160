use Rattle.std.proofs.Common.{ap, ◌∙◌}
use Rattle.aat_lookup.specs.Keys.{first, first_fall}
use Rattle.aat_lookup.specs.facts.Falls.{rising}
use Rattle.aat_read_lookup.specs.Kept.{kept_value}
use Rattle.aat_read_lookup.proofs.LayoutsRise.{layout_pairs_rise}
use Rattle.aat_read_lookup.proofs.lookup.listed_lookup.Goals as goal

pub of_rising_list-requires : goal.of_rising_list-requires
of_rising_list-requires g c =
    rising first _
    (ap (first_fall first) c.in_ok-pairs.ensures
    ∙ layout_pairs_rise c.args.bytes.now (kept_value c.args.bytes.now c.args.keep) c.args.layout c.requires.sound)
