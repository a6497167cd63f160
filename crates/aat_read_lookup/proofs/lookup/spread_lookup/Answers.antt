use Rattle.std.proofs.Common.{rules, ap, ◌∙◌}
use Rattle.aat_lookup.specs.Segments.{first_segment_fall}
use Rattle.aat_read_lookup.proofs.KeptPairs.{spread_pairs}
use Rattle.aat_read_lookup.proofs.LayoutsRise.{layout_segments_rise}
use Rattle.aat_read_lookup.proofs.lookup.spread_lookup.Goals as goal

pub lookup_of_segments-requires : goal.lookup_of_segments-requires
lookup_of_segments-requires g c =
    ap first_segment_fall (c.deref.ensures.value ∙ c.in_ok-segments.ensures)
    ∙ layout_segments_rise c.args.bytes.now c.args.keep c.args.layout c.requires.sound

pub returns : goal.returns
returns g c =
    let same = spread_pairs c.args.bytes.now c.args.keep c.args.layout in
    search (rules, same)
