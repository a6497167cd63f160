use Rattle.std.proofs.Common.{sym, ◌∙◌, ap, List}
use Rattle.aat_run.specs.Ranges.{flags_in}
use Rattle.aat_run.specs.declared.ranges.range_flags_t.{range_flags_t}
use Rattle.aat_run.specs.facts.Held.{flags_there}
use Rattle.aat_map.proofs.map.hb_aat_map_t.flags_at.Goals as goal

pub returns-then-ends_at_last : goal.returns-then-ends_at_last
returns-then-ends_at_last g c =
    let none : range_flags_t = record { flags = 0; cluster_first = 0; cluster_last = 0 } in
    let there = c.range_of-place.ensures in
    sym (flags_there c.ranges-ranges.result.now c.range_of-place.result.0 c.args.cluster none c.ranges-ranges.ensures.gapless there.within there.place)
    ∙ ap (λ (ranges : List range_flags_t). flags_in ranges c.args.cluster) c.ranges-ranges.ensures.list
