use Rattle.std.proofs.Common.{◌∙◌, ap, Bool, List, get_or, map}
use Rattle.aat_layout.specs.Switches.{meets}
use Rattle.aat_layout.specs.range_flags_t.{range_flags_t}
use Rattle.aat_inspection.specs.Inspected.{TableLine, table_line}
use Rattle.aat_inspection.proofs.Lines.{lines_more}
use Rattle.aat_inspection.proofs.ranges.add_chain.Goals as goal

pub loop-range-preserved : goal.loop-range-preserved
loop-range-preserved c =
    let none : range_flags_t = record { flags = 0; cluster_first = 0; cluster_last = 0 } in
    let r : range_flags_t = get_or c.args.ranges.now c.loop-range.range-index none in
    let on =
    c.in_ok-subtables_on.ensures.ok ∙ ap (λ ss. map (λ s. meets r.flags s.feature_flags) ss) c.deref.ensures.value
    in
    let line : List Bool → TableLine = λ bs. record {
      chain = c.args.place;
      first = r.cluster_first;
      last = r.cluster_last;
      flags = r.flags;
      on = bs;
    } in
    lines_more c.args.place c.args.chain.now c.args.ranges.now c.loop-range.range-index none c.loop-range.inspected.items
    c.push.new.self.items (map table_line c.args.inspected.now.items) _ c.loop-range-test.true (ap line on)
    c.in_ok-push.ensures.items c.loop-range.invariant
