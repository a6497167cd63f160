use Rattle.std.proofs.Common.{◌∙◌, ◌<◌, ap, length}
use Rattle.aat_run.specs.Ranges.{is_whole_list}
use Rattle.aat_map.proofs.MapLemmas.{all_step}
use Rattle.aat_map.proofs.map.hb_aat_map_t.is_whole.Goals as goal

pub returns-then-not-is_whole_list : goal.returns-then-not-is_whole_list
returns-then-not-is_whole_list g c =
    let old = c.self.inside.chain_flags.items in
    let i = c.loop-ranges.ranges-index in
    let read = rw c.deref-ranges-items.ensures.value at c.ranges-item.is in
    let below : i < length old = rw c.deref-ranges-items.ensures.value at c.loop-ranges-test.true in
    let tested = c.if-not-is_whole_list.ensures ∙ ap is_whole_list c.deref.ensures.value in
    all_step is_whole_list old c.args.self.now i c.ranges-item.result _ c.self.view_is below read tested c.loop-ranges.invariant

pub loop-ranges-preserved : goal.loop-ranges-preserved
loop-ranges-preserved g c =
    let old = c.self.inside.chain_flags.items in
    let i = c.loop-ranges.ranges-index in
    let read = rw c.deref-ranges-items.ensures.value at c.ranges-item.is in
    let below : i < length old = rw c.deref-ranges-items.ensures.value at c.loop-ranges-test.true in
    let tested = c.if-not-is_whole_list.ensures ∙ ap is_whole_list c.deref.ensures.value in
    all_step is_whole_list old c.args.self.now i c.ranges-item.result _ c.self.view_is below read tested c.loop-ranges.invariant
