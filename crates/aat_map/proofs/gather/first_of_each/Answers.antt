use Rattle.std.proofs.Common.{slice_index_or, false}
use Rattle.std.proofs.lemmas.List.{get_or_default}
use Rattle.aat_map.specs.declared.feature.feature_range_t.{feature_range_t}
use Rattle.aat_map.proofs.KeptFirsts.{group_more}
use Rattle.aat_map.proofs.gather.first_of_each.Goals as goal

pub loop-request-preserved : goal.loop-request-preserved
loop-request-preserved g c =
    let none : feature_range_t = record { info = record { kind = 0; setting = 0; is_exclusive = false }; start = 0; end = 0 } in
    let list = c.args.requests.now in
    let r = slice_index_or list c.loop-request.request-index none in
    group_more list c.loop-request.groups.items c.push_first.new.firsts.items r c.loop-request.request-index c.loop-request-test.true (get_or_default list c.loop-request.request-index none r c.loop-request-test.true) c.loop-request.invariant c.in_ok-push_first.ensures.ok
