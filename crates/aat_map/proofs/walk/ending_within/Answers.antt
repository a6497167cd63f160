use Rattle.std.proofs.Common.{arith, false, slice_index_or}
use Rattle.std.proofs.lemmas.List.{append-nil}
use Rattle.std.proofs.lemmas.List.Elements.{filter_more}
use Rattle.aat_map.specs.declared.feature.feature_range_t.{feature_range_t}
use Rattle.aat_map.specs.inside.Walked.{ends_within}
use Rattle.aat_map.proofs.walk.ending_within.Goals as goal

pub loop-request-preserved : goal.loop-request-preserved
loop-request-preserved g c =
    let none : feature_range_t = record { info = record { kind = 0; setting = 0; is_exclusive = false }; start = 0; end = 0 } in
    let more = filter_more ends_within c.args.ordered.now c.loop-request.request-index none c.loop-request-test.true in
    grind (arith, more, append-nil)
