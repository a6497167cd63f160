use Rattle.std.proofs.Common.{sym, ◌∙◌}
use Rattle.aat_lookup.proofs.SegmentFalls.{in_order}
use Rattle.aat_lookup.proofs.lookup.Lookup.from_segments.Goals as goal

pub invariant_of-result : goal.invariant_of-result
invariant_of-result g c =
    rw c.in_ok-from_slice.ensures.items (in_order c.args.segments.now (sym c.first_segment_fall.ensures ∙ c.in_default.is))
