use Rattle.std.proofs.Common.{ℕ, ◌+◌}
use Rattle.aat_lookup.proofs.SegmentsAppended.{one_more}
use Rattle.aat_lookup.proofs.segments.append_segment.Goals as goal

pub loop-k-preserved : goal.loop-k-preserved
loop-k-preserved g c =
    let pair : ℕ → ℕ × ℕ = λ k. (c.args.segment.first_glyph + k, c.args.segment.value) in
    one_more pair c.args.pairs.now.items c.loop-k.pairs.items c.push.new.self.items c.loop-k.k c.loop-k.invariant c.in_ok-push.ensures.items
