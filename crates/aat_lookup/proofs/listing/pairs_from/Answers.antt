use Rattle.std.proofs.Common.{ℕ, ◌+◌, [], get_or}
use Rattle.aat_lookup.proofs.SegmentsAppended.{one_more}
use Rattle.aat_lookup.proofs.listing.pairs_from.Goals as goal

pub loop-k-preserved : goal.loop-k-preserved
loop-k-preserved g c =
    let pair : ℕ → ℕ × ℕ = λ k. (c.args.lowest + k, get_or c.args.values.now k 0) in
    one_more pair [] c.loop-k.pairs.items c.push.new.self.items c.loop-k.k c.loop-k.invariant c.in_ok-push.ensures.items
