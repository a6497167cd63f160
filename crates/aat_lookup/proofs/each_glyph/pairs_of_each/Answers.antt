use Rattle.std.proofs.Common.{arith}
use Rattle.aat_lookup.proofs.EachValues.{each_pair}
use Rattle.aat_lookup.proofs.each_glyph.pairs_of_each.Goals as goal

pub returns : goal.returns
returns g c =
    each_pair c.args.values.now c.loop-place.pairs.items c.loop-place.invariant.long
    (λ k lt. c.loop-place.invariant.written k (omega arith))
