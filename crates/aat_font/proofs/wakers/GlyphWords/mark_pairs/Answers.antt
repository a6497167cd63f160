use Rattle.std.proofs.Common.{arith}
use Rattle.aat_font.proofs.ClearBits.{clear_values}
use Rattle.aat_font.proofs.wakers.GlyphWords.mark_pairs.Goals as goal

pub returns-clause-awake : goal.returns-clause-awake
returns-clause-awake c =
    clear_values c.args.pairs.now c.loop-pair.self c.args.bit (λ i lt. c.loop-pair.invariant.marked i (omega (arith, c.loop-pair-test.false, lt)))
