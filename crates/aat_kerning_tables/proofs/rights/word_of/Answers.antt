use Rattle.std.proofs.Common.{pos, arith}
use Rattle.aat_kerning_tables.proofs.RightBits.{bits_more, keys_told}
use Rattle.aat_kerning_tables.proofs.rights.word_of.Goals as goal

pub loop-pair-preserved : goal.loop-pair-preserved
loop-pair-preserved c =
    rw c.bit_of-word.ensures (bits_more c.loop-pair.word c.key.result c.args.pairs.now c.loop-pair.pair-index (0, 0, pos 0) c.loop-pair-test.true c.key.ensures c.loop-pair.invariant)

pub returns : goal.returns
returns c =
    keys_told c.loop-pair.word c.args.pairs.now (λ i d lt. c.loop-pair.invariant i d (omega (arith, c.loop-pair-test.false)))
