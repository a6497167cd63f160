use Rattle.std.proofs.Common.{arith}
use Rattle.aat_write_kerx.proofs.NoneFar.{row_is_near}
use Rattle.aat_write_kerx.proofs.classes.with_offsets.Goals as goal

pub overflow_mul-pair : goal.overflow_mul-pair
overflow_mul-pair c =
    omega (arith, row_is_near c.args.width c.args.pairs.now c.loop-pair.pair-index (0, 0) c.requires c.loop-pair-test.true)
