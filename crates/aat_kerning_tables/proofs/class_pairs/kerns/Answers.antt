use Rattle.std.proofs.Common.{arith}
use Rattle.std.proofs.lemmas.Int.{ints}
use Rattle.aat_kerning_tables.proofs.ClassRows.{zero_below, zero_more}
use Rattle.aat_kerning_tables.proofs.class_pairs.kerns.Goals as goal

pub loop-right-init : goal.loop-right-init
loop-right-init c right lt = absurd (omega arith)

pub loop-right-preserved : goal.loop-right-preserved
loop-right-preserved c =
    zero_more c.args.values.now c.args.right_count c.args.left c.loop-right.right c.loop-right.invariant c.value_at.result c.value_at.ensures (omega (arith, ints, c.if-value_at-ne0.false, c.value_at.type_inv))

pub returns : goal.returns
returns c told =
    zero_below c.args.values.now c.args.right_count c.args.left c.loop-right.right c.loop-right.invariant c.loop-right-test.false
