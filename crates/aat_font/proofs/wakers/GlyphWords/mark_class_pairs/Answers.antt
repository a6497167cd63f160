use Rattle.std.proofs.Common.{arith}
use Rattle.aat_font.specs.Idle.{is_idle_class}
use Rattle.aat_font.proofs.ClearBits.{clear_classes}
use Rattle.aat_font.proofs.wakers.GlyphWords.mark_class_pairs.Goals as goal

pub returns-clause-awake : goal.returns-clause-awake
returns-clause-awake g c =
    clear_classes c.args.pairs.now c.loop-pair.self c.args.bit (is_idle_class g.T.Resting.rests c.args.table.now)
    (λ i lt. c.loop-pair.invariant.marked i (omega (arith, c.loop-pair-test.false, lt)))
