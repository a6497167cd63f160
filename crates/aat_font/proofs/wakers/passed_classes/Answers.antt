use Rattle.std.proofs.Common.{◌≡◌, true, sym, subst, ◌∙◌, arith}
use Rattle.aat_font.specs.Idle.{is_idle_class}
use Rattle.aat_font.specs.inside.MarkedWords.{ArePassed}
use Rattle.aat_font.proofs.SegmentBits.{passed_more}
use Rattle.aat_font.proofs.wakers.passed_classes.Goals as goal
use Rattle.aat_font.proofs.wakers.passed_classes.Goals.{then-is_idle_class, else-is_idle_class}

pub loop-class-preserved : goal.loop-class-preserved
loop-class-preserved g c =
    let test = is_idle_class g.T.Resting.rests c.args.table.now in
    elim c.if-is_idle_class.branch [
      | then-is_idle_class w ↦
          let passes : test c.loop-class.class ≡ true = sym c.is_idle_class.ensures ∙ w.if-is_idle_class.true in
          subst (ArePassed test) (sym w.passed-is) (passed_more test c.loop-class.passed c.loop-class.class (omega arith) c.loop-class.invariant passes)
      | else-is_idle_class w ↦ subst (ArePassed test) (sym w.passed-is) c.loop-class.invariant
    ]
