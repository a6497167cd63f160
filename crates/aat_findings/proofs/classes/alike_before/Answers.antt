use borrow.Author.Count.{below_more}
use Rattle.aat_findings.specs.Alike.{AreAlike}
use Rattle.aat_findings.proofs.classes.alike_before.Goals as goal

pub loop-before-preserved : goal.loop-before-preserved
loop-before-preserved g c =
    below_more (λ j. AreAlike c.args.table.now j c.args.class → ⊥) c.loop-before.before c.loop-before.invariant (c.are_alike.ensures.not c.if-are_alike.false)
