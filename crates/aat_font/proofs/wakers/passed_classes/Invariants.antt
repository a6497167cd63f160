use Rattle.aat_font.specs.Idle.{is_idle_class}
use Rattle.aat_font.specs.inside.MarkedWords.{ArePassed}
use Rattle.aat_font.proofs.wakers.passed_classes.Given as goal

abbrev pub invariant-loop-class : goal.invariant-loop-class
invariant-loop-class g l = ArePassed (is_idle_class g.T.Resting.rests l.table) l.passed
