use Rattle.aat_findings.specs.Alike.{AreTwins}
use Rattle.aat_findings.proofs.classes.classes_alike.Given as goal

abbrev pub invariant-loop-class : goal.invariant-loop-class
invariant-loop-class g l = AreTwins l.table l.pairs.items l.class
