use Rattle.aat_findings.specs.Reached.{IsReached}
use Rattle.aat_findings.specs.inside.Marks.{AreAllReached, AreKept, AreMarks, IsFollowed, IsLonger}
use Rattle.aat_findings.proofs.reached.mark_row.Given as goal

abbrev pub invariant-loop-class : goal.invariant-loop-class
invariant-loop-class g l = record {
  marks : AreMarks l.marks l.order.items;
  kept : AreKept l.fn.marks l.marks;
  longer : IsLonger l.fn.order.items l.order.items;
  row : IsFollowed l.table l.marks l.state l.class;
  sound : IsReached l.table l.state → AreAllReached l.table l.fn.marks → AreAllReached l.table l.marks;
}
