use Rattle.aat_findings.specs.inside.Marks.{AreAllReached, AreFollowed, AreKept, AreMarks}
use Rattle.aat_findings.proofs.reached.mark_each.Given as goal

abbrev pub invariant-loop-place : goal.invariant-loop-place
invariant-loop-place g l = record {
  marks : AreMarks l.marks l.order.items;
  kept : AreKept l.fn.marks l.marks;
  sound : AreAllReached l.table l.marks;
  followed : AreFollowed l.table l.marks l.order.items l.place;
}
