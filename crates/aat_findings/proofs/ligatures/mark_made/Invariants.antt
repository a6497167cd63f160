use Rattle.std.proofs.Common.{◌≡◌, length}
use Rattle.aat_findings.specs.inside.Making.{AreMarksOf, IsCarried, IsStored}
use Rattle.aat_findings.proofs.ligatures.mark_made.Given as goal

abbrev pub invariant-loop-place : goal.invariant-loop-place
invariant-loop-place l = record {
  sums_long : length l.sums ≡ length l.subtable.ligatures;
  made_long : length l.made ≡ length l.subtable.ligatures;
  sums : AreMarksOf (IsCarried l.subtable l.place) l.sums;
  made : AreMarksOf (IsStored l.subtable l.place) l.made;
}
