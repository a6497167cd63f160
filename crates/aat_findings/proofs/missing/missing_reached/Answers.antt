use Rattle.std.proofs.Common.{List, ℕ, subst, sym}
use Rattle.aat_findings.specs.inside.Marks.{AreReachMarks}
use Rattle.aat_findings.proofs.Wanting.{none_missing}
use Rattle.aat_findings.proofs.missing.missing_reached.Goals as goal

pub returns-in-Some-clause-some : goal.returns-in-Some-clause-some
returns-in-Some-clause-some g c =
    let table = c.args.table.now in
    let are : AreReachMarks table c.as_slice-of_marks.result.now = subst (λ (l : List ℕ). AreReachMarks table l) (sym c.as_slice-of_marks.ensures.value) c.in_ok-marks.ensures in
    let here = c.in-Some.ensures.some in
    (are.sound _ here.0, here.1)

pub returns-clause-none : goal.returns-clause-none
returns-clause-none g c =
    let table = c.args.table.now in
    let are : AreReachMarks table c.as_slice-of_marks.result.now = subst (λ (l : List ℕ). AreReachMarks table l) (sym c.as_slice-of_marks.ensures.value) c.in_ok-marks.ensures in
    none_missing table c.as_slice-of_marks.result.now are c.in-None.ensures.none
