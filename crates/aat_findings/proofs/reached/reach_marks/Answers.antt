use Rattle.std.proofs.Common.{◌≡◌, List, ℕ, length, arith}
use Rattle.aat_findings.specs.inside.Marks.{AreReachMarks}
use Rattle.aat_findings.proofs.Marking.{written_back}
use Rattle.aat_findings.proofs.reached.reach_marks.Goals as goal

pub returns : goal.returns
returns g c =
    let found = c.in_ok-mark_all.ensures in
    let long : length c.mark_all.new.marks ≡ c.in_ok-marks.marks.len = omega (arith, found.long) in
    written_back (λ (l : List ℕ). AreReachMarks c.args.table.now l) c.in_ok-marks.marks.len c.mark_all.new.marks _ long found
