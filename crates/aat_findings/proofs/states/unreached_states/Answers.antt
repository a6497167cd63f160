use Rattle.std.proofs.Common.{List, ℕ, subst, sym}
use Rattle.aat_findings.specs.inside.Marks.{AreReachMarks}
use Rattle.aat_findings.proofs.Reaching.{unreached_of}
use Rattle.aat_findings.proofs.states.unreached_states.Goals as goal

pub returns : goal.returns
returns g c =
    let table = c.args.table.now in
    let are = subst (λ (l : List ℕ). AreReachMarks table l) (sym c.as_slice-of_marks.ensures.value) c.in_ok-marks.ensures in
    unreached_of table c.as_slice-of_marks.result.now are c.in_ok-count.count c.in_ok-states.states.items c.in_ok-count.ensures.count c.in_ok-states.ensures
