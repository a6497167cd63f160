use Rattle.std.proofs.Common.{ℕ, List, subst, sym, arith}
use Rattle.aat_findings.specs.inside.Marks.{AreReachMarks}
use Rattle.aat_findings.proofs.Staying.{classes_more}
use Rattle.aat_findings.proofs.turns.stays.Goals as goal

pub cycle_of-requires : goal.cycle_of-requires
cycle_of-requires g c = record {
  marks = subst (λ (l : List ℕ). AreReachMarks c.args.table.now l) (sym c.as_slice-of_marks.ensures.value) c.in_ok-marks.ensures;
}

pub loop-class-preserved : goal.loop-class-preserved
loop-class-preserved g c =
    let none = rw c.in_default.is at c.in_ok-found.ensures.none in
    classes_more c.args.table.now c.loop-class.class c.loop-class.invariant none

pub returns-in-Some-clause-some : goal.returns-in-Some-clause-some
returns-in-Some-clause-some g c = rw c.in-Some.is at c.in_ok-found.ensures.some

pub returns-clause-none : goal.returns-clause-none
returns-clause-none g c s k some below reached = c.loop-class.invariant s k some (omega arith) reached
