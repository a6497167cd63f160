use Rattle.std.proofs.Common.{◌≡◌, ◌<◌, [], ◌∷◌, List, ℕ, length, get_or, set, subst, sym, arith}
use Rattle.aat_findings.specs.inside.Marks.{AreMarks}
use Rattle.aat_findings.proofs.Marking.{marked_here, marked_kept, marked_only, marks_more}
use Rattle.aat_findings.proofs.reached.mark.Goals as goal

pub returns-clause-marks : goal.returns-clause-marks
returns-clause-marks c =
    let within : c.args.state < length c.args.marks.now = omega arith in
    let clear : get_or c.args.marks.now c.args.state 0 ≡ 0 = omega arith in
    subst (λ (l : List ℕ). AreMarks (set c.args.marks.now c.args.state 1) l) (sym c.in_ok-push.ensures.items) (marks_more c.args.marks.now c.args.order.now.items c.requires.marks c.args.state within clear)

pub returns-clause-kept : goal.returns-clause-kept
returns-clause-kept c =
    let within : c.args.state < length c.args.marks.now = omega arith in
    let clear : get_or c.args.marks.now c.args.state 0 ≡ 0 = omega arith in
    marked_kept c.args.marks.now c.args.order.now.items c.requires.marks c.args.state within clear

pub returns-clause-longer : goal.returns-clause-longer
returns-clause-longer c = (c.args.state ∷ [], c.in_ok-push.ensures.items)

pub returns-clause-here : goal.returns-clause-here
returns-clause-here c =
    let within : c.args.state < length c.args.marks.now = omega arith in
    let clear : get_or c.args.marks.now c.args.state 0 ≡ 0 = omega arith in
    marked_here c.args.marks.now c.args.order.now.items c.requires.marks c.args.state within clear

pub returns-clause-only : goal.returns-clause-only
returns-clause-only c =
    let within : c.args.state < length c.args.marks.now = omega arith in
    let clear : get_or c.args.marks.now c.args.state 0 ≡ 0 = omega arith in
    marked_only c.args.marks.now c.args.order.now.items c.requires.marks c.args.state within clear
