use Rattle.std.proofs.Common.{◌∙◌, ap, sym, ◌≤◌, not, length, drop, arith}
use Rattle.std.specs.List.{fold}
use Rattle.aat_read_charstrings.specs.Paths.{drawn}
use Rattle.aat_read_charstrings.specs.Steps.{turning_curves}
use Rattle.aat_read_charstrings.proofs.Splits.{draws_on, first_turning_curve, no_turning_curve}
use Rattle.aat_read_charstrings.proofs.steps.draw_turning_curves.Goals as goal

pub loop-rest-preserved : goal.loop-rest-preserved
loop-rest-preserved g c =
    let l = c.loop-rest in
    ap (λ xs. fold drawn c.draw.new.self (turning_curves (not l.flat) xs)) c.behind-rest.ensures
    ∙ draws_on l.path c.draw.new.self _ c.turning_curve_of.result (turning_curves l.flat l.rest.now) (turning_curves (not l.flat) (drop 4 l.rest.now)) _ (first_turning_curve l.flat l.rest.now c.loop-rest-test.true) c.turning_curve_of.ensures c.in_ok-draw.ensures l.invariant

pub returns : goal.returns
returns g c =
    let l = c.loop-rest in
    let short : length l.rest.now ≤ 3 = omega arith in
    sym (ap (fold drawn l.path) (no_turning_curve l.flat l.rest.now short)) ∙ l.invariant
