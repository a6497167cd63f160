use Rattle.std.proofs.Common.{◌∙◌, ap, sym, ◌≤◌, length, drop, arith}
use Rattle.std.specs.List.{fold}
use Rattle.aat_read_charstrings.specs.Paths.{drawn}
use Rattle.aat_read_charstrings.specs.Steps.{curves}
use Rattle.aat_read_charstrings.proofs.Splits.{draws_on, first_curve, no_curve}
use Rattle.aat_read_charstrings.proofs.steps.draw_curves.Goals as goal

pub loop-rest-preserved : goal.loop-rest-preserved
loop-rest-preserved g c =
    let l = c.loop-rest in
    ap (λ xs. fold drawn c.draw.new.self (curves xs)) c.behind-rest.ensures
    ∙ draws_on l.path c.draw.new.self _ c.curve_of.result (curves l.rest.now) (curves (drop 6 l.rest.now)) _ (first_curve l.rest.now c.loop-rest-test.true) c.curve_of.ensures c.in_ok-draw.ensures l.invariant

pub returns : goal.returns
returns g c =
    let l = c.loop-rest in
    let short : length l.rest.now ≤ 5 = omega arith in
    sym (ap (fold drawn l.path) (no_curve l.rest.now short)) ∙ l.invariant
