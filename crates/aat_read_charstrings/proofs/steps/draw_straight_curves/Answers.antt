use Rattle.std.proofs.Common.{◌∙◌, ap, sym, ◌≤◌, length, drop, pos, arith}
use Rattle.std.specs.List.{fold}
use Rattle.aat_read_charstrings.specs.Paths.{drawn}
use Rattle.aat_read_charstrings.specs.Steps.{even_curves_from}
use Rattle.aat_read_charstrings.proofs.Splits.{draws_on, first_even_curve, no_even_curve}
use Rattle.aat_read_charstrings.proofs.steps.draw_straight_curves.Goals as goal

pub loop-rest-preserved : goal.loop-rest-preserved
loop-rest-preserved g c =
    let l = c.loop-rest in
    let flat = c.args.is_flat in
    ap (λ xs. fold drawn c.draw.new.self (even_curves_from flat (pos 0) xs)) c.behind-rest.ensures
    ∙ draws_on l.path c.draw.new.self _ c.even_curve_of.result (even_curves_from flat (pos 0) l.rest.now) (even_curves_from flat (pos 0) (drop 4 l.rest.now)) _ (first_even_curve flat (pos 0) l.rest.now c.loop-rest-test.true) c.even_curve_of.ensures c.in_ok-draw.ensures l.invariant

pub returns : goal.returns
returns g c =
    let l = c.loop-rest in
    let short : length l.rest.now ≤ 3 = omega arith in
    sym (ap (fold drawn l.path) (no_even_curve c.args.is_flat (pos 0) l.rest.now short)) ∙ l.invariant
