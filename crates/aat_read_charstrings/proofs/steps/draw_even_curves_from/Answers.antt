use Rattle.std.proofs.Common.{◌≡◌, ◌∙◌, ap, sym, ◌≤◌, length, drop, pos, w32, arith}
use Rattle.std.proofs.lemmas.Int.{to_z-of_z}
use Rattle.std.specs.List.{fold}
use Rattle.aat_read_charstrings.specs.Paths.{Drawing, drawn}
use Rattle.aat_read_charstrings.specs.Steps.{even_curve, even_curves_from, number}
use Rattle.aat_read_charstrings.proofs.Splits.{first_even_curve, no_even_curve}
use Rattle.aat_read_charstrings.proofs.steps.draw_even_curves_from.Goals as goal

pub returns-then-arguments-lt4 : goal.returns-then-arguments-lt4
returns-then-arguments-lt4 g c =
    let a = c.args in
    let short : length a.arguments.now ≤ 3 = omega arith in
    sym (ap (fold drawn a.path.now) (no_even_curve a.is_flat a.aside a.arguments.now short))

pub returns : goal.returns
returns g c =
    let a = c.args in
    let xs = a.arguments.now in
    let long : 4 ≤ length xs = omega arith in
    let split = first_even_curve a.is_flat a.aside xs long in
    let step : c.even_curve_of.result ≡ even_curve a.is_flat a.aside (number xs 0) (number xs 1) (number xs 2) (number xs 3) =
    c.even_curve_of.ensures
    ∙ ap (λ z. even_curve a.is_flat z (number xs 0) (number xs 1) (number xs 2) (number xs 3)) (to_z-of_z w32 a.aside c.ranges.aside) in
    let is : fold drawn c.draw.new.self (even_curves_from a.is_flat (pos 0) c.behind.result.now) ≡ fold drawn a.path.now (even_curves_from a.is_flat a.aside xs) =
    ap (λ ys. fold drawn c.draw.new.self (even_curves_from a.is_flat (pos 0) ys)) c.behind.ensures
    ∙ ap (λ (p : Drawing). fold drawn p (even_curves_from a.is_flat (pos 0) (drop 4 xs))) (c.in_ok-draw.ensures ∙ ap (drawn a.path.now) step)
    ∙ sym (ap (fold drawn a.path.now) split) in
    let all = c.draw_straight_curves.ensures in rw is at all
