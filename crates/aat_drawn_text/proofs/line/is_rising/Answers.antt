use Rattle.std.proofs.Common.{◌∙◌, ◌-◌, ◌≤◌, arith, length, suc, sym}
use Rattle.aat_drawn_text.proofs.Rising.{rising_end}
use Rattle.aat_drawn_text.proofs.line.is_rising.Goals as goal

pub returns : goal.returns
returns c =
    let text = c.args.text.now in
    let few : length text ≤ suc (c.loop-i.i - 1) = omega (arith, c.loop-i-test.false) in
    sym (c.loop-i.invariant ∙ rising_end text (c.loop-i.i - 1) few)
