use Rattle.std.proofs.Common.{◌≡◌, ◌-◌, drop}
use Rattle.aat_shaped_text.specs.Breaks.{is_rising}
use Rattle.aat_drawn_text.proofs.line.is_rising.Given as goal

abbrev pub invariant-loop-i : goal.invariant-loop-i
invariant-loop-i l = is_rising l.fn.text ≡ is_rising (drop (l.i - 1) l.fn.text)
