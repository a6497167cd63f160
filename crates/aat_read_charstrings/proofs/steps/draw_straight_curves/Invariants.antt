use Rattle.std.proofs.Common.{◌≡◌, length, pos}
use Rattle.std.specs.List.{fold}
use Rattle.aat_read_charstrings.specs.Paths.{drawn}
use Rattle.aat_read_charstrings.specs.Steps.{even_curves_from}
use Rattle.aat_read_charstrings.proofs.steps.draw_straight_curves.Given as goal

abbrev pub invariant-loop-rest : goal.invariant-loop-rest
invariant-loop-rest g l =
    fold drawn l.path (even_curves_from l.is_flat (pos 0) l.rest)
    ≡ fold drawn l.fn.path (even_curves_from l.is_flat (pos 0) l.fn.arguments)

abbrev pub decreases-loop-rest : goal.decreases-loop-rest
decreases-loop-rest g l = length l.rest
