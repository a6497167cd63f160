use Rattle.std.proofs.Common.{◌≡◌, length}
use Rattle.std.specs.List.{fold}
use Rattle.aat_read_charstrings.specs.Paths.{drawn}
use Rattle.aat_read_charstrings.specs.Steps.{curves}
use Rattle.aat_read_charstrings.proofs.steps.draw_curves.Given as goal

abbrev pub invariant-loop-rest : goal.invariant-loop-rest
invariant-loop-rest g l = fold drawn l.path (curves l.rest) ≡ fold drawn l.fn.path (curves l.fn.arguments)

abbrev pub decreases-loop-rest : goal.decreases-loop-rest
decreases-loop-rest g l = length l.rest
