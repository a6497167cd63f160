use Rattle.std.proofs.Common.{◌≡◌, ◌&&◌, ◌==◌, false, take}
use Rattle.std.specs.List.{All}
use Rattle.aat_cuts.specs.Kinds.{moves_and_ends}
use Rattle.aat_cuts.proofs.settled.moving_end.Given as goal

abbrev pub invariant-loop-cell : goal.invariant-loop-cell
invariant-loop-cell l = All (λ c. (c.1 == 0 && moves_and_ends c.2) ≡ false) (take l.cell-index l.cells)
