use Rattle.aat_cuts.specs.Reached.{AreGathered}
use Rattle.aat_cuts.proofs.cells.cells_of.Given as goal

abbrev pub invariant-loop-state : goal.invariant-loop-state
invariant-loop-state g l = AreGathered l.table l.cells.items l.state
