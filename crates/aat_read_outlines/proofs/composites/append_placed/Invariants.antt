use Rattle.std.proofs.Common.{◌≡◌, ◌++◌, map, take}
use Rattle.aat_read_outlines.specs.Components.{placed}
use Rattle.aat_read_outlines.proofs.composites.append_placed.Given as goal

abbrev pub invariant-loop-point : goal.invariant-loop-point
invariant-loop-point g l =
    l.points.items ≡ l.fn.points.items ++ map (placed l.component) (take l.point-index l.inner)
