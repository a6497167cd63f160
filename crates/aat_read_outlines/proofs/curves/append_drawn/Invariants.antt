use Rattle.std.proofs.Common.{◌≡◌, ◌++◌, drop, None}
use Rattle.aat_read_outlines.specs.Segments.{drawn}
use Rattle.aat_read_outlines.proofs.curves.append_drawn.Given as goal

abbrev pub invariant-loop-point : goal.invariant-loop-point
invariant-loop-point g l =
    l.segments.items ++ drawn l.start l.waiting (drop l.point-index l.points) ≡ l.fn.segments.items ++ drawn l.start None l.points
