use Rattle.std.proofs.Common.{arith, refl, ◌<◌, length}
use Rattle.aat_buffer.specs.inside.Gap.{around_gap}
use Rattle.aat_buffer.proofs.Gap.{taken_by_gap, length-around_gap}
use Rattle.aat_buffer.proofs.gap_line.GapLine.remove.Goals as goal

pub returns : goal.returns
returns g c =
    let a = c.self.inside in
    let some : a.gap_start < length (around_gap a.cells.items a.gap_start a.gap_end) = rw (← c.self.view_is) at c.requires in
    let n = length-around_gap a.cells.items a.gap_start a.gap_end c.self.invariant.ordered (omega arith) in
    let lt : a.gap_end < length a.cells.items = omega (arith, n, some) in
    rw (← c.self.view_is, taken_by_gap a.cells.items a.gap_start a.gap_end c.self.invariant.ordered lt) refl
