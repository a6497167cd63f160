use Rattle.std.proofs.Common.{◌≡◌, ◌+◌}
use Rattle.aat_closing.specs.Closing.{are_in_order}
use Rattle.aat_closing.proofs.ligature.Pushed.are_in_order.Given as goal

abbrev pub invariant-loop-left : goal.invariant-loop-left
invariant-loop-left g l = record {
  same : are_in_order l.self l.i l.left ≡ are_in_order l.fn.self l.fn.first l.fn.n;
  ends : l.i + l.left ≡ l.fn.first + l.fn.n;
}

abbrev pub decreases-loop-left : goal.decreases-loop-left
decreases-loop-left g l = l.left
