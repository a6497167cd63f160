use Rattle.std.proofs.Common.{◌≡◌, take}
use Rattle.aat_map.specs.inside.Collected.{with_starts}
use Rattle.aat_map.proofs.starts.push_starts.Given as goal

abbrev pub invariant-loop-request : goal.invariant-loop-request
invariant-loop-request g l = l.starts.items ≡ with_starts l.fn.starts.items (take l.request-index l.fn.ordered)
