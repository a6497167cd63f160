use Rattle.std.proofs.Common.{◌≡◌, take}
use Rattle.aat_map.specs.inside.Collected.{with_ends}
use Rattle.aat_map.proofs.starts.push_ends.Given as goal

abbrev pub invariant-loop-request : goal.invariant-loop-request
invariant-loop-request g l = l.starts.items ≡ with_ends l.fn.starts.items (take l.request-index l.fn.ending)
