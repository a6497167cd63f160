use Rattle.std.proofs.Common.{◌≡◌, take}
use Rattle.aat_map.specs.Live.{kept, infos}
use Rattle.aat_map.proofs.gather.first_of_each.Given as goal

abbrev pub invariant-loop-request : goal.invariant-loop-request
invariant-loop-request g l = l.groups.items ≡ kept (infos (take l.request-index l.fn.requests))
