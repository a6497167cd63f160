use Rattle.std.proofs.Common.{◌≡◌, take, filter}
use Rattle.aat_map.specs.inside.Walked.{ends_within}
use Rattle.aat_map.proofs.walk.ending_within.Given as goal

abbrev pub invariant-loop-request : goal.invariant-loop-request
invariant-loop-request g l = l.ending.items ≡ filter ends_within (take l.request-index l.fn.ordered)
