use Rattle.std.proofs.Common.{◌≡◌, take, filter}
use Rattle.aat_map.specs.Live.{infos, has_begun}
use Rattle.aat_map.proofs.live.begun_at_start.Given as goal

abbrev pub invariant-loop-request : goal.invariant-loop-request
invariant-loop-request g l = l.list.items ≡ infos (filter (has_begun 0) (take l.request-index l.fn.ordered))
