use Rattle.std.proofs.Common.{◌≡◌, take}
use Rattle.aat_map.specs.inside.Firsts.{firsts_of}
use Rattle.aat_map.proofs.live.firsts_of.Given as goal

abbrev pub invariant-loop-group : goal.invariant-loop-group
invariant-loop-group g l = l.firsts.items ≡ firsts_of (take l.group-index l.fn.groups) l.fn.list.items
