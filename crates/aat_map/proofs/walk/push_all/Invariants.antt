use Rattle.std.proofs.Common.{◌≡◌, ◌++◌, take}
use Rattle.aat_map.specs.Live.{infos}
use Rattle.aat_map.specs.inside.Firsts.{firsts_of, IsNoted}
use Rattle.aat_map.proofs.walk.push_all.Given as goal

abbrev pub invariant-loop-request : goal.invariant-loop-request
invariant-loop-request g l = record {
  active : l.live.active.items ≡ l.fn.live.active.items ++ infos (take l.request-index l.fn.requests);
  groups : l.live.groups.items ≡ l.fn.live.groups.items;
  firsts : l.live.firsts.items ≡ firsts_of l.live.groups.items l.live.active.items;
  changed : IsNoted l.fn.live.is_changed l.live.is_changed l.fn.live.firsts.items l.live.firsts.items;
}
