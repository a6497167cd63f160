use Rattle.std.proofs.Common.{◌≡◌, take}
use Rattle.aat_map.specs.inside.Firsts.{present}
use Rattle.aat_map.proofs.gather.present_of.Given as goal

abbrev pub invariant-loop-first : goal.invariant-loop-first
invariant-loop-first g l = l.list.items ≡ present (take l.first-index l.fn.firsts)
