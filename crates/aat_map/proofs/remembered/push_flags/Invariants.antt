use Rattle.std.proofs.Common.{◌≡◌, take, map}
use Rattle.aat_map.specs.Map.{with_ranges}
use Rattle.aat_run.specs.Ranges.{range}
use Rattle.aat_map.proofs.remembered.push_flags.Given as goal

abbrev pub invariant-loop-i : goal.invariant-loop-i
invariant-loop-i g l = l.map ≡ with_ranges (map (range l.fn.span.0 l.fn.span.1) (take l.i l.fn.flags)) l.fn.map
