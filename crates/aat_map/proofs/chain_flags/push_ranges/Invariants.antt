use Rattle.std.proofs.Common.{◌≡◌, take, map}
use Rattle.aat_map.specs.Map.{with_ranges}
use Rattle.aat_map.specs.Compiled.{compiled_range}
use Rattle.aat_map.proofs.chain_flags.push_ranges.Given as goal

abbrev pub invariant-loop-i : goal.invariant-loop-i
invariant-loop-i g l = l.map ≡ with_ranges (map (compiled_range l.fn.builder) (take l.i l.fn.chains)) l.fn.map
