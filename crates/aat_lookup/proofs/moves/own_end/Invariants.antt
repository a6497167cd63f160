use Rattle.std.proofs.Common.{◌≡◌, ◌≤◌, length, drop, false}
use Rattle.aat_lookup.specs.inside.Dense.{keeps_one}
use Rattle.aat_lookup.proofs.moves.own_end.Given as goal

abbrev pub invariant-loop-count : goal.invariant-loop-count
invariant-loop-count l = record {
  within : l.count ≤ length l.pairs;
  others : keeps_one (drop l.count l.pairs) ≡ false;
}

abbrev pub decreases-loop-count : goal.decreases-loop-count
decreases-loop-count l = l.count
