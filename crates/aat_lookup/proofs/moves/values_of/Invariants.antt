use Rattle.std.proofs.Common.{◌≡◌, ℕ, ◌<◌, length, get_or}
use Rattle.aat_lookup.proofs.moves.values_of.Given as goal

abbrev pub invariant-loop-place : goal.invariant-loop-place
invariant-loop-place g l = record {
  long : length l.values.items ≡ length l.fn.pairs;
  each : (k : ℕ) → k < l.place → get_or l.values.items k 0 ≡ (get_or l.fn.pairs k (0, 0)).1;
}
