use Rattle.std.proofs.Common.{◌≡◌, ◌==◌, ℕ, ◌<◌, length, get_or, false}
use Rattle.aat_lookup.proofs.moves.own_marks.Given as goal

abbrev pub invariant-loop-place : goal.invariant-loop-place
invariant-loop-place g l = record {
  long : length l.marks.items ≡ length l.fn.pairs;
  each : (k : ℕ) → k < l.place → get_or l.marks.items k false ≡ ((get_or l.fn.pairs k (0, 0)).1 == (get_or l.fn.pairs k (0, 0)).0);
}
