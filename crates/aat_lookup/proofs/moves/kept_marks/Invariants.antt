use Rattle.std.proofs.Common.{◌≡◌, ℕ, ◌+◌, ◌<◌, length, get_or, take, false}
use Rattle.aat_lookup.specs.Keys.{value_in}
use Rattle.aat_lookup.specs.inside.Dense.{is_own}
use Rattle.aat_lookup.proofs.moves.kept_marks.Given as goal

abbrev pub invariant-loop-i : goal.invariant-loop-i
invariant-loop-i g l = record {
  long : length l.kept.items ≡ l.marks;
  marks : (k : ℕ) → k < l.fn.count → get_or l.kept.items k false ≡ is_own (value_in (take l.i l.fn.pairs) (l.fn.lowest + k)) (l.fn.lowest + k);
}
