use Rattle.std.proofs.Common.{◌≡◌, ℕ, ◌+◌, ◌<◌, length, get_or, take, unwrap_or}
use Rattle.aat_lookup.specs.Keys.{value_in}
use Rattle.aat_lookup.proofs.class_array.class_cells.Given as goal

abbrev pub invariant-loop-i : goal.invariant-loop-i
invariant-loop-i g l = record {
  long : length l.cells.items ≡ l.fn.count;
  classes : (k : ℕ) → k < l.fn.count → get_or l.cells.items k 0 ≡ unwrap_or (value_in (take l.i l.fn.pairs) (l.fn.lowest + k)) l.fn.missing;
}
