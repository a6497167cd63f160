use Rattle.std.proofs.Common.{◌≡◌, ℕ, ◌+◌, ◌<◌, length, get_or, None}
use Rattle.aat_lookup.specs.Keys.{first, value_in}
use Rattle.aat_lookup.specs.inside.Walks.{AreBelow}
use Rattle.aat_lookup.proofs.cells.append_values.Given as goal

abbrev pub invariant-loop-place : goal.invariant-loop-place
invariant-loop-place g l = record {
  long : length l.cells.items ≡ length l.fn.cells.items + l.place;
  kept : (k : ℕ) → k < length l.fn.cells.items → get_or l.cells.items k None ≡ get_or l.fn.cells.items k None;
  values : (k : ℕ) → k < l.place → get_or l.cells.items (length l.fn.cells.items + k) None ≡ value_in l.fn.pairs (l.fn.lowest + k);
  passed : AreBelow first l.fn.pairs l.at (l.fn.lowest + l.place);
}
