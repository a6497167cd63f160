use Rattle.std.proofs.Common.{◌≡◌, ℕ, ◌<◌, length, slice_index_or, false}
use Rattle.aat_kerning_tables.specs.inside.Rows.{IsQuiet}
use Rattle.aat_kerning_tables.proofs.class_pairs.kerning_rows.Given as goal

abbrev pub invariant-loop-row : goal.invariant-loop-row
invariant-loop-row g l = record {
  long : length l.told.items ≡ l.row;
  quiet : (left : ℕ) → left < l.row → slice_index_or l.told.items left false ≡ false
      → IsQuiet l.fn.values l.fn.right_count left;
}
