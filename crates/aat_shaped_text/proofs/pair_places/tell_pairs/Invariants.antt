use Rattle.std.proofs.Common.{◌≡◌, ◌<◌, ℕ, false, get_or, length}
use Rattle.aat_cut_kinds.specs.KernedTables.{by_pairs}
use Rattle.aat_kerning.specs.Pairs.{left_of}
use Rattle.aat_shaped_text.proofs.pair_places.tell_pairs.Given as goal
use Rattle.aat_kerning.specs.Values.{values_of}

abbrev pub invariant-loop-place : goal.invariant-loop-place
invariant-loop-place g l = record {
  long : length l.opens ≡ length l.fn.opens;
  found : l.left ≡ left_of l.fn.skips 8 l.fn.buffer.line l.place;
  told : (q : ℕ) → q < l.place
      → get_or l.opens q false ≡ (by_pairs l.fn.skips 8 false (values_of l.fn.values)).opens q l.fn.buffer;
}
