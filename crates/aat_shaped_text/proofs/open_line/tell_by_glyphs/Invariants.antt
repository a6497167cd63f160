use Rattle.std.proofs.Common.{◌≡◌, ◌<◌, ℕ, false, get_or, length}
use Rattle.aat_shaped_text.specs.Breaks.{kept_before, may_break_by}
use Rattle.aat_shaped_text.proofs.open_line.tell_by_glyphs.Given as goal

abbrev pub invariant-loop-i : goal.invariant-loop-i
invariant-loop-i l = record {
  counted : l.kept ≡ kept_before l.fn.line l.i;
  len : length l.places ≡ length l.fn.places;
  done : (j : ℕ) → j < l.i → j < length l.fn.places → get_or l.places j false ≡ may_break_by l.fn.rules l.fn.line j;
}
