use Rattle.std.proofs.Common.{◌≡◌, ℕ, ◌%◌, ◌<◌, Some}
use Rattle.std.specs.List.{slice_get}
use Rattle.aat_font.specs.Wakers.{IsSummedAt}
use Rattle.aat_font.specs.declared.wakers.GlyphWords.{GlyphWords}
use Rattle.aat_font.proofs.wakers.summary_of.Given as goal

abbrev pub invariant-loop-i : goal.invariant-loop-i
invariant-loop-i l = record {
  summed : (k : ℕ) (block : GlyphWords) → k < l.i → slice_get l.fn.blocks k ≡ Some block → IsSummedAt l.summary (k % 64) block;
}
