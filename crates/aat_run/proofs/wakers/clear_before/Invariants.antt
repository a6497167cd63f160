use Rattle.std.proofs.Common.{◌≡◌, ◌<◌, ℕ, get_or}
use Rattle.std.specs.Int.{bit_at}
use Rattle.aat_buffer.specs.Buffer.{glyph_at}
use Rattle.aat_font.specs.Wakers.{word_place}
use Rattle.aat_run.proofs.wakers.clear_before.Given as goal

abbrev pub invariant-loop-i : goal.invariant-loop-i
invariant-loop-i l =
    (k : ℕ) → k < l.i → bit_at (get_or l.fn.listed (word_place (glyph_at l.fn.glyphs k).glyph_id) 0) l.fn.bit ≡ 0
