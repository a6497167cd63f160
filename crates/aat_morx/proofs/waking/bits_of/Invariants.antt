use Rattle.std.proofs.Common.{ℕ, ◌<◌, ◌≤◌, get_or}
use Rattle.std.specs.Int.{bit_at}
use Rattle.aat_buffer.specs.Buffer.{glyph_at}
use Rattle.aat_font.specs.Wakers.{word_place}
use Rattle.aat_morx.proofs.waking.bits_of.Given as goal

abbrev pub invariant-loop-glyph : goal.invariant-loop-glyph
invariant-loop-glyph l = record {
  has : (k i : ℕ) → i < l.glyph-index → bit_at (get_or l.listed (word_place (glyph_at l.glyphs i).glyph_id) 0) k ≤ bit_at l.word k;
}
