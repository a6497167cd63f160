use Rattle.std.proofs.Common.{◌≡◌, ℕ, ◌<◌, ◌≤◌, get_or}
use Rattle.std.specs.Int.{bit_at}
use Rattle.aat_lookup.specs.declared.segments.LookupSegment.{LookupSegment}
use Rattle.aat_font.specs.Wakers.{word_of}
use Rattle.aat_font.specs.inside.MarkedWords.{KeepsBits}
use Rattle.aat_font.proofs.wakers.GlyphWords.mark_segments.Given as goal

abbrev pub invariant-loop-segment : goal.invariant-loop-segment
invariant-loop-segment l = record {
  kept : KeepsBits l.fn.self l.self;
  marked : (j : ℕ) (d : LookupSegment) → j < l.segment-index → (g : ℕ) → (get_or l.segments j d).first_glyph ≤ g
      → g ≤ (get_or l.segments j d).last_glyph → bit_at (word_of l.self g) l.bit ≡ 1;
}
