use Rattle.std.proofs.Common.{◌≡◌, ℕ, ◌<◌, ◌≤◌, get_or, false}
use Rattle.std.specs.Int.{bit_at}
use Rattle.aat_lookup.specs.declared.segments.LookupSegment.{LookupSegment}
use Rattle.aat_font.specs.Idle.{is_idle_class}
use Rattle.aat_font.specs.Wakers.{word_of}
use Rattle.aat_font.specs.inside.MarkedWords.{KeepsBits}
use Rattle.aat_font.proofs.wakers.GlyphWords.mark_class_segments.Given as goal

abbrev pub invariant-loop-segment : goal.invariant-loop-segment
invariant-loop-segment g l = record {
  kept : KeepsBits l.fn.self l.self;
  marked : (j : ℕ) (d : LookupSegment) → j < l.segment-index → (glyph : ℕ) → (get_or l.segments j d).first_glyph ≤ glyph
      → glyph ≤ (get_or l.segments j d).last_glyph → is_idle_class g.T.Resting.rests l.table (get_or l.segments j d).value ≡ false
      → bit_at (word_of l.self glyph) l.bit ≡ 1;
}
