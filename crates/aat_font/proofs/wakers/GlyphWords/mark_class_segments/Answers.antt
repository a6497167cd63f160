use Rattle.std.proofs.Common.{◌≡◌, ℕ, false, arith}
use Rattle.std.specs.Int.{bit_at}
use Rattle.aat_lookup.specs.Segments.{pairs_of_segments}
use Rattle.aat_font.specs.Idle.{is_idle_class}
use Rattle.aat_font.specs.Wakers.{word_of}
use Rattle.aat_font.proofs.ClearBits.{clear_classes}
use Rattle.aat_font.proofs.SegmentBits.{of_segments}
use Rattle.aat_font.proofs.wakers.GlyphWords.mark_class_segments.Goals as goal

pub returns-clause-awake : goal.returns-clause-awake
returns-clause-awake g c =
    let test = is_idle_class g.T.Resting.rests c.args.table.now in
    clear_classes (pairs_of_segments c.args.segments.now) c.loop-segment.self c.args.bit test
    (of_segments (λ (glyph class : ℕ). test class ≡ false → bit_at (word_of c.loop-segment.self glyph) c.args.bit ≡ 1) c.args.segments.now
    (λ j d lt. c.loop-segment.invariant.marked j d (omega (arith, c.loop-segment-test.false, lt))))
