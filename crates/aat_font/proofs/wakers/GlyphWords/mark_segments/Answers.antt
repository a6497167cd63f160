use Rattle.std.proofs.Common.{◌≡◌, ℕ, arith}
use Rattle.std.specs.Int.{bit_at}
use Rattle.aat_lookup.specs.Segments.{pairs_of_segments}
use Rattle.aat_font.specs.Wakers.{word_of}
use Rattle.aat_font.proofs.ClearBits.{clear_values}
use Rattle.aat_font.proofs.SegmentBits.{of_segments}
use Rattle.aat_font.proofs.wakers.GlyphWords.mark_segments.Goals as goal

pub returns-clause-awake : goal.returns-clause-awake
returns-clause-awake c =
    clear_values (pairs_of_segments c.args.segments.now) c.loop-segment.self c.args.bit
    (of_segments (λ (g v : ℕ). bit_at (word_of c.loop-segment.self g) c.args.bit ≡ 1) c.args.segments.now
    (λ j d lt. c.loop-segment.invariant.marked j d (omega (arith, c.loop-segment-test.false, lt))))
