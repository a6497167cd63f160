use Rattle.std.proofs.Common.{◌≡◌, ℕ, false, arith}
use Rattle.std.specs.Int.{bit_at}
use Rattle.aat_lookup.specs.Listings.{pairs_from}
use Rattle.aat_font.specs.Idle.{is_idle_class}
use Rattle.aat_font.specs.Wakers.{word_of}
use Rattle.aat_font.proofs.ClearBits.{clear_classes}
use Rattle.aat_font.proofs.SegmentBits.{of_values}
use Rattle.aat_font.proofs.wakers.GlyphWords.mark_class_values.Goals as goal

pub returns-clause-awake : goal.returns-clause-awake
returns-clause-awake g c =
    let test = is_idle_class g.T.Resting.rests c.args.table.now in
    clear_classes (pairs_from c.args.lowest c.args.classes.now) c.loop-k.self c.args.bit test
    (of_values (λ (glyph class : ℕ). test class ≡ false → bit_at (word_of c.loop-k.self glyph) c.args.bit ≡ 1) c.args.lowest c.args.classes.now
    (λ i lt. c.loop-k.invariant.marked i (omega (arith, c.loop-k-test.false, lt))))
