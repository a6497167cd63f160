use Rattle.std.proofs.Common.{◌≡◌, ◌+◌, ℕ, List, is_none, true, subst, arith}
use Rattle.std.specs.Int.{bit_at}
use Rattle.aat_lookup.specs.Keys.{value_in}
use Rattle.aat_lookup.specs.Listings.{pairs_from}
use Rattle.aat_font.specs.Wakers.{word_of}
use Rattle.aat_font.proofs.ClearBits.{clear_values}
use Rattle.aat_font.proofs.SegmentBits.{of_values}
use Rattle.aat_font.proofs.wakers.GlyphWords.mark_values.Goals as goal

pub returns-in_ok-mark_glyphs-in-Values-clause-awake : goal.returns-in_ok-mark_glyphs-in-Values-clause-awake
returns-in_ok-mark_glyphs-in-Values-clause-awake c =
    let w = c.mark_glyphs.new.self in
    let lowest = c.in-Values.lowest in
    let values = c.in-Values.values.now in
    subst (λ (ps : List (ℕ × ℕ)). (g : ℕ) → bit_at (word_of w g) c.args.bit ≡ 0 → is_none (value_in ps g) ≡ true) c.in-Values.ensures.pairs
    (clear_values (pairs_from lowest values) w c.args.bit
    (of_values (λ (g v : ℕ). bit_at (word_of w g) c.args.bit ≡ 1) lowest values
    (λ k lt. c.in_ok-mark_glyphs-in-Values.ensures.set (lowest + k) (omega arith) (omega (arith, lt)))))
