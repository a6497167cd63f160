use Rattle.std.proofs.Common.{◌≡◌, ℕ, ◌<◌, get_or, false}
use Rattle.std.specs.Int.{bit_at}
use Rattle.aat_font.specs.Idle.{is_idle_class}
use Rattle.aat_font.specs.Wakers.{word_of}
use Rattle.aat_font.specs.inside.MarkedWords.{KeepsBits}
use Rattle.aat_font.proofs.wakers.GlyphWords.mark_class_pairs.Given as goal

abbrev pub invariant-loop-pair : goal.invariant-loop-pair
invariant-loop-pair g l = record {
  kept : KeepsBits l.fn.self l.self;
  marked : (i : ℕ) → i < l.pair-index → is_idle_class g.T.Resting.rests l.table (get_or l.pairs i (0, 0)).1 ≡ false
      → bit_at (word_of l.self (get_or l.pairs i (0, 0)).0) l.bit ≡ 1;
}
