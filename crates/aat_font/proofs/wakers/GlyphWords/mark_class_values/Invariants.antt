use Rattle.std.proofs.Common.{◌≡◌, ℕ, ◌+◌, ◌<◌, get_or, false}
use Rattle.std.specs.Int.{bit_at}
use Rattle.aat_font.specs.Idle.{is_idle_class}
use Rattle.aat_font.specs.Wakers.{word_of}
use Rattle.aat_font.specs.inside.MarkedWords.{KeepsBits}
use Rattle.aat_font.proofs.wakers.GlyphWords.mark_class_values.Given as goal

abbrev pub invariant-loop-k : goal.invariant-loop-k
invariant-loop-k g l = record {
  kept : KeepsBits l.fn.self l.self;
  marked : (i : ℕ) → i < l.k → is_idle_class g.T.Resting.rests l.table (get_or l.classes i 0) ≡ false
      → bit_at (word_of l.self (l.lowest + i)) l.bit ≡ 1;
}
