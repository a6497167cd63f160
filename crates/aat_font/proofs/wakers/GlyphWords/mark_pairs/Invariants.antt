use Rattle.std.proofs.Common.{◌≡◌, ℕ, ◌<◌, get_or}
use Rattle.std.specs.Int.{bit_at}
use Rattle.aat_font.specs.Wakers.{word_of}
use Rattle.aat_font.specs.inside.MarkedWords.{KeepsBits}
use Rattle.aat_font.proofs.wakers.GlyphWords.mark_pairs.Given as goal

abbrev pub invariant-loop-pair : goal.invariant-loop-pair
invariant-loop-pair l = record {
  kept : KeepsBits l.fn.self l.self;
  marked : (i : ℕ) → i < l.pair-index → bit_at (word_of l.self (get_or l.pairs i (0, 0)).0) l.bit ≡ 1;
}
