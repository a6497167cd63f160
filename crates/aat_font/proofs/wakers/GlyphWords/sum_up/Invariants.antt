use Rattle.aat_font.specs.inside.MarkedWords.{KeepsBits, IsSummedBelow}
use Rattle.aat_font.proofs.wakers.GlyphWords.sum_up.Given as goal

abbrev pub invariant-loop-place : goal.invariant-loop-place
invariant-loop-place l = record {
  kept : KeepsBits l.fn.self l.self;
  below : IsSummedBelow l.self l.bit l.block l.place;
}
