use Rattle.std.proofs.Common.{◌≡◌, ◌++◌, drop, true}
use Rattle.aat_write_truetype.specs.outlines.GlyphData.{are_short_steps, origin, x_words}
use Rattle.aat_write_machine.specs.Words.{word_bytes}
use Rattle.aat_write_truetype.proofs.outlines.glyph.append_x.Given as goal

abbrev pub invariant-loop-point : goal.invariant-loop-point
invariant-loop-point g l = record {
  short : are_short_steps l.from (drop l.point-index l.points) ≡ true;
  rest : l.out.items ++ word_bytes (x_words l.from (drop l.point-index l.points))
      ≡ l.fn.out.items ++ word_bytes (x_words origin l.points);
}
