use Rattle.std.proofs.Common.{◌++◌}
use Rattle.aat_write_machine.specs.Words.{word_bytes}
use Rattle.aat_write_truetype.specs.outlines.GlyphData.{origin, x_words}
use Rattle.aat_write_truetype.proofs.outlines.Steps.{short_behind, x_pushed, x_short}
use Rattle.aat_write_truetype.proofs.outlines.glyph.append_x.Goals as goal

pub x_word-requires : goal.x_word-requires
x_word-requires g c =
    x_short c.args.points.now c.loop-point.point-index _ c.loop-point.from c.loop-point-test.true c.loop-point.invariant.short

pub loop-point-preserved : goal.loop-point-preserved
loop-point-preserved g c =
    let points = c.args.points.now in
    let l = c.loop-point in
    let all = c.args.out.now.items ++ word_bytes (x_words origin points) in
    record {
      short = short_behind points l.point-index _ l.from c.loop-point-test.true l.invariant.short;
      rest = x_pushed points l.point-index _ l.from c.loop-point-test.true l.out.items c.append_words.new.out.items all c.x_word.result c.x_word.ensures c.in_ok-append_words.ensures l.invariant.rest;
    }
