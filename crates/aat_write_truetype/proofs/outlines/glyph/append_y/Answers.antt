use Rattle.std.proofs.Common.{◌++◌}
use Rattle.aat_write_machine.specs.Words.{word_bytes}
use Rattle.aat_write_truetype.specs.outlines.GlyphData.{origin, y_words}
use Rattle.aat_write_truetype.proofs.outlines.Steps.{short_behind, y_pushed, y_short}
use Rattle.aat_write_truetype.proofs.outlines.glyph.append_y.Goals as goal

pub y_word-requires : goal.y_word-requires
y_word-requires g c =
    y_short c.args.points.now c.loop-point.point-index _ c.loop-point.from c.loop-point-test.true c.loop-point.invariant.short

pub loop-point-preserved : goal.loop-point-preserved
loop-point-preserved g c =
    let points = c.args.points.now in
    let l = c.loop-point in
    let all = c.args.out.now.items ++ word_bytes (y_words origin points) in
    record {
      short = short_behind points l.point-index _ l.from c.loop-point-test.true l.invariant.short;
      rest = y_pushed points l.point-index _ l.from c.loop-point-test.true l.out.items c.append_words.new.out.items all c.y_word.result c.y_word.ensures c.in_ok-append_words.ensures l.invariant.rest;
    }
