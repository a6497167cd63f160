use Rattle.std.proofs.Common.{◌∙◌, refl, ◌-◌}
use Rattle.std.proofs.lemmas.List.{length-set}
use Rattle.aat_kinds.proofs.Moves.{right_none, right_more}
use Rattle.aat_kinds.proofs.rearrangement_span.move_right.Goals as goal

pub loop-moved-init : goal.loop-moved-init
loop-moved-init g c = record {
  after = right_none c.args.buffer.now c.args.start c.args.end c.args.by c.requires.room c.requires.ordered c.requires.in_line;
  count = refl;
}

pub loop-moved-preserved : goal.loop-moved-preserved
loop-moved-preserved g c = record {
  after = right_more c.args.buffer.now c.args.start c.args.end c.args.by c.requires.room c.requires.ordered c.requires.in_line c.loop-moved.buffer c.loop-moved.moved c.info-glyph.result.now
      c.loop-moved-test.true c.loop-moved.invariant.after c.info-glyph.ensures.read;
  count = length-set c.loop-moved.buffer.line (c.args.end - 1 - c.loop-moved.moved) c.info-glyph.result.now ∙ c.loop-moved.invariant.count;
}
