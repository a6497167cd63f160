use Rattle.std.proofs.Common.{◌∙◌, arith, ◌-◌}
use Rattle.std.proofs.lemmas.List.{length-set}
use Rattle.aat_kinds.proofs.Moves.{left_more, left_all}
use Rattle.aat_kinds.proofs.rearrangement_span.move_left.Goals as goal

pub loop-i-preserved : goal.loop-i-preserved
loop-i-preserved g c = record {
  after = left_more c.args.buffer.now c.args.start c.args.end c.args.by c.requires.room c.requires.ordered c.requires.in_line c.loop-i.buffer c.loop-i.i c.info-glyph.result.now
      (omega arith) (omega arith) c.loop-i.invariant.after c.info-glyph.ensures.read;
  count = length-set c.loop-i.buffer.line (c.loop-i.i - c.args.by) c.info-glyph.result.now ∙ c.loop-i.invariant.count;
}

pub returns-clause-after : goal.returns-clause-after
returns-clause-after g c =
    left_all c.args.buffer.now c.args.start c.args.end c.args.by c.requires.room c.requires.ordered c.requires.in_line c.loop-i.buffer (c.loop-i.i - c.args.by) (omega arith) c.loop-i.invariant.after
