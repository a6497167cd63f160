use Rattle.std.proofs.Common.{◌≤◌}
use Rattle.aat_shaper.specs.inside.Filling.{IsFull, IsTried, Shapes, paragraph_of}
use Rattle.aat_shaper.proofs.lines.filling.Filling.settle.Given as goal

abbrev pub invariant-loop-line : goal.invariant-loop-line
invariant-loop-line g l = record {
  shaper : Shapes l.self l.shaper;
  tried : IsTried l.self l.first l.line.last l.shaper.glyphs l.line;
  from : l.first ≤ l.line.last;
  up_to : l.line.last ≤ l.reached;
  full : IsFull (paragraph_of l.self) l.first l.line.last;
}

abbrev pub decreases-loop-line : goal.decreases-loop-line
decreases-loop-line g l = l.line.last
