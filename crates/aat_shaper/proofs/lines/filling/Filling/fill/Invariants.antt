use Rattle.std.proofs.Common.{◌-◌, ◌≤◌, length}
use Rattle.aat_shaper.specs.Lines.{AreLines}
use Rattle.aat_shaper.specs.inside.Filling.{Shapes, paragraph_of}
use Rattle.aat_shaper.proofs.lines.filling.Filling.fill.Given as goal

abbrev pub invariant-loop-first : goal.invariant-loop-first
invariant-loop-first g l = record {
  shaper : Shapes l.self l.shaper;
  lines : AreLines (paragraph_of l.self) l.first l.lines.glyphs.items l.lines.lines.items;
  within : l.first ≤ length l.self.stops.now;
}

abbrev pub decreases-loop-first : goal.decreases-loop-first
decreases-loop-first g l = length l.self.stops.now - l.first
