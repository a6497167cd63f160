use Rattle.std.proofs.Common.{◌≡◌, take}
use Rattle.std.specs.List.{fold}
use Rattle.aat_write_truetype.specs.outlines.GlyphData.{widened}
use Rattle.aat_write_truetype.specs.outlines.inside.Near.{AreShort}
use Rattle.aat_write_truetype.proofs.outlines.bounds.bounds_of.Given as goal

abbrev pub invariant-loop-point : goal.invariant-loop-point
invariant-loop-point l = record {
  so_far : l.bounds ≡ fold widened l.initial.bounds (take l.point-index l.points);
  short : AreShort l.bounds;
}
