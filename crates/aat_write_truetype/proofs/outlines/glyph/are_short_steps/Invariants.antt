use Rattle.std.proofs.Common.{◌≡◌, drop}
use Rattle.aat_write_truetype.specs.outlines.GlyphData.{are_short_steps, origin}
use Rattle.aat_write_truetype.proofs.outlines.glyph.are_short_steps.Given as goal

abbrev pub invariant-loop-point : goal.invariant-loop-point
invariant-loop-point l =
    are_short_steps l.from (drop l.point-index l.points) ≡ are_short_steps origin l.points
