use Rattle.std.proofs.Common.{◌∙◌, arith, refl, length}
use Rattle.aat_read_outlines.proofs.Contours.{read_divides}
use Rattle.aat_read_outlines.proofs.simple.simple_outline.Goals as goal

pub of_parts-requires : goal.of_parts-requires
of_parts-requires g c =
    let counted = c.in_ok-points.ensures.counted ∙ (rw c.in-Some-2.is at c.in_ok-flags.ensures.counted) ∙ c.end_of-count.ensures.end in
    record {
      divided = read_divides c.args.glyph.now.bytes c.bytes-bytes.result.now c.in_ok-ends.ends.items c.args.contours (length c.in_ok-points.points.items) c.requires.some (c.in_default.ensures.rising refl) c.bytes-bytes.ensures c.in_ok-ends.ensures counted;
      few = omega (arith, counted, c.end_of-count.ensures.end, c.end_of-count.ensures.low);
    }
