use Rattle.std.proofs.Common.{◌<◌, ◌∙◌, ap, get_or, length, arith}
use Rattle.aat_read_outlines.specs.Outlines.{start_of}
use Rattle.aat_read_outlines.proofs.Contours.{divided}
use Rattle.aat_read_outlines.proofs.outline.Outline.contour.Goals as goal

pub between-requires : goal.between-requires
between-requires g c =
    let ends = c.self.inside.ends.items in
    let points = c.self.inside.points.items in
    let index = c.args.index in
    let start = c.start_of-start.ensures ∙ ap (λ e. start_of e index) c.deref.ensures.value in
    let end = c.end_of-end.ensures ∙ ap (λ e. get_or e index 0) c.deref-2.ensures.value in
    let below : index < length ends = omega arith in
    let is = divided ends (length points) index c.start_of-start.result c.end_of-end.result c.self.invariant.divided below start end in
    record { ordered = is.0; inside = omega (arith, is.1, ap length c.deref-3.ensures.value) }
