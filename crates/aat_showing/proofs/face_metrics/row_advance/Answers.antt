use Rattle.std.proofs.Common.{◌∙◌, ap}
use Rattle.aat_face.specs.Faces.{FontValue}
use Rattle.aat_font.specs.Face.{value_or_zero}
use Rattle.aat_showing.specs.FaceMetrics.{row_advance}
use Rattle.aat_showing.proofs.face_metrics.row_advance.Goals as goal

pub returns : goal.returns
unfolding row_advance
returns c = c.glyph_advance.ensures ∙ ap (λ (v : FontValue). value_or_zero v.advances c.args.glyph) c.font.ensures
