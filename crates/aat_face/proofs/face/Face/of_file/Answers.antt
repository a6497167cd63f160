use Rattle.std.proofs.Common.{◌∙◌, ap}
use Rattle.aat_face.specs.Faces.{face_of_tables}
use Rattle.aat_face.proofs.face.Face.of_file.Goals as goal

pub returns-clause-ok : goal.returns-clause-ok
returns-clause-ok c = c.of_tables.ensures ∙ ap (face_of_tables c.args.file) c.in_ok-tables.ensures
