use Rattle.aat_face.proofs.Weighed.{face_memory_bounded}
use Rattle.aat_face.proofs.laws.face_memory_is_bounded.Goals as goal

pub returns : goal.returns
returns c = face_memory_bounded
