-- What a handle holds may cross threads: a face, and memory in which texts are typeset.
use denote.Param.Send.{IsSend, struct_send, sendable}
use denote.Param.SendFields.{declared_send, as_row_send}
use denote.Struct.Declared as S
use denote.Ref.{NamedLft}
use Rattle.std.proofs.Crossing
use Rattle.std.proofs.Crossing.{crosses}
use Rattle.std.specs.contracts.alloc.Global as heap
use Rattle.std.specs.contracts.impls.GlobalAllocator.TheImpl.{ghosts}
use Rattle.aat_shaper.proofs.Arenas.{workspace_field_send}
use Rattle.aat_shaper.specs.contracts.memory.ShaperMemory as shaper
use Rattle.aat_typesetter.specs.contracts.memory.TypesetterMemory as setter
use Rattle.aat_face.specs.contracts.face.Face as face
use Rattle.aat_face.proofs.face.Face.TheSendSync as F
use Rattle.aat_records.specs.contracts.held.Held as held

shaper_send : IsSend (shaper.the_field heap.the_row ghosts).row
shaper_send = struct_send (S.shape (shaper.the_type heap.the_row ghosts)) (Crossing.send, (search (sendable, crosses) depth 40, (workspace_field_send, (search (sendable, crosses) depth 40, tt))))

setter_send : IsSend (setter.the_field heap.the_row ghosts).row
setter_send = struct_send (S.shape (setter.the_type heap.the_row ghosts)) (search (sendable, crosses) depth 20, (Crossing.send, (shaper_send, (search (sendable, crosses) depth 40, (search (sendable, crosses) depth 40, (search (sendable, crosses) depth 40, tt))))))

face_send : (κ : NamedLft) → IsSend (face.the_field κ).row
face_send κ = F.the_send κ

pub held_send : IsSend held.the_row
held_send = declared_send held.the_type (face_send _, (as_row_send (setter.the_field heap.the_row ghosts) setter_send, tt))
