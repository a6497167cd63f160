use Rattle.aat_read_machine.proofs.OfBytes.{machines_are_those_of_bytes}
use Rattle.aat_read_machine.proofs.laws.machines_are_those_of_bytes.Goals as goal

pub returns : goal.returns
returns g c = machines_are_those_of_bytes g.T.EntryRead.SIZE g.T.EntryRead.extra_at
