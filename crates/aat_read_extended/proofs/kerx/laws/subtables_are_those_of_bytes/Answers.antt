use Rattle.aat_read_extended.proofs.kerx.ReadSubtables.{subtables_of_bytes}
use Rattle.aat_read_extended.proofs.kerx.laws.subtables_are_those_of_bytes.Goals as goal

pub returns : goal.returns
returns c = subtables_of_bytes
