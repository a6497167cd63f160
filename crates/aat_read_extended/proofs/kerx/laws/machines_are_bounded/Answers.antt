use Rattle.aat_read_extended.proofs.kerx.MachinesBounded.{machines_bounded}
use Rattle.aat_read_extended.proofs.kerx.laws.machines_are_bounded.Goals as goal

pub returns : goal.returns
returns c = machines_bounded
