use Rattle.aat_read_kern.proofs.MachinesBounded.{machines_bounded}
use Rattle.aat_read_kern.proofs.laws.machines_are_bounded.Goals as goal

pub returns : goal.returns
returns c = machines_bounded
