use Rattle.aat_read_machine.proofs.Bounded.{subtables_bounded}
use Rattle.aat_read_machine.proofs.laws.subtables_are_bounded.Goals as goal

pub returns : goal.returns
returns c = subtables_bounded
