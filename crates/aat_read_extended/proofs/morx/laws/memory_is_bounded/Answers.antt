use Rattle.aat_read_extended.proofs.morx.Bounded.{memory_bounded}
use Rattle.aat_read_extended.proofs.morx.laws.memory_is_bounded.Goals as goal

pub returns : goal.returns
returns c = memory_bounded
