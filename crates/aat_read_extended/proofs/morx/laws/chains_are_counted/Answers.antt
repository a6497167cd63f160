use Rattle.aat_read_extended.proofs.morx.Counted.{chains_are_counted}
use Rattle.aat_read_extended.proofs.morx.laws.chains_are_counted.Goals as goal

pub returns : goal.returns
returns c = chains_are_counted
