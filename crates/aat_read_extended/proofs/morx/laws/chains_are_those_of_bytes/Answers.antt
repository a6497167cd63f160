use Rattle.aat_read_extended.proofs.morx.OfBytes.{chains_are_those_of_bytes}
use Rattle.aat_read_extended.proofs.morx.laws.chains_are_those_of_bytes.Goals as goal

pub returns : goal.returns
returns c = chains_are_those_of_bytes
