use Rattle.aat_read_kern.proofs.Entries.{entries_of_bytes}
use Rattle.aat_read_kern.proofs.laws.entries_are_those_of_bytes.Goals as goal

pub returns : goal.returns
returns c = entries_of_bytes
