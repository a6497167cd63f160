use Rattle.aat_read_machine.proofs.Entries.{entries_hold}
use Rattle.aat_read_machine.proofs.laws.entries_are_those_of_bytes.Goals as goal

pub returns : goal.returns
returns g c = entries_hold g.T.EntryRead.extra_at
