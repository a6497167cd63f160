use Rattle.aat_write_machine.proofs.MachineAgain.{machines_are_read}
use Rattle.aat_write_machine.proofs.laws.machines_are_read.Goals as goal

pub returns : goal.returns
returns g c =
    let laws = g.met.T.EntryWrite in
    machines_are_read g.T.EntryRead.SIZE g.T.EntryRead.extra_at g.T.EntryWrite.words_of laws.has_size laws.reads_again c.written_lookups_are_read.ensures
