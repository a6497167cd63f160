use Rattle.aat_write_machine.proofs.ClassTables.{lookup_is_short}
use Rattle.aat_write_machine.proofs.lookup_bytes.pairs_bytes.Goals as goal

pub returns-clause-short : goal.returns-clause-short
returns-clause-short g c = lookup_is_short c.args.pairs.now _ c.in_ok-bytes.ensures
