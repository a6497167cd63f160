use Rattle.aat_write_machine.proofs.ClassTables.{lookup_is_short}
use Rattle.aat_write_kerx.proofs.classes.pairs_lookup.Goals as goal

pub returns-clause-short : goal.returns-clause-short
returns-clause-short c = lookup_is_short c.args.pairs.now _ c.in_ok-bytes.ensures
