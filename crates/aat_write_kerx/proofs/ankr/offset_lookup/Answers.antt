use Rattle.aat_write_machine.proofs.ClassTables.{lookup_is_short}
use Rattle.aat_write_kerx.proofs.ankr.offset_lookup.Goals as goal

pub returns-clause-short : goal.returns-clause-short
returns-clause-short c = lookup_is_short c.args.offsets.now _ c.in_ok-lookup.ensures
