use Rattle.aat_write_sfnt.proofs.FontAgain.{written_tables_are_found}
use Rattle.aat_write_sfnt.proofs.laws.written_tables_are_found.Goals as goal

pub returns : goal.returns
returns c = written_tables_are_found
