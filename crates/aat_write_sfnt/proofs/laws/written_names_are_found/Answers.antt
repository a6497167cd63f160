use Rattle.aat_write_sfnt.proofs.NamesAgain.{written_names_are_found}
use Rattle.aat_write_sfnt.proofs.laws.written_names_are_found.Goals as goal

pub returns : goal.returns
returns c = written_names_are_found
