use Rattle.aat_write_sfnt.proofs.TablesAgain.{counts_are_read, headers_are_read, profiles_are_read}
use Rattle.aat_write_sfnt.proofs.laws.written_headers_are_read.Goals as goal

pub returns-clause-glyphs : goal.returns-clause-glyphs
returns-clause-glyphs c = profiles_are_read

pub returns-clause-units : goal.returns-clause-units
returns-clause-units c = headers_are_read

pub returns-clause-metrics : goal.returns-clause-metrics
returns-clause-metrics c = counts_are_read
