use Rattle.aat_write_kerx.proofs.FormatsAgain as formats
use Rattle.aat_write_kerx.proofs.laws.written_formats_are_read.Goals as goal

pub returns : goal.returns
returns c = formats.written_formats_are_read c.written_lookups_are_read.ensures
