use Rattle.aat_write_kerx.proofs.TableAgain as tables
use Rattle.aat_write_kerx.proofs.laws.written_kerx_is_read.Goals as goal

pub returns : goal.returns
returns c = tables.written_kerx_is_read c.written_formats_are_read.ensures
