use Rattle.aat_write_kerx.proofs.PointsAgain.{written_points_are_read}
use Rattle.aat_write_kerx.proofs.laws.written_points_are_read.Goals as goal

pub returns : goal.returns
returns c = written_points_are_read c.written_lookups_are_read.ensures
