use Rattle.aat_read_extended.proofs.kerx.AnchorRows.{points_bounded}
use Rattle.aat_read_extended.proofs.kerx.laws.points_are_bounded.Goals as goal

pub returns : goal.returns
returns c = points_bounded
