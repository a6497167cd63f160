use Rattle.aat_read_extended.proofs.kerx.AnchorRows.{points_of_bytes}
use Rattle.aat_read_extended.proofs.kerx.laws.points_are_those_of_bytes.Goals as goal

pub returns : goal.returns
returns c = points_of_bytes
