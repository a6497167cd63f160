use Rattle.aat_shaped_text.proofs.KindsRead.{characters_are_read}
use Rattle.aat_shaped_text.proofs.laws.characters_are_read.Goals as goal

pub returns : goal.returns
returns c = characters_are_read
