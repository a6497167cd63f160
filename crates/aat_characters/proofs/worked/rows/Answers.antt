use Rattle.std.proofs.Common.{refl}
use Rattle.aat_characters.specs.Exchanges.{mirrored, vertical_form}
use Rattle.aat_characters.proofs.worked.rows.Goals as goal

pub returns : goal.returns
unfolding mirrored vertical_form
returns c = (refl, refl, refl, refl, refl, refl, refl)
