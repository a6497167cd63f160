use Rattle.aat_shaped_text.proofs.PartsHold.{closing_draws_alike}
use Rattle.aat_shaped_text.proofs.laws.closing_draws_alike.Goals as goal

pub returns : goal.returns
returns c = closing_draws_alike c.kerning_changes_little.ensures c.parts_are_tracked_apart.ensures
