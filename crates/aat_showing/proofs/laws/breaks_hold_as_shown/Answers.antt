use Rattle.aat_showing.proofs.HiddenParts.{breaks_hold}
use Rattle.aat_showing.proofs.laws.breaks_hold_as_shown.Goals as goal

pub returns : goal.returns
returns c = breaks_hold c.texts_are_drawn_in_parts.ensures
