use Rattle.aat_shaped_text.proofs.AllFonts.{texts_are_drawn_in_parts}
use Rattle.aat_shaped_text.proofs.laws.texts_are_drawn_in_parts.Goals as goal

pub returns : goal.returns
returns c =
    texts_are_drawn_in_parts c.parts_are_kerned_apart.ensures c.kerning_changes_little.ensures c.parts_are_tracked_apart.ensures
