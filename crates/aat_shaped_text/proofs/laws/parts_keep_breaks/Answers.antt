use Rattle.aat_shaped_text.proofs.AllFonts.{parts_keep_breaks}
use Rattle.aat_shaped_text.proofs.laws.parts_keep_breaks.Goals as goal

pub returns : goal.returns
returns c =
    parts_keep_breaks c.parts_are_kerned_apart.ensures c.kerning_changes_little.ensures c.parts_are_tracked_apart.ensures
