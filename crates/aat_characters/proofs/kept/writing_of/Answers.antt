use Rattle.aat_characters.specs.Decomposed.{has_glyph}
use Rattle.aat_characters.proofs.kept.writing_of.Goals as goal

pub returns-then-is_variation_selector : goal.returns-then-is_variation_selector
returns-then-is_variation_selector c = c.other_writing.ensures (has_glyph c.args.face.now)
