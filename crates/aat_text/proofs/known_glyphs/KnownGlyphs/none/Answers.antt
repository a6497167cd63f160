use Rattle.aat_text.proofs.KnownGlyphs.{none_kept}
use Rattle.aat_text.proofs.known_glyphs.KnownGlyphs.none.Goals as goal

pub returns : goal.returns
returns c = none_kept
