use Rattle.aat_text.proofs.KnownGlyphs.{none_whole}
use Rattle.aat_text.proofs.known_glyphs.KnownTextGlyphs.none.Goals as goal

pub returns : goal.returns
returns c = none_whole _
