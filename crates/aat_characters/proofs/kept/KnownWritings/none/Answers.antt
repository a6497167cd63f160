use Rattle.aat_characters.proofs.KeptTexts.{none_known}
use Rattle.aat_characters.proofs.kept.KnownWritings.none.Goals as goal

pub returns : goal.returns
returns c = none_known _
