use Rattle.std.proofs.Common.{refl}
use Rattle.unicode_segmentation.proofs.Computing.{unicode_segmentation}
use Rattle.aat_text.proofs.worked.line_ends.Goals as goal

pub returns-clause-spaces : goal.returns-clause-spaces
unfolding unicode_segmentation
returns-clause-spaces c = refl

pub returns-clause-closing : goal.returns-clause-closing
unfolding unicode_segmentation
returns-clause-closing c = refl

pub returns-clause-forced : goal.returns-clause-forced
unfolding unicode_segmentation
returns-clause-forced c = refl

pub returns-clause-ideographs : goal.returns-clause-ideographs
unfolding unicode_segmentation
returns-clause-ideographs c = refl
