use Rattle.std.proofs.Common.{refl}
use Rattle.ucd_category.proofs.Computing.{ucd_category}
use Rattle.ucd_emoji.proofs.Computing.{ucd_emoji}
use Rattle.aat_characters.proofs.worked.clusters.Goals as goal

pub returns-clause-marks : goal.returns-clause-marks
unfolding ucd_emoji ucd_category
returns-clause-marks c = (refl, refl, refl, refl, refl, refl, refl)

pub returns-clause-flags : goal.returns-clause-flags
unfolding ucd_emoji ucd_category
returns-clause-flags c = (refl, refl, refl)

pub returns-clause-families : goal.returns-clause-families
unfolding ucd_emoji ucd_category
returns-clause-families c = (refl, refl, refl)

pub returns-clause-whole : goal.returns-clause-whole
unfolding ucd_emoji ucd_category
returns-clause-whole c = (refl, refl)
