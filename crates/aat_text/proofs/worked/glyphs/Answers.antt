use Rattle.std.proofs.Common.{refl}
use Rattle.ucd_category.proofs.Computing.{ucd_category}
use Rattle.ucd_derived.proofs.Computing.{ucd_derived}
use Rattle.unicode_segmentation.proofs.Computing.{unicode_segmentation}
use Rattle.aat_text.proofs.worked.glyphs.Goals as goal

pub returns-clause-clusters : goal.returns-clause-clusters
unfolding unicode_segmentation
returns-clause-clusters c face = (refl, refl)

pub returns-clause-ignorable : goal.returns-clause-ignorable
unfolding unicode_segmentation
returns-clause-ignorable c face = (refl, refl)

pub returns-clause-seen : goal.returns-clause-seen
unfolding ucd_derived
returns-clause-seen c = (refl, refl)

pub returns-clause-marks : goal.returns-clause-marks
unfolding unicode_segmentation ucd_category
returns-clause-marks c face = refl

pub returns-clause-missing : goal.returns-clause-missing
unfolding unicode_segmentation
returns-clause-missing c face none = rw none
