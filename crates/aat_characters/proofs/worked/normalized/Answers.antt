use Rattle.std.proofs.Common.{refl}
use Rattle.ucd_category.proofs.Computing.{ucd_category}
use Rattle.unicode_normalization.proofs.Computing.{unicode_normalization}
use Rattle.aat_characters.specs.Marks.{shaping_class}
use Rattle.aat_characters.proofs.worked.normalized.Goals as goal

pub returns-clause-composed : goal.returns-clause-composed
unfolding unicode_normalization ucd_category shaping_class
returns-clause-composed c = (refl, refl, refl)

pub returns-clause-ordered : goal.returns-clause-ordered
unfolding unicode_normalization ucd_category shaping_class
returns-clause-ordered c = refl

pub returns-clause-others : goal.returns-clause-others
unfolding unicode_normalization ucd_category shaping_class
returns-clause-others c = (refl, refl, refl, refl)
