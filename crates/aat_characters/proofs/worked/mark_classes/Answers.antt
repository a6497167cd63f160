use Rattle.std.proofs.Common.{refl}
use Rattle.ucd_category.proofs.Computing.{ucd_category}
use Rattle.ucd_normal.proofs.Computing.{ucd_normal}
use Rattle.aat_characters.specs.Marks.{shaping_class}
use Rattle.aat_characters.proofs.worked.mark_classes.Goals as goal

pub returns-clause-points : goal.returns-clause-points
unfolding ucd_category ucd_normal shaping_class
returns-clause-points c = refl

pub returns-clause-vowels : goal.returns-clause-vowels
unfolding ucd_category ucd_normal shaping_class
returns-clause-vowels c = refl
