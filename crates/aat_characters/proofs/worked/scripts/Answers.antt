use Rattle.std.proofs.Common.{refl}
use Rattle.std.specs.Char.{encode_utf8}
use Rattle.std.specs.Str.{chars}
use Rattle.ucd_category.proofs.Computing.{ucd_category}
use Rattle.ucd_script.proofs.Computing.{ucd_script}
use Rattle.aat_characters.proofs.worked.scripts.Goals as goal

pub returns-clause-scripts : goal.returns-clause-scripts
unfolding ucd_script ucd_category chars encode_utf8
returns-clause-scripts c = (refl, refl, refl, refl, refl, refl, refl)

pub returns-clause-digits : goal.returns-clause-digits
unfolding ucd_script ucd_category chars encode_utf8
returns-clause-digits c = (refl, refl, refl, refl)
