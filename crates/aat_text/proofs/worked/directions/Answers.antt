use Rattle.std.proofs.Common.{refl}
use Rattle.std.specs.Char.{encode_utf8}
use Rattle.std.specs.Str.{chars}
use Rattle.ucd_bidi.proofs.Computing.{ucd_bidi}
use Rattle.aat_text.proofs.worked.directions.Goals as goal

pub returns : goal.returns
unfolding ucd_bidi chars encode_utf8
returns c = (refl, refl, refl, refl)
