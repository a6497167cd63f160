use Rattle.std.proofs.Common.{refl}
use Rattle.std.specs.Char.Utf16.{utf16_chars}
use Rattle.aat_records.proofs.worked.names.Goals as goal

pub returns : goal.returns
unfolding utf16_chars
returns c = (refl, refl)
