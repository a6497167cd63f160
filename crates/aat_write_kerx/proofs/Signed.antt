-- A signed number of 16 bits that is written is read again.
use Rattle.std.proofs.Common.{◌≡◌, ℤ, ◌<◌, arith}
use Rattle.std.proofs.Math.Facts.{Fits-of_z}
use Rattle.std.proofs.lemmas.Int.{to_z-of_z}
use Rattle.std.specs.Int.{w16}
use Rattle.aat_bytes.specs.Numbers.{signed16}
use Rattle.aat_write_kerx.specs.AnkrBytes.{unsigned16}
use Rattle.aat_write_kerx.specs.AnkrLaws.{IsSigned}

pub signed_again : (number : ℤ) → IsSigned number → signed16 (unsigned16 number) ≡ number
signed_again number fits = to_z-of_z w16 number fits

pub signed_is_word : (number : ℤ) → IsSigned number → unsigned16 number < 65536
signed_is_word number fits = omega (arith, Fits-of_z fits)
