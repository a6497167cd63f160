-- Values that are written are read again.
use Rattle.std.proofs.Common.{◌≡◌, ℤ, suc, ◌<◌, List, [], ◌∷◌, map, All, arith}
use Rattle.std.specs.Prelude.{pos, negsuc}
use Rattle.std.specs.Int.{w16}
use Rattle.std.proofs.lemmas.Int.{to_z-of_z}
use Rattle.aat_bytes.specs.Numbers.{signed16}
use Rattle.aat_write_truetype.specs.kern.KernLaws.{IsValue}
use Rattle.aat_write_truetype.specs.kern.PairBytes.{value_word}
use Rattle.aat_write_machine.specs.facts.WordPlaces.{AreWords}

-- a value has a word
pub value_is_word : (value : ℤ) → IsValue value → value_word value < 65536
value_is_word (pos n) small = omega (arith, small)
value_is_word (negsuc n) small = omega arith

-- a value again
pub value_again : (value : ℤ) → IsValue value → signed16 (value_word value) ≡ value
value_again value small = to_z-of_z w16 value small

pub values_are_words : (values : List ℤ) → All IsValue values → AreWords (map value_word values)
values_are_words [] small = tt
values_are_words (v ∷ vs) small =
    (value_is_word v (small 0 v (omega arith)), values_are_words vs (λ k d lt. small (suc k) d (omega arith)))
