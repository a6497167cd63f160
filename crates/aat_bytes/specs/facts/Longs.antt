-- Numbers of 32 bits.
use Rattle.std.proofs.Common.{◌≡◌, ℕ, ◌+◌, ◌*◌, ◌<◌, List, get_or, take, drop, ap, ◌∙◌, arith}
use Rattle.std.proofs.lemmas.List.{get_or-drop, get_or-take}
use Rattle.aat_bytes.specs.Numbers.{be16, be32}

-- a number of 32 bits is two of 16
pub long_is :
    (bytes : List ℕ) (place : ℕ)
    → be32 bytes place ≡ 65536 * be16 bytes place + be16 bytes (place + 2)
long_is bytes place = omega (arith, byte 0 (omega arith), byte 1 (omega arith), byte 2 (omega arith), byte 3 (omega arith), high 0 (omega arith), high 1 (omega arith), low 0 (omega arith), low 1 (omega arith)) where
  byte : (i : ℕ) → i < 4 → get_or (take 4 (drop place bytes)) i 0 ≡ get_or bytes (place + i) 0
  byte i below = get_or-take 4 (drop place bytes) i 0 below ∙ get_or-drop place bytes i 0

  high : (i : ℕ) → i < 2 → get_or (take 2 (drop place bytes)) i 0 ≡ get_or bytes (place + i) 0
  high i below = get_or-take 2 (drop place bytes) i 0 below ∙ get_or-drop place bytes i 0

  low : (i : ℕ) → i < 2 → get_or (take 2 (drop (place + 2) bytes)) i 0 ≡ get_or bytes (place + (2 + i)) 0
  low i below =
      get_or-take 2 (drop (place + 2) bytes) i 0 below
      ∙ get_or-drop (place + 2) bytes i 0
      ∙ ap (λ k. get_or bytes k 0) (omega arith)
