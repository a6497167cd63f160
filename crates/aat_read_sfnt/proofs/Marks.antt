-- The property of marks among those of glyphs.
use Rattle.std.proofs.Common.{◌≡◌, ℕ, ◌+◌, ◌*◌, ◌%◌, bit_and, arith}
use Rattle.std.proofs.lemmas.Nat.Bits.{and_pow}

-- a mark has it, whatever its class among marks
pub mark_has : (class : ℕ) → bit_and (8 + 256 * (class % 256)) 8 ≡ 8
mark_has class = omega (arith, and_pow (8 + 256 * (class % 256)) 3)
