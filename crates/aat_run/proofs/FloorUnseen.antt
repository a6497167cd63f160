-- The least budget is not seen inside a run.
use Rattle.std.proofs.Common.{◌≡◌, ℕ, ℤ, pos, negsuc, ◌-ℤ◌, arith}
use Rattle.std.specs.Prelude.{int_lt}
use Rattle.std.specs.Int.{int_max}
use Rattle.std.proofs.lemmas.Int.{ints}
use Rattle.aat_run.specs.Budget.{FloorIsUnseen}

operations : (z : ℤ) → int_lt (pos 0) (int_max z (negsuc 2147483647)) ≡ int_lt (pos 0) z
operations z = grind (arith, ints)

overspent : (z : ℤ) → int_lt (int_max z (negsuc 2147483647)) (pos 0) ≡ int_lt z (pos 0)
overspent z = grind (arith, ints)

paid : (z : ℤ) (n : ℕ) → int_max (int_max z (negsuc 2147483647) -ℤ pos n) (negsuc 2147483647) ≡ int_max (z -ℤ pos n) (negsuc 2147483647)
paid z n = grind (arith, ints)

pub floor_is_unseen : FloorIsUnseen
floor_is_unseen = record { operations = operations; overspent = overspent; paid = paid }
