-- How many binary digits numbers have.
use Rattle.std.proofs.Common.{◌≡◌, refl, ℕ, zero, suc, ◌+◌, ◌/◌, ◌^◌, ◌<◌, ◌≤◌, arith}
use Rattle.std.proofs.lemmas.Int.Digits.{length-digits_of_step, length-digits_of-le}
use Rattle.aat_run.specs.RangeOf.{binary_digits}

no_digit : binary_digits 0 ≡ 0
unfolding binary_digits
no_digit = refl

-- one more than its half has
pub one_more : (n : ℕ) → 0 < n → binary_digits n ≡ binary_digits (n / 2) + 1
unfolding binary_digits
one_more n some = length-digits_of_step 2 n (omega arith) some

-- at most k below 2 ^ k
pub at_most : (k n : ℕ) → n < 2 ^ k → binary_digits n ≤ k
unfolding binary_digits
at_most k n below = length-digits_of-le 2 k n (omega arith) below

-- a larger number has as many or more
pub no_fewer : (m n : ℕ) → m ≤ n → binary_digits m ≤ binary_digits n
no_fewer m n le = by_halves n m n (omega arith) le
  where
    by_halves : (turns m n : ℕ) → n ≤ turns → m ≤ n → binary_digits m ≤ binary_digits n
    by_halves turns zero n few le = omega (arith, no_digit)
    by_halves zero (suc m) n few le = absurd (omega arith)
    by_halves (suc turns) (suc m) n few le =
        let some : 0 < n = omega arith in
        let half : binary_digits (suc m / 2) ≤ binary_digits (n / 2) = by_halves turns (suc m / 2) (n / 2) (omega arith) (omega arith) in
        omega (arith, one_more (suc m) (omega arith), one_more n some, half)
