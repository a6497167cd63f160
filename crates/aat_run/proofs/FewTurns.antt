-- What the mark against joining keeps, and how few turns are.
use Rattle.std.proofs.Common.{ℕ, ℤ, pos, negsuc, ◌≤◌, ◌<◌, ◌*◌, arith, ◌+◌}
use Rattle.std.specs.Int.Signed.{mag}
use Rattle.std.proofs.lemmas.Nat.{mul-le}
use Rattle.aat_run.specs.Budget.{operations_left}

-- turns over a line and a budget within their bounds are few
pub few_turns : (turns count line : ℕ) (budget : ℤ) → turns ≤ count * (line + operations_left budget + 1) → count ≤ 65535 → line ≤ 1073741823 → operations_left budget < 2147483648 → turns ≤ 4611686018427387904
few_turns turns count line budget most few short spent =
    let each : line + operations_left budget + 1 ≤ 3221225471 = omega (arith, short, spent) in
    let all : count * (line + operations_left budget + 1) ≤ 65535 * 3221225471 = mul-le count (line + operations_left budget + 1) 65535 3221225471 few each in
    omega (arith, most, all)

-- a budget of 32 bits
pub few_operations : (budget : ℤ) → mag budget < 2147483648 → operations_left budget < 2147483648
few_operations (pos n) fits = fits
few_operations (negsuc n) fits = omega arith
