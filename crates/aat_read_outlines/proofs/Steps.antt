-- Steps of a pen.
use Rattle.std.proofs.Common.{ℕ, ◌≤◌, ◌*◌, ◌+◌, Bool, true, false, List, [], ◌∷◌, length, arith}
use Rattle.std.specs.Prelude.{sum_by}
use Rattle.std.proofs.lemmas.List.Sums.{sum_by-cons}
use Rattle.aat_read_outlines.specs.Flags.{has}
use Rattle.aat_read_outlines.specs.Points.{step_size, x_size, y_size}
use Rattle.aat_read_outlines.specs.declared.flags.TheConstants.{X_SHORT, Y_SHORT, X_SAME, Y_SAME}

step_size_few : (is_short is_same : Bool) → step_size is_short is_same ≤ 2
step_size_few true is_same = omega arith
step_size_few false true = omega arith
step_size_few false false = omega arith

sizes_few : (f : ℕ → ℕ) → ((flag : ℕ) → f flag ≤ 2) → (flags : List ℕ) → sum_by f flags ≤ 2 * length flags
sizes_few f each [] = omega arith
sizes_few f each (flag ∷ flags) = omega (arith, sum_by-cons f flag flags, each flag, sizes_few f each flags)

pub x_sizes_few : (flags : List ℕ) → sum_by x_size flags ≤ 2 * length flags
x_sizes_few = sizes_few x_size (λ flag. step_size_few (has flag X_SHORT) (has flag X_SAME))

pub y_sizes_few : (flags : List ℕ) → sum_by y_size flags ≤ 2 * length flags
y_sizes_few = sizes_few y_size (λ flag. step_size_few (has flag Y_SHORT) (has flag Y_SAME))

pub ruleset sizes_are_few = (x_sizes_few, y_sizes_few)
