-- Where no track is found whose values are not there, all values are.
use Rattle.std.proofs.Common.{◌≡◌, ℕ, ◌+◌, ◌≤◌, false, arith, not, List, length, None}
use Rattle.std.proofs.lemmas.Bool.Decides.{nat_tests}
use Rattle.aat_bytes.specs.facts.Ranges.{none_each}
use Rattle.aat_read_metrics.specs.Trak.{first_outside, reaches, values_place}
use Rattle.aat_read_metrics.specs.inside.Whole.{HaveValues}

within : (bytes : List ℕ) (place size : ℕ) → not (reaches bytes place size) ≡ false → place + size ≤ length bytes
within bytes place size inside = grind (arith, nat_tests, inside)

pub all_inside :
    (bytes : List ℕ) (at count size : ℕ) → first_outside bytes at count size ≡ None → HaveValues bytes at count size
all_inside bytes at count size none = λ k low.
    within bytes (values_place bytes at k) size
    (none_each (λ i. not (reaches bytes (values_place bytes at i) size)) 0 count none k (omega arith) (omega arith))
