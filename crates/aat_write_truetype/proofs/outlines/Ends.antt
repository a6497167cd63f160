-- Ends of contours that divide points.
use Rattle.std.proofs.Common.{ℕ, zero, suc, ◌<◌, ◌≤◌, List, [], ◌∷◌, length, get_or, arith}
use Rattle.aat_read_outlines.specs.Outlines.{Divides}

last_end : (start : ℕ) (ends : List ℕ) (count : ℕ) → Divides start ends count → start ≤ count
last_end start [] count same = omega arith
last_end start (end ∷ ends) count is = omega (arith, is.0, last_end end ends count is.1)

-- an end is above the start, and not past the points
pub end_between :
    (start : ℕ) (ends : List ℕ) (count i : ℕ)
    → Divides start ends count
    → i < length ends
    → (start < get_or ends i 0) × (get_or ends i 0 ≤ count)
end_between start [] count i is below = absurd (omega arith)
end_between start (end ∷ ends) count zero is below = (is.0, last_end end ends count is.1)
end_between start (end ∷ ends) count (suc i) is below =
    let behind = end_between end ends count i is.1 (omega arith) in (omega (arith, is.0, behind.0), behind.1)

pub end_some : (ends : List ℕ) (count : ℕ) → Divides 0 ends count → (k : ℕ) → k < length ends → 0 < get_or ends k 0
end_some ends count is k below = (end_between 0 ends count k is below).0

pub end_few :
    (ends : List ℕ) (count : ℕ) → Divides 0 ends count → count ≤ 65536 → (k : ℕ) → k < length ends → get_or ends k 0 ≤ 65536
end_few ends count is few k below = omega (arith, (end_between 0 ends count k is below).1)
