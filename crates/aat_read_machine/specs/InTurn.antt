-- Records that stand one behind the other. Apple's TrueType Reference Manual, "The 'morx' table", chain header and
-- metamorphosis subtables.
use Rattle.std.specs.Prelude.{◌≡◌, ℕ, zero, suc, ◌+◌, List, [], ◌∷◌, length, Some, Result, Ok, Err, slice_get}
use Rattle.aat_bytes.specs.Faults.{after}
use Rattle.aat_bytes.specs.Numbers.{be32}
use Rattle.aat_bytes.specs.declared.error.Fault.{Fault}

-- so many records, each of which says where the next one starts, or the first fault
abbrev pub in_turn : {S X : Type 0} → (S → Result (X × S) Fault) → ℕ → S → Result (List X) Fault
in_turn read zero start = Ok []
in_turn read (suc count) start = after (read start) (λ r. after (in_turn read count r.1) (λ xs. Ok (r.0 ∷ xs)))

-- so many elements in order, of each of which something holds with its index
abbrev pub AreInOrder : {X : Type 0} → List X → ℕ → (ℕ → X → Type 0) → Type 0
AreInOrder {X} xs count P = (length xs ≡ count) × ((i : ℕ) (x : X) → slice_get xs i ≡ Some x → P i x)

-- where a record ends: its length is the number of 32 bits that stands so many bytes behind its place
abbrev pub end_by : List ℕ → ℕ → ℕ → ℕ
end_by bytes field place = place + be32 bytes (place + field)

-- where records start: the first one at a place, and each other one where the one before it ends
abbrev pub place_in_turn : List ℕ → ℕ → ℕ → ℕ → ℕ
place_in_turn bytes field first zero = first
place_in_turn bytes field first (suc i) = end_by bytes field (place_in_turn bytes field first i)

-- what so many records in turn weigh, each by where it starts, what it has and where the next one starts. From a fault
-- on there is nothing
abbrev pub weight_in_turn : {S X : Type 0} → (S → Result (X × S) Fault) → (S → X → S → ℕ) → ℕ → S → ℕ
weight_in_turn read weight zero start = 0
weight_in_turn read weight (suc count) start = elim (read start) [
  | Ok record_and_next ↦ weight start record_and_next.0 record_and_next.1
      + weight_in_turn read weight count record_and_next.1
  | Err fault ↦ 0
]
