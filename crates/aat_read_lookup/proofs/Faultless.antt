-- The first fault of units, as a loop looks for it, and what is known where there is none.
use Rattle.std.proofs.Common.{◌≡◌, ℕ, zero, suc, ◌+◌, ◌-◌, ◌<◌, ◌≤◌, List, ◌∷◌, length, map, Option, Some, None, refl, ap, ◌∙◌, subst, inl, inr, arith}
use Rattle.std.specs.List.{range_with_len}
use Rattle.std.proofs.lemmas.Bool.{cases_eq}
use Rattle.std.proofs.lemmas.Grind.{common_steps}
use Rattle.aat_bytes.specs.declared.error.Fault.{Fault}
use Rattle.aat_bytes.specs.declared.tag.Tag.{Tag}
use Rattle.aat_read_lookup.specs.Layouts.{first_fault, unit_fault_at}
use Rattle.aat_read_lookup.specs.Segments.{values_end}
use Rattle.aat_read_lookup.specs.declared.segment.Segment.{Segment}
use Rattle.aat_read_lookup.specs.declared.units.UnitKind.{UnitKind}

module _ (f : ℕ → Option Fault) (i n : ℕ) (result : Option Fault) where
  -- the faults from a unit on begin with that of the unit
  from_here :
      i < n
      → first_fault (map f (range_with_len i (n - i))) ≡ result
      → first_fault (f i ∷ map f (range_with_len (i + 1) (n - (i + 1)))) ≡ result
  from_here lt left =
      let more : n - i ≡ suc (n - (i + 1)) = omega arith in
      subst (λ (k : ℕ). first_fault (map f (range_with_len i k)) ≡ result) more left

  -- a unit without a fault is passed
  pub passed :
      i < n
      → first_fault (map f (range_with_len i (n - i))) ≡ result
      → f i ≡ None
      → first_fault (map f (range_with_len (i + 1) (n - (i + 1)))) ≡ result
  passed lt left none =
      let rest = map f (range_with_len (i + 1) (n - (i + 1))) in
      subst (λ (o : Option Fault). first_fault (o ∷ rest) ≡ result) none (from_here lt left)

  -- a fault that is met is the first
  pub met :
      (fault : Fault) → i < n → first_fault (map f (range_with_len i (n - i))) ≡ result → f i ≡ Some fault → Some fault ≡ result
  met fault lt left some =
      let rest = map f (range_with_len (i + 1) (n - (i + 1))) in
      subst (λ (o : Option Fault). first_fault (o ∷ rest) ≡ result) some (from_here lt left)

  -- behind the last unit there is none
  pub none_left : n ≤ i → first_fault (map f (range_with_len i (n - i))) ≡ result → None ≡ result
  none_left past left =
      let none : n - i ≡ 0 = omega arith in
      subst (λ (k : ℕ). first_fault (map f (range_with_len i k)) ≡ result) none left

head_none : (o : Option Fault) (rest : List (Option Fault)) → first_fault (o ∷ rest) ≡ None → o ≡ None
head_none None rest none = refl
head_none (Some fault) rest none = none

tail_none : (o : Option Fault) (rest : List (Option Fault)) → first_fault (o ∷ rest) ≡ None → first_fault rest ≡ None
tail_none None rest none = none
tail_none (Some fault) rest none = cc

-- where no fault is found, no unit has one
pub none_each :
    (f : ℕ → Option Fault) (a n : ℕ)
    → first_fault (map f (range_with_len a n)) ≡ None
    → (k : ℕ) → a ≤ k → k < a + n → f k ≡ None
none_each f a zero none k low high = absurd (omega arith)
none_each f a (suc n) none k low high =
    let rest = map f (range_with_len (a + 1) n) in
    elim (cases_eq k a) [
      | inl here ↦ ap f here ∙ head_none (f a) rest none
      | inr other ↦ none_each f (a + 1) n (tail_none (f a) rest none) k (omega arith) (omega arith)
    ]

-- the values of a unit without a fault stand inside
pub values_inside :
    (table : Tag) (bytes : List ℕ) (kind : UnitKind) (place : ℕ) (unit : Segment)
    → unit_fault_at table bytes kind place unit ≡ None
    → values_end unit ≤ length bytes
values_inside table bytes kind place unit none = grind (arith, common_steps)
