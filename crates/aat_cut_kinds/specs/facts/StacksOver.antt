-- Stacks of places of a line that hold those of a part of it, moved on, and below them places before it.
use Rattle.std.proofs.Common.{◌≡◌, ◌⊎◌, inl, inr, ℕ, ◌+◌, ◌<◌, ◌≤◌, ◌&&◌, not, Bool, true, false, cond, List, [], ◌∷◌, length, nat_le, nat_lt, refl, arith}
use Rattle.std.proofs.lemmas.Bool.{and_parts}
use Rattle.std.proofs.lemmas.Bool.Decides.{nat_tests}
use Rattle.std.specs.List.{AllByRecursion, list_all}
use Rattle.aat_machine_tables.specs.Entries.{has_flag}
use Rattle.aat_machine_tables.specs.declared.state_table.GenericStateEntry.{GenericStateEntry}
use Rattle.aat_kerning_machines.specs.Stack.{pushed_by}
use Rattle.aat_cut_kinds.specs.KerningClosing.{cleared_by}

-- the places of the part, of which P holds, stand at `at` of the line, and what lies below them before it
abbrev pub Over : ℕ → (ℕ → Type 0) → List ℕ → List ℕ → Type 0
Over at P r [] = AllByRecursion (λ j. j < at) r
Over at P [] (i ∷ s) = ⊥
Over at P (j ∷ r) (i ∷ s) = (j ≡ at + i) × P i × Over at P r s

pub over_weaker : (at : ℕ) (P Q : ℕ → Type 0) → ((i : ℕ) → P i → Q i) → (r s : List ℕ) → Over at P r s → Over at Q r s
over_weaker at P Q more r [] h = h
over_weaker at P Q more [] (i ∷ s) h = absurd h
over_weaker at P Q more (j ∷ r) (i ∷ s) h = (h.0, more i h.1, over_weaker at P Q more r s h.2)

pub over_length : (at : ℕ) (P : ℕ → Type 0) (r s : List ℕ) → Over at P r s → length s ≤ length r
over_length at P r [] h = omega arith
over_length at P [] (i ∷ s) h = absurd h
over_length at P (j ∷ r) (i ∷ s) h = omega (arith, over_length at P r s h.2)

-- nothing lies below where no place is before the part
none_below : (at : ℕ) (r : List ℕ) → AllByRecursion (λ j. j < at) r → list_all (nat_le at) r ≡ true → length r ≡ 0
none_below at [] h apart = refl
none_below at (j ∷ r) h apart =
    absurd (let first = and_parts (nat_le at j) (list_all (nat_le at) r) apart in
    let test = first.0 in
    let high : at ≤ j = grind (arith, nat_tests, test) in
    omega (arith, high, h.0))

pub over_apart : (at : ℕ) (P : ℕ → Type 0) (r s : List ℕ) → Over at P r s → list_all (nat_le at) r ≡ true → length r ≡ length s
over_apart at P r [] h apart = none_below at r h apart
over_apart at P [] (i ∷ s) h apart = absurd h
over_apart at P (j ∷ r) (i ∷ s) h apart =
    let rest = over_apart at P r s h.2 (and_parts (nat_le at j) (list_all (nat_le at) r) apart).1 in omega (arith, rest)

-- a part that is the front
pub over_front : (P : ℕ → Type 0) (r s : List ℕ) → Over 0 P r s → length r ≡ length s
over_front P [] [] h = refl
over_front P (j ∷ r) [] h = absurd (omega (arith, h.0))
over_front P [] (i ∷ s) h = absurd h
over_front P (j ∷ r) (i ∷ s) h = let rest = over_front P r s h.2 in omega (arith, rest)

pub over_begun : (q : ℕ) (r s : List ℕ) → Over 0 (λ i. i < q) r s → AllByRecursion (λ j. j < q) r
over_begun q [] s h = tt
over_begun q (j ∷ r) [] h = absurd (omega (arith, h.0))
over_begun q (j ∷ r) (i ∷ s) h = (omega (arith, h.0, h.1), over_begun q r s h.2)

-- a push
pub over_pushed :
    {T : Type 0} (at n c p : ℕ) (e : GenericStateEntry T) (r s : List ℕ) → Over at (λ i. i < n) r s → c ≡ at + p
    → list_all (nat_le at) (cleared_by e r) ≡ true
    → Over at (λ i. (i < n) ⊎ (i ≡ p)) (pushed_by e c r) (pushed_by e p s)
over_pushed at n c p e r s h cursor apart = by_flag (has_flag e 0x8000) apart
  where
    Known : ℕ → Type 0
    Known i = (i < n) ⊎ (i ≡ p)

    weaker : Over at (λ i. (i < n) ⊎ (i ≡ p)) r s
    weaker = over_weaker at (λ i. i < n) (λ i. (i < n) ⊎ (i ≡ p)) (λ i below. inl below) r s h

    by_room : (t : Bool) → nat_lt (length r) 8 ≡ t → list_all (nat_le at) (cond (not t) r []) ≡ true
        → Over at (λ i. (i < n) ⊎ (i ≡ p)) (cond t (c ∷ r) []) (cond (nat_lt (length s) 8) (p ∷ s) [])
    by_room true is apart =
        let less = over_length at (λ i. i < n) r s h in
        let room : nat_lt (length s) 8 ≡ true = grind (arith, nat_tests, is, less) in
        rw room (cursor, inr refl, weaker)
    by_room false is apart =
        let same = over_apart at (λ i. i < n) r s h apart in
        let room : nat_lt (length s) 8 ≡ false = grind (arith, nat_tests, is, same) in
        rw room tt

    by_flag : (t : Bool) → list_all (nat_le at) (cond (t && not (nat_lt (length r) 8)) r []) ≡ true
        → Over at (λ i. (i < n) ⊎ (i ≡ p)) (cond t (cond (nat_lt (length r) 8) (c ∷ r) []) r) (cond t (cond (nat_lt (length s) 8) (p ∷ s) []) s)
    by_flag true apart = by_room (nat_lt (length r) 8) refl apart
    by_flag false apart = weaker
