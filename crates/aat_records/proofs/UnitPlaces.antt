-- The places of the units at which characters begin.
use Rattle.std.proofs.Common.{◌≡◌, ◌∙◌, ◌+◌, ◌<◌, ◌≤◌, ℕ, true, false, List, [], ◌∷◌, ◌++◌, ap, append_assoc, arith, count_by, drop, get_or, length, length-take, sym, take, if◌then◌else◌}
use Rattle.std.proofs.lemmas.List.{append-nil, drop_all, drop_more}
use Rattle.std.proofs.lemmas.List.Sums.{count_by-le-length}
use Rattle.aat_records.specs.Decoded.{begins, places_from, places_in, short_place}

-- a unit at which a character begins
pub one_place : (places units : List ℕ) (i : ℕ) → i < length units → begins (get_or units i 0) ≡ true
    → places ++ places_from i (drop i units) ≡ places_in units
    → (places ++ short_place i ∷ []) ++ places_from (i + 1) (drop (i + 1) units) ≡ places_in units
one_place places units i inside at h =
    let more : places_from i (drop i units) ≡ short_place i ∷ places_from (i + 1) (drop (i + 1) units) =
    ap (places_from i) (drop_more units i 0 inside)
    ∙ ap (λ b. if b then short_place i ∷ places_from (i + 1) (drop (i + 1) units)
    else places_from (i + 1) (drop (i + 1) units)) at
    in
    append_assoc places (short_place i ∷ []) _ ∙ ap (λ (r : List ℕ). places ++ r) (sym more) ∙ h

-- a unit at which none begins
pub no_place : (places units : List ℕ) (i : ℕ) → i < length units → begins (get_or units i 0) ≡ false
    → places ++ places_from i (drop i units) ≡ places_in units
    → places ++ places_from (i + 1) (drop (i + 1) units) ≡ places_in units
no_place places units i inside at h =
    let more : places_from i (drop i units) ≡ places_from (i + 1) (drop (i + 1) units) =
    ap (places_from i) (drop_more units i 0 inside)
    ∙ ap (λ b. if b then short_place i ∷ places_from (i + 1) (drop (i + 1) units)
    else places_from (i + 1) (drop (i + 1) units)) at
    in
    ap (λ (r : List ℕ). places ++ r) (sym more) ∙ h

-- no unit is left
pub all_placed : (places units : List ℕ) (i : ℕ) → length units ≤ i
    → places ++ places_from i (drop i units) ≡ places_in units → places ≡ places_in units
all_placed places units i end h =
    sym (append-nil places) ∙ ap (λ (r : List ℕ). places ++ places_from i r) (sym (drop_all i units end)) ∙ h

-- no more characters begin before a unit than there are units
pub few_begin : (units : List ℕ) (unit : ℕ) → count_by begins (take unit units) ≤ unit
few_begin units unit = omega (arith, count_by-le-length begins (take unit units), length-take unit units)
