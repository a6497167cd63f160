-- Units of 16 bits of bytes.
use Rattle.std.proofs.Common.{◌≡◌, ◌∙◌, ◌+◌, ◌*◌, ◌/◌, ◌<◌, ◌≤◌, ℕ, List, [], ◌∷◌, ◌++◌, ap, append_assoc, arith, drop, get_or, length, length-drop, refl, sym}
use Rattle.std.proofs.lemmas.List.{append-nil, drop_more}
use Rattle.std.specs.Int.{w16, from_be_bytes}
use Rattle.aat_records.specs.Names.{units_of}

-- fewer than two bytes have no unit
few : (bytes : List ℕ) → length bytes < 2 → units_of bytes ≡ []
few [] h = refl
few (alone ∷ []) h = refl
few (high ∷ low ∷ rest) h = absurd (omega arith)

-- the bytes from a place on are two and those behind them
two : (bytes : List ℕ) (k n m : ℕ) → n ≡ 2 * k → m ≡ 2 * (k + 1) → m ≤ length bytes
    → drop n bytes ≡ get_or bytes n 0 ∷ get_or bytes (n + 1) 0 ∷ drop m bytes
two bytes k n m is next inside =
    let second : n + 1 + 1 ≡ m = omega arith in
    let first_in : n < length bytes = omega arith in
    let second_in : n + 1 < length bytes = omega arith in
    drop_more bytes n 0 first_in ∙ ap (λ (r : List ℕ). get_or bytes n 0 ∷ r)
    (drop_more bytes (n + 1) 0 second_in ∙ ap (λ (j : ℕ). get_or bytes (n + 1) 0 ∷ drop j bytes) second)

-- one unit more
pub one_unit : (units bytes : List ℕ) (i : ℕ) → 2 * (i + 1) ≤ length bytes
    → units ++ units_of (drop (2 * i) bytes) ≡ units_of bytes
    → (units ++ from_be_bytes w16 (get_or bytes (2 * i) 0 ∷ get_or bytes (2 * i + 1) 0 ∷ []) ∷ [])
    ++ units_of (drop (2 * (i + 1)) bytes) ≡ units_of bytes
one_unit units bytes i inside h =
    append_assoc units _ (units_of (drop (2 * (i + 1)) bytes))
    ∙ (ap (λ (r : List ℕ). units ++ units_of r) (sym (two bytes i (2 * i) (2 * (i + 1)) refl refl inside)) ∙ h)

-- no unit more
pub no_unit : (units bytes : List ℕ) (i : ℕ) → length bytes / 2 ≤ i
    → units ++ units_of (drop (2 * i) bytes) ≡ units_of bytes → units ≡ units_of bytes
no_unit units bytes i end h =
    let short : length (drop (2 * i) bytes) < 2 = omega (arith, length-drop (2 * i) bytes) in
    sym (append-nil units) ∙ (ap (λ (r : List ℕ). units ++ r) (sym (few (drop (2 * i) bytes) short)) ∙ h)
