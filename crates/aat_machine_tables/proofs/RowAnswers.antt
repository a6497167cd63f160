-- What rows say, as rules.
use Rattle.std.proofs.Common.{◌≡◌, ◌≢◌, ℕ, zero, suc, ◌+◌, ◌*◌, ◌/◌, ◌%◌, ◌<◌, ◌≤◌, ◌⊎◌, inl, inr, true, false, ◌==◌, cond, List, [], ◌∷◌, ◌++◌, length, Option, Some, None, refl, sym, ap, ◌∙◌, arith}
use Rattle.std.specs.List.{flat_map, range_with_len}
use Rattle.std.specs.Prelude.{option_map, nat_lt, slice_get}
use Rattle.std.proofs.lemmas.Bool.{cases_lt}
use Rattle.std.proofs.lemmas.Bool.Decides.{nat_tests}
use Rattle.std.proofs.lemmas.List.{flat_map_more}
use Rattle.std.proofs.lemmas.Nat.{div-mul-add, mod-mul-add}
use Rattle.std.proofs.Math.Nat.{div-add-mod}
use Rattle.aat_lookup.specs.Keys.{at_key}
use Rattle.aat_machine_tables.specs.Rows.{entry_of_cell, index_in, rule_of_cell, rules_of_rows}
use Rattle.aat_machine_tables.specs.Table.{Rule, rule_key}
use Rattle.aat_machine_tables.specs.inside.Grid.{ruled_entry}

-- one cell more
range_last : (a n : ℕ) → range_with_len a (suc n) ≡ range_with_len a n ++ (a + n) ∷ []
range_last a zero = let same : a ≡ a + 0 = omega arith in ap (λ k. k ∷ []) same
range_last a (suc n) =
    let same : a + 1 + n ≡ a + suc n = omega arith in
    ap (λ l. a ∷ l) (range_last (a + 1) n ∙ ap (λ k. range_with_len (a + 1) n ++ k ∷ []) same)

same_parts : (q r s k : ℕ) → r < 65536 → k < 65536 → q * 65536 + r ≡ s * 65536 + k → (q ≡ s) × (r ≡ k)
same_parts q r s k low narrow same = (omega arith, omega arith)

same_test : (a b : ℕ) → a ≡ b → (a == b) ≡ true
same_test a b same = grind (arith, nat_tests)

other_test : (a b : ℕ) → a ≢ b → (a == b) ≡ false
other_test a b other = grind (arith, nat_tests)

-- two cells with one key are one cell
same_cell :
    (w j s k : ℕ) → w < 65536 → k < w → (j / w) * 65536 + j % w ≡ s * 65536 + k → j ≡ s * w + k
same_cell w j s k narrow below same =
    let whole = div-add-mod j w in
    let low : j % w < w = omega arith in
    let parts = same_parts (j / w) (j % w) s k (omega arith) (omega arith) same in
    let state : w * (j / w) ≡ w * s = ap (λ q. w * q) parts.0 in
    omega (arith, whole, state, parts.1)

other_less : (a b : ℕ) → b ≤ a → nat_lt a b ≡ false
other_less a b le = grind (arith, nat_tests)

module _ {E : Type 0} (w s k : ℕ) (narrow : w < 65536) (below : k < w) where
  -- a cell with another key is passed over
  passed : (o : Option E) (a : ℕ) (rest : List (Rule E)) → a ≢ s * w + k
      → at_key rule_key (rule_of_cell w a o ++ rest) (s * 65536 + k) ≡ at_key rule_key rest (s * 65536 + k)
  passed None a rest other = refl
  passed (Some e) a rest other =
      let differs : ((a / w) * 65536 + a % w == (s * 65536 + k)) ≡ false = other_test _ _ (λ same. other (same_cell w a s k narrow below same)) in
      ap (λ b. cond b (Some (a / w, a % w, e)) (at_key rule_key rest (s * 65536 + k))) differs

  -- the cell of the key is found
  here : (o : Option E) (a : ℕ) (rest : List (Rule E)) → a ≡ s * w + k → at_key rule_key rest (s * 65536 + k) ≡ None
      → option_map (λ (r : Rule E). r.2) (at_key rule_key (rule_of_cell w a o ++ rest) (s * 65536 + k)) ≡ o
  here None a rest is none = ap (option_map (λ (r : Rule E). r.2)) none
  here (Some e) a rest is none =
      let state : a / w ≡ s = ap (λ n. n / w) is ∙ div-mul-add s w k below in
      let class : a % w ≡ k = ap (λ n. n % w) is ∙ mod-mul-add s w k below in
      let equal : ((a / w) * 65536 + a % w == (s * 65536 + k)) ≡ true = same_test _ _ (omega (arith, state, class)) in
      ap (λ b. option_map (λ (r : Rule E). r.2) (cond b (Some (a / w, a % w, e)) (at_key rule_key rest (s * 65536 + k)))) equal

  module _ (entry : ℕ → Option E) where
    abbrev rules_from : ℕ → ℕ → List (Rule E)
    rules_from a n = flat_map (λ cell. rule_of_cell w cell (entry cell)) (range_with_len a n)

    -- no other cell has the key
    none_of : (a n : ℕ) → ((i : ℕ) → a ≤ i → i < a + n → i ≢ s * w + k) → at_key rule_key (rules_from a n) (s * 65536 + k) ≡ None
    none_of a zero others = refl
    none_of a (suc n) others =
        passed (entry a) a (rules_from (a + 1) n) (others a (omega arith) (omega arith))
        ∙ none_of (a + 1) n (λ i low high. others i (omega arith) (omega arith))

    found_at : (a n : ℕ) → (a < s * w + k) ⊎ (s * w + k ≤ a) → a ≤ s * w + k → s * w + k < a + suc n
        → option_map (λ (r : Rule E). r.2) (at_key rule_key (rules_from a (suc n)) (s * 65536 + k)) ≡ entry (s * w + k)
    found_at a n (inr past) low high =
        let is : a ≡ s * w + k = omega (arith, past, low) in
        here (entry a) a (rules_from (a + 1) n) is (none_of (a + 1) n (λ i from to. λ e. omega (arith, from, e, is))) ∙ ap entry is
    found_at a zero (inl before) low high = absurd (omega (arith, before, high))
    found_at a (suc n) (inl before) low high =
        ap (option_map (λ (r : Rule E). r.2)) (passed (entry a) a (rules_from (a + 1) (suc n)) (λ e. omega (arith, e, before)))
        ∙ found_at (a + 1) n (cases_lt (a + 1) (s * w + k)) (omega (arith, before)) (omega (arith, high))

module _ {E : Type 0} (w : ℕ) (entries : List E) (rows : List ℕ) where
  -- one cell more, with its rule if it has one
  pub rules_more : (n : ℕ)
      → flat_map (λ cell. rule_of_cell w cell (entry_of_cell entries rows cell)) (range_with_len 0 (n + 1))
      ≡ flat_map (λ cell. rule_of_cell w cell (entry_of_cell entries rows cell)) (range_with_len 0 n)
      ++ rule_of_cell w n (entry_of_cell entries rows n)
  rules_more n =
      let rule = λ (cell : ℕ). rule_of_cell w cell (entry_of_cell entries rows cell) in
      let more : n + 1 ≡ suc n = omega arith in
      let last : 0 + n ≡ n = omega arith in
      ap (λ k. flat_map rule (range_with_len 0 k)) more
      ∙ ap (flat_map rule) (range_last 0 n ∙ ap (λ k. range_with_len 0 n ++ k ∷ []) last)
      ∙ sym (flat_map_more rule [] (range_with_len 0 n) n)

  module _ (s k : ℕ) (narrow : w < 65536) (below : k < w) where
    by_place : (n : ℕ) → n ≡ length rows / 2 → (s * w + k < n) ⊎ (n ≤ s * w + k)
        → ruled_entry (rules_of_rows w entries rows) s k ≡ entry_of_cell entries rows (s * w + k)
    by_place zero is (inl lt) = absurd (omega (arith, lt))
    by_place (suc n) is (inl lt) =
        ap (λ c. option_map (λ (r : Rule E). r.2) (at_key rule_key (rules_from w s k narrow below (entry_of_cell entries rows) 0 c) (s * 65536 + k))) (sym is)
        ∙ found_at w s k narrow below (entry_of_cell entries rows) 0 n (cases_lt 0 (s * w + k)) (omega arith) (omega (arith, lt))
    by_place n is (inr past) =
        let out : nat_lt (s * w + k) (length rows / 2) ≡ false = other_less (s * w + k) (length rows / 2) (omega (arith, is, past)) in
        ap (option_map (λ (r : Rule E). r.2)) (none_of w s k narrow below (entry_of_cell entries rows) 0 (length rows / 2) (λ i low high. λ e. omega (arith, e, is, past, high)))
        ∙ sym (ap (λ b. cond b (slice_get entries (index_in rows (s * w + k))) None) out)

    -- rows have for a state and a class the entry of their cell
    pub row_answers : ruled_entry (rules_of_rows w entries rows) s k ≡ entry_of_cell entries rows (s * w + k)
    row_answers = by_place (length rows / 2) refl (cases_lt (s * w + k) (length rows / 2))
