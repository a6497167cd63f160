-- The rule of a state and a class among those of all cells.
use Rattle.std.proofs.Common.{◌≡◌, ◌≢◌, ℕ, suc, ◌+◌, ◌*◌, ◌/◌, ◌%◌, ◌<◌, ◌≤◌, Bool, true, false, ◌==◌, cond, List, [], ◌∷◌, map, Option, Some, find, refl, ap, ◌∙◌, zero-add, arith}
use Rattle.std.specs.List.{range_with_len}
use Rattle.std.specs.Prelude.{option_map, nat_lt}
use Rattle.std.proofs.Math.Nat.{div-add-mod, mul-le-mul_right, suc-mul}
use Rattle.std.proofs.lemmas.Bool.Decides.{nat_tests}
use Rattle.std.proofs.lemmas.Nat.{div-mul-add, mod-mul-add}
use Rattle.aat_lookup.specs.Keys.{at_key}
use Rattle.aat_machine_tables.specs.Table.{entry_of, known_class, rule_key, table_value}
use Rattle.aat_bytes.specs.facts.Ranges.{found_first}
use Rattle.aat_read_kern.specs.ByteMachines.{cell_count, state_count}
use Rattle.aat_read_kern.specs.ByteStates.{entry_of_cell, rule_of, rules_of}
use Rattle.aat_read_kern.specs.KernLaws.{EntriesAreThoseOfBytes}
use Rattle.aat_read_kern.specs.declared.byte_machine.ByteMachine.{ByteMachine}
use Rattle.aat_read_kern.specs.declared.rows.Rows.{Rows}

map_choice : {X Y : Type 0} (f : X → Y) (b : Bool) (x : X) (o : Option X) → cond b (Some (f x)) (option_map f o) ≡ option_map f (cond b (Some x) o)
map_choice f true x o = refl
map_choice f false x o = refl

-- what is found among the values of a function
find_mapped : {X Y : Type 0} (p : Y → Bool) (f : X → Y) (xs : List X) → find p (map f xs) ≡ option_map f (find (λ x. p (f x)) xs)
find_mapped p f [] = refl
find_mapped p f (x ∷ xs) =
    ap (λ o. cond (p (f x)) (Some (f x)) o) (find_mapped p f xs)
    ∙ map_choice f (p (f x)) x (find (λ y. p (f y)) xs)

same_parts : (q r s k : ℕ) → r < 65536 → k < 65536 → q * 65536 + r ≡ s * 65536 + k → (q ≡ s) × (r ≡ k)
same_parts q r s k low narrow same = (omega arith, omega arith)

same_test : (a b : ℕ) → a ≡ b → (a == b) ≡ true
same_test a b same = grind (arith, nat_tests)

other_test : (a b : ℕ) → a ≢ b → (a == b) ≡ false
other_test a b other = grind (arith, nat_tests)

below_test : (a b : ℕ) → a < b → nat_lt a b ≡ true
below_test a b lt = grind (arith, nat_tests)

-- two cells with one key are one cell
same_cell :
    (w j s k : ℕ) → 0 < w → w < 65536 → k < w → (j / w) * 65536 + j % w ≡ s * 65536 + k → j ≡ s * w + k
same_cell w j s k some narrow below same =
    let whole = div-add-mod j w in
    let low : j % w < w = omega arith in
    let parts = same_parts (j / w) (j % w) s k (omega arith) (omega arith) same in
    let state : w * (j / w) ≡ w * s = ap (λ q. w * q) parts.0 in
    omega (arith, whole, state, parts.1)

-- a class of a row is one of the cells
cell_below : (w state class count : ℕ) → class < w → state < count → state * w + class < count * w
cell_below w state class count below within =
    let next : suc state ≤ count = omega (arith, within) in
    let rows : suc state * w ≤ count * w = mul-le-mul_right w next in
    let row : suc state * w ≡ state * w + w = suc-mul state w in
    omega (arith, rows, row, below)

module _ (bytes : List ℕ) (m : ByteMachine) (rows : Rows) (state class : ℕ)
    (narrow : m.class_count < 65536) (below : class < m.class_count) (within : state * m.class_count + class < cell_count m rows) where
  key_here : rule_key (rule_of bytes m rows (state * m.class_count + class)) ≡ state * 65536 + class
  key_here =
      let q = div-mul-add state m.class_count class below in
      let r = mod-mul-add state m.class_count class below in
      omega (arith, q, r)

  rule_found : at_key rule_key (rules_of bytes m rows) (state * 65536 + class) ≡ Some (rule_of bytes m rows (state * m.class_count + class))
  rule_found =
      let mapped = find_mapped (λ r. rule_key r == (state * 65536 + class)) (rule_of bytes m rows) (range_with_len 0 (cell_count m rows)) in
      let here = found_first (λ j. rule_key (rule_of bytes m rows j) == (state * 65536 + class)) 0 (cell_count m rows) (state * m.class_count + class)
      (omega arith) (rw zero-add within)
      (λ j from lt. other_test _ _ (λ same.
      let one = same_cell m.class_count j state class (omega arith) narrow below same in omega (arith, one)))
      (same_test _ _ key_here)
      in
      mapped ∙ ap (option_map (rule_of bytes m rows)) here

  entry_found :
      (classes : List (ℕ × ℕ))
      → entry_of (table_value m.class_count classes (rules_of bytes m rows)) state class
      ≡ Some (entry_of_cell bytes m rows (state * m.class_count + class))
  entry_found classes =
      let known : known_class m.class_count class ≡ class = rw (below_test class m.class_count below) refl in
      ap (λ k. option_map (λ r. r.2) (at_key rule_key (rules_of bytes m rows) (state * 65536 + k))) known
      ∙ ap (option_map (λ r. r.2)) rule_found

-- the law
pub entries_of_bytes : EntriesAreThoseOfBytes
entries_of_bytes bytes m rows classes state class narrow below within =
    entry_found bytes m rows state class narrow below (cell_below m.class_count state class (state_count rows) below within) classes
