-- The rule of a state and a class among those of all cells.
use Rattle.std.proofs.Common.{◌≡◌, ◌≢◌, ℕ, ◌+◌, ◌*◌, ◌/◌, ◌%◌, ◌<◌, Bool, true, false, ◌==◌, cond, List, [], ◌∷◌, map, Option, Some, find, refl, ap, ◌∙◌, zero-add, arith}
use Rattle.std.specs.List.{range_with_len}
use Rattle.std.specs.Prelude.{option_map, nat_lt}
use Rattle.std.proofs.Math.Nat.{div-add-mod}
use Rattle.std.proofs.lemmas.Bool.Decides.{nat_tests}
use Rattle.std.proofs.lemmas.Nat.{div-mul-add, mod-mul-add}
use Rattle.aat_lookup.specs.Keys.{at_key}
use Rattle.aat_machine_tables.specs.Table.{entry_of, known_class, rule_key, table_value}
use Rattle.aat_read_machine.specs.Entries.{entry_at}
use Rattle.aat_read_machine.specs.MachineLaws.{HasEntriesOfBytes}
use Rattle.aat_read_machine.specs.StateArray.{StateArray, entry_place, rule_of, rules_of}
use Rattle.aat_bytes.specs.facts.Ranges.{found_first}

map_choice : {X Y : Type 0} (f : X → Y) (b : Bool) (x : X) (o : Option X) → cond b (Some (f x)) (option_map f o) ≡ option_map f (cond b (Some x) o)
map_choice f true x o = refl
map_choice f false x o = refl

-- what is found among the values of a function
find_mapped : {X Y : Type 0} (p : Y → Bool) (f : X → Y) (xs : List X) → find p (map f xs) ≡ option_map f (find (λ x. p (f x)) xs)
find_mapped p f [] = refl
find_mapped p f (x ∷ xs) =
    ap (λ o. cond (p (f x)) (Some (f x)) o) (find_mapped p f xs)
    ∙ map_choice f (p (f x)) x (find (λ y. p (f y)) xs)

same_parts : (q r s k : ℕ) → r < 65536 → k < 65536 → q * 65536 + r ≡ s * 65536 + k → (q ≡ s) × (r ≡ k)
same_parts q r s k low narrow same = (omega arith, omega arith)

same_test : (a b : ℕ) → a ≡ b → (a == b) ≡ true
same_test a b same = grind (arith, nat_tests)

other_test : (a b : ℕ) → a ≢ b → (a == b) ≡ false
other_test a b other = grind (arith, nat_tests)

below_test : (a b : ℕ) → a < b → nat_lt a b ≡ true
below_test a b lt = grind (arith, nat_tests)

-- two cells with one key are one cell
same_cell :
    (w j s k : ℕ) → 0 < w → w < 65536 → k < w → (j / w) * 65536 + j % w ≡ s * 65536 + k → j ≡ s * w + k
same_cell w j s k some narrow below same =
    let whole = div-add-mod j w in
    let low : j % w < w = omega arith in
    let parts = same_parts (j / w) (j % w) s k (omega arith) (omega arith) same in
    let state : w * (j / w) ≡ w * s = ap (λ q. w * q) parts.0 in
    omega (arith, whole, state, parts.1)

module _ {T : Type 0} (extra_at : List ℕ → ℕ → T) (m : StateArray) (cells : ℕ) (state class : ℕ)
    (narrow : m.class_count < 65536) (below : class < m.class_count) (within : state * m.class_count + class < cells) where
  cell : ℕ
  cell = state * m.class_count + class

  key_here : rule_key (rule_of extra_at m (state * m.class_count + class)) ≡ state * 65536 + class
  key_here =
      let q = div-mul-add state m.class_count class below in
      let r = mod-mul-add state m.class_count class below in
      omega (arith, q, r)

  rule_found : at_key rule_key (rules_of extra_at m cells) (state * 65536 + class) ≡ Some (rule_of extra_at m (state * m.class_count + class))
  rule_found =
      let mapped = find_mapped (λ r. rule_key r == (state * 65536 + class)) (rule_of extra_at m) (range_with_len 0 cells) in
      let here = found_first (λ j. rule_key (rule_of extra_at m j) == (state * 65536 + class)) 0 cells (state * m.class_count + class)
      (omega arith) (rw zero-add within)
      (λ j from lt. other_test _ _ (λ same.
      let one = same_cell m.class_count j state class (omega arith) narrow below same in omega (arith, one)))
      (same_test _ _ key_here)
      in
      mapped ∙ ap (option_map (rule_of extra_at m)) here

  entry_found :
      (classes : List (ℕ × ℕ))
      → entry_of (table_value m.class_count classes (rules_of extra_at m cells)) state class
      ≡ Some (entry_at extra_at m.bytes (entry_place m (state * m.class_count + class)))
  entry_found classes =
      let known : known_class m.class_count class ≡ class = rw (below_test class m.class_count below) refl in
      ap (λ k. option_map (λ r. r.2) (at_key rule_key (rules_of extra_at m cells) (state * 65536 + k))) known
      ∙ ap (option_map (λ r. r.2)) rule_found

pub entries_hold : {T : Type 0} (extra_at : List ℕ → ℕ → T) → HasEntriesOfBytes extra_at
entries_hold extra_at m cells classes state class narrow below within =
    entry_found extra_at m cells state class narrow below within classes
