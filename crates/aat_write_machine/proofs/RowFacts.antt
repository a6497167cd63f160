-- What is known of rules that are not refused.
use Rattle.std.proofs.Common.{◌≡◌, ℕ, zero, suc, ◌+◌, ◌-◌, ◌*◌, ◌/◌, ◌%◌, ◌<◌, ◌≤◌, max, List, [], ◌∷◌, length, get_or, Bool, true, false, not, ◌||◌, ◌==◌, cond, Option, Some, None, position, refl, ap, ◌∙◌, arith}
use Rattle.std.specs.Prelude.{nat_lt, nat_le, option_map}
use Rattle.std.specs.List.{position_or_len}
use Rattle.std.specs.Option.{option_or}
use Rattle.std.proofs.Math.Nat.{div-add-mod}
use Rattle.std.proofs.lemmas.Bool.{ltb-false}
use Rattle.std.proofs.lemmas.Bool.Decides.{nat_tests}
use Rattle.aat_bytes.specs.facts.Ranges.{none_each}
use Rattle.aat_machine_tables.specs.Table.{Rule, rule_key}
use Rattle.aat_machine_tables.specs.declared.state_table.GenericStateEntry.{GenericStateEntry}
use Rattle.aat_write_machine.specs.MachineRefusals.{cell_key, highest_from, highest_named, is_cut, misplaced_from, no_row, not_named, out_of_place, rules_refusal, states_of}
use Rattle.aat_write_machine.specs.declared.error.MorxWriteError.TheVariants.{FewClasses, TooManyRules, OutOfPlace, NoRow, NotNamed}

-- a choice between a refusal and what comes behind it
not_first : {X : Type 0} (b : Bool) (x : X) (o : Option X) → cond b (Some x) o ≡ None → (b ≡ false) × (o ≡ None)
not_first true x o is = absurd (let wrong : ⊥ = cc in wrong)
not_first false x o is = (refl, is)

neither : {X : Type 0} (a b : Option X) → option_or a b ≡ None → (a ≡ None) × (b ≡ None)
neither None b is = (refl, is)
neither (Some x) b is = absurd (let wrong : ⊥ = cc in wrong)

unmapped : {X Y : Type 0} (f : X → Y) (o : Option X) → option_map f o ≡ None → o ≡ None
unmapped f None is = refl
unmapped f (Some x) is = absurd (let wrong : ⊥ = cc in wrong)

cut_none : (b : Bool) (n : ℕ) → cond b (Some n) None ≡ None → b ≡ false
cut_none true n is = absurd (let wrong : ⊥ = cc in wrong)
cut_none false n is = refl

either_false : (a b : Bool) → (a || b) ≡ false → (a ≡ false) × (b ≡ false)
either_false true b is = absurd (let wrong : ⊥ = cc in wrong)
either_false false b is = (refl, is)

test_holds : (a b : ℕ) → (a == b) ≡ true → a ≡ b
test_holds a b is = grind (arith, nat_tests)

test_fails : (n : ℕ) → (n == 0) ≡ false → 1 ≤ n
test_fails n is = grind (arith, nat_tests)

le_fails : (a b : ℕ) → nat_le a b ≡ false → b < a
le_fails a b is = grind (arith, nat_tests)

in_place : (b : Bool) (o : Option ℕ) (n : ℕ) → cond b o (Some n) ≡ None → (b ≡ true) × (o ≡ None)
in_place true o n is = (refl, is)
in_place false o n is = absurd (let wrong : ⊥ = cc in wrong)

none_by : (b : Bool) (n : ℕ) → cond b (Some n) None ≡ None → b ≡ false
none_by true n is = absurd (let wrong : ⊥ = cc in wrong)
none_by false n is = refl

no_place : (b : Bool) (n k : ℕ) → suc n ≤ cond (not b) (1 + k) 0 → (b ≡ false) × (n ≤ k)
no_place true n k le = absurd (omega arith)
no_place false n k le = (refl, omega arith)

module _ {T : Type 0} (w : ℕ) where
  -- rules that are in place have the keys of their cells
  pub keys_are :
      (from : ℕ) (rules : List (Rule (GenericStateEntry T))) → misplaced_from w from rules ≡ None
      → (cell : ℕ) (d : Rule (GenericStateEntry T)) → cell < length rules
      → rule_key (get_or rules cell d) ≡ cell_key w (from + cell)
  keys_are from [] none cell d below = absurd (omega arith)
  keys_are from (r ∷ rules) none zero d below =
      let parts = in_place (rule_key r == cell_key w from) (misplaced_from w (from + 1) rules) from none in
      let same : from ≡ from + 0 = omega arith in
      test_holds (rule_key r) (cell_key w from) parts.0 ∙ ap (cell_key w) same
  keys_are from (r ∷ rules) none (suc cell) d below =
      let parts = in_place (rule_key r == cell_key w from) (misplaced_from w (from + 1) rules) from none in
      let same : from + 1 + cell ≡ from + suc cell = omega arith in
      keys_are (from + 1) rules parts.1 cell d (omega arith) ∙ ap (cell_key w) same

  named_by :
      (n : ℕ) (rules : List (Rule (GenericStateEntry T))) → length rules ≤ position_or_len (λ r. nat_le n r.2.new_state) rules
      → (cell : ℕ) (d : Rule (GenericStateEntry T)) → cell < length rules → (get_or rules cell d).2.new_state < n
  named_by n [] none cell d below = absurd (omega arith)
  named_by n (r ∷ rules) none zero d below =
      let parts = no_place (nat_le n r.2.new_state) (length rules) (position_or_len (λ r. nat_le n r.2.new_state) rules) none in
      le_fails n r.2.new_state parts.0
  named_by n (r ∷ rules) none (suc cell) d below =
      let parts = no_place (nat_le n r.2.new_state) (length rules) (position_or_len (λ r. nat_le n r.2.new_state) rules) none in
      named_by n rules parts.1 cell d (omega arith)

  -- rules none of which names a state from one on name states below it
  pub named_below :
      (n : ℕ) (rules : List (Rule (GenericStateEntry T))) → position (λ r. nat_le n r.2.new_state) rules ≡ None
      → (cell : ℕ) (d : Rule (GenericStateEntry T)) → cell < length rules → (get_or rules cell d).2.new_state < n
  named_below n rules none =
      let place = position_or_len (λ (r : Rule (GenericStateEntry T)). nat_le n r.2.new_state) rules in
      named_by n rules (ltb-false place (length rules) (none_by (nat_lt place (length rules)) place none))

-- where each rule names a state below one, so does the highest
pub highest_below :
    {T : Type 0} (n most : ℕ) (rules : List (Rule (GenericStateEntry T)))
    → most < n
    → ((cell : ℕ) (d : Rule (GenericStateEntry T)) → cell < length rules → (get_or rules cell d).2.new_state < n)
    → highest_from most rules < n
highest_below n most [] low each = low
highest_below n most (r ∷ rules) low each =
    let here : r.2.new_state < n = each 0 r (omega arith) in
    let greater : max most r.2.new_state < n = grind (arith, nat_tests) in
    highest_below n (max most r.2.new_state) rules greater (λ cell d below. each (suc cell) d (omega arith))

-- what is known of rules that are not refused: there are 4 classes or more and at most 65,536 rules, one for each cell
-- of a number of rows, which name these rows alone, and the rows before each row name it or one behind it
pub record AreRows {T : Type 0} (w : ℕ) (rules : List (Rule (GenericStateEntry T))) : Type 0 where
  pub wide : 4 ≤ w
  pub filled : 1 ≤ length rules
  pub few : length rules ≤ 65536
  pub keys : (cell : ℕ) (d : Rule (GenericStateEntry T)) → cell < length rules → rule_key (get_or rules cell d) ≡ cell_key w cell
  pub some : 1 ≤ states_of w rules
  pub whole : length rules ≡ states_of w rules * w
  pub named : (cell : ℕ) (d : Rule (GenericStateEntry T)) → cell < length rules → (get_or rules cell d).2.new_state < states_of w rules
  pub reached : (state : ℕ) → 1 ≤ state → state < states_of w rules → state ≤ highest_named w rules state

whole_rows : (n w : ℕ) → 4 ≤ w → 1 ≤ n → n % w ≡ 0 → (n ≡ n / w * w) × (1 ≤ n / w)
whole_rows n w wide some even =
    let parts = div-add-mod n w in
    let turned : w * (n / w) ≡ n / w * w = omega arith in
    let whole : n ≡ n / w * w = omega (arith, parts, turned, even) in
    (whole, some_row (n / w) n w whole some)
  where
    some_row : (q n w : ℕ) → n ≡ q * w → 1 ≤ n → 1 ≤ q
    some_row zero n w is some = absurd (omega arith)
    some_row (suc q) n w is some = omega arith

pub are_rows :
    {T : Type 0} (w : ℕ) (rules : List (Rule (GenericStateEntry T)))
    → rules_refusal w rules ≡ None → AreRows w rules
are_rows w rules none =
    let n = length rules in
    let behind_many = option_or (option_map OutOfPlace (out_of_place w rules)) (option_or (option_map NoRow (no_row w rules)) (option_map NotNamed (not_named w rules))) in
    let classes = not_first (nat_lt w 4) FewClasses (cond (nat_lt 65536 n) (Some TooManyRules) behind_many) none in
    let many = not_first (nat_lt 65536 n) TooManyRules behind_many classes.1 in
    let places = neither (option_map OutOfPlace (out_of_place w rules)) _ many.1 in
    let place = neither (misplaced_from w 0 rules) (cond (is_cut w rules) (Some n) None) (unmapped OutOfPlace (out_of_place w rules) places.0) in
    let cut = either_false (n == 0) (nat_lt 0 (n % w)) (cut_none (is_cut w rules) n place.1) in
    let states = neither (option_map NoRow (no_row w rules)) _ places.1 in
    let row = unmapped NoRow (no_row w rules) states.0 in
    let name = unmapped NotNamed (not_named w rules) states.1 in
    let wide : 4 ≤ w = ltb-false w 4 classes.0 in
    let some : 1 ≤ n = test_fails n cut.0 in
    let even : n % w ≡ 0 = omega (arith, ltb-false 0 (n % w) cut.1) in
    let rows = whole_rows n w wide some even in
    record {
      wide = wide;
      filled = some;
      few = ltb-false 65536 n many.0;
      keys = λ cell d below.
          let from : 0 + cell ≡ cell = omega arith in
          keys_are w 0 rules place.0 cell d below ∙ ap (cell_key w) from;
      some = rows.1;
      whole = rows.0;
      named = named_below w (states_of w rules) rules row;
      reached = λ state low high.
          ltb-false (highest_named w rules state) state (none_each _ 1 (states_of w rules - 1) name state low (omega arith));
    }
