-- A grid that is filled answers as the rules do.
use Rattle.std.proofs.Common.{◌≡◌, ℕ, zero, suc, ◌+◌, ◌-◌, ◌*◌, ◌<◌, ◌≤◌, ◌⊎◌, inl, inr, List, length, get_or, Bool, Option, option_map, ◌∙◌, ap, sym, le_refl, arith}
use Rattle.std.proofs.lemmas.Bool.{cases_lt}
use Rattle.std.proofs.lemmas.List.{get_or_past, get_or_read}
use Rattle.std.proofs.lemmas.Nat.{mul-add-lt, mul-le}
use Rattle.aat_lookup.specs.Keys.{IsRising}
use Rattle.aat_machine_tables.specs.Table.{Rule, rule_key}
use Rattle.aat_machine_tables.specs.declared.judged.JudgedEntry.{JudgedEntry}
use Rattle.aat_machine_tables.specs.declared.judged.JudgedEntry.TheVariants.{Missing}
use Rattle.aat_machine_tables.specs.declared.state_table.GenericStateEntry.{GenericStateEntry}
use Rattle.aat_machine_tables.specs.inside.Grid.{judged, judged_rule, ruled_entry, RulesBelow, AnswersAsRules}
use Rattle.aat_lookup.specs.facts.Rising.{keys_rise}
use Rattle.aat_lookup.specs.facts.Search.{at_key_none}

positive : (a b : ℕ) → 0 < a * b → 0 < a
positive zero b h = omega arith
positive (suc a) b h = omega arith

module _ {T : Type 0} (acts : GenericStateEntry T → Bool) (count states : ℕ) (rules : List (Rule (GenericStateEntry T))) (cells : List (JudgedEntry T))
    (long : length cells ≡ states * count)
    (entries : (s k : ℕ) → s < states → k < count → get_or cells (s * count + k) Missing ≡ judged_rule acts rules s k)
    (below : 0 < states → RulesBelow states rules) where
  none_ruled : (s k : ℕ) → 0 < states → states ≤ s → Missing ≡ judged_rule acts rules s k
  none_ruled s k some past =
      sym (ap (λ (o : Option (Rule (GenericStateEntry T))). judged acts s (option_map (λ (r : Rule (GenericStateEntry T)). r.2) o) (ruled_entry rules 0 k) (ruled_entry rules s 0)) (at_key_none rule_key rules (s * 65536 + k) (λ i d lt. λ e. omega (arith, e, below some i d lt))))

  ruled : (s k : ℕ) → k < count → 0 < states → (s < states) ⊎ (states ≤ s) → get_or cells (s * count + k) Missing ≡ judged_rule acts rules s k
  ruled s k lt some (inl inside) = entries s k inside lt
  ruled s k lt some (inr past) =
      get_or_past cells (s * count + k) Missing (omega (arith, long, mul-le states count s count past (le_refl count)))
      ∙ none_ruled s k some past

  -- a grid with the entry of each class of all states that have a rule, judged
  pub grid_answers : AnswersAsRules acts count cells rules
  grid_answers some s k lt = ruled s k lt (positive states count (omega (arith, long))) (cases_lt s states)

module _ {T : Type 0} (acts : GenericStateEntry T → Bool) (count state : ℕ) (rules : List (Rule (GenericStateEntry T))) (old new : List (JudgedEntry T))
    (long : length old ≡ state * count)
    (kept : (k : ℕ) → k < length old → get_or new k Missing ≡ get_or old k Missing)
    (row : (k : ℕ) → k < count → get_or new (length old + k) Missing ≡ judged_rule acts rules state k)
    (before : (s k : ℕ) → s < state → k < count → get_or old (s * count + k) Missing ≡ judged_rule acts rules s k) where
  in_row : (s k : ℕ) → k < count → (s < state) ⊎ (state ≤ s) → s < state + 1 → get_or new (s * count + k) Missing ≡ judged_rule acts rules s k
  in_row s k lt (inl less) within = kept (s * count + k) (omega (arith, long, mul-add-lt s count k state less lt)) ∙ before s k less lt
  in_row s k lt (inr le) within =
      let same : state ≡ s = omega arith in
      let place : s * count + k ≡ length old + k = ap (λ a. a * count + k) (sym same) ∙ ap (λ a. a + k) (sym long) in
      ap (λ a. get_or new a Missing) place ∙ row k lt ∙ ap (λ a. judged_rule acts rules a k) same

  -- one row more
  pub row_more : (s k : ℕ) → s < state + 1 → k < count → get_or new (s * count + k) Missing ≡ judged_rule acts rules s k
  row_more s k within lt = in_row s k lt (cases_lt s state) within

module _ {E : Type 0} where
  -- each rule is of a state below a number that is above the state of the last one
  pub rules_below :
      (rules : List (Rule E)) (x : Rule E) (key states : ℕ) → IsRising rule_key rules → 0 < length rules
      → x ≡ get_or rules (length rules - 1) x → key ≡ rule_key x → key < states * 65536 → RulesBelow states rules
  rules_below rules x key states rising some read is above i d lt =
      let high = keys_rise rule_key rules rising i (length rules - 1) d (omega arith) (omega arith) in
      let last : key ≡ rule_key (get_or rules (length rules - 1) d) = is ∙ ap rule_key (get_or_read rules (length rules - 1) x (omega arith) read d) in
      omega (arith, high, last, above)
