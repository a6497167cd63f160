-- Which machines are not written. A state table has a row for each state and a cell for each class, and its number of
-- states is not stored: it is the least one, of 1 or more, whose rows name no other state. Apple's TrueType Reference
-- Manual, "Font Tables", section on state tables.
use Rattle.std.specs.Prelude.{ℕ, ◌+◌, ◌*◌, ◌-◌, ◌/◌, ◌%◌, List, [], ◌∷◌, length, take, position, find, max, Bool, Option, Some, None, option_map, if◌then◌else◌, nat_lt, nat_le, ◌==◌, ◌||◌}
use Rattle.std.specs.List.{fold, range_with_len}
use Rattle.std.specs.Option.{option_or}
use Rattle.aat_machine_tables.specs.Table.{Rule, rule_key}
use Rattle.aat_machine_tables.specs.declared.state_table.GenericStateEntry.{GenericStateEntry}
use Rattle.aat_write_machine.specs.declared.error.MorxWriteError.{MorxWriteError}
use Rattle.aat_write_machine.specs.declared.error.MorxWriteError.TheVariants.{FewClasses, TooManyRules, OutOfPlace, NoRow, NotNamed}

-- the key of a cell: its state, then its class
abbrev pub cell_key : ℕ → ℕ → ℕ
cell_key class_count cell = cell / class_count * 65536 + cell % class_count

-- the highest state that entries of rules name, from one on
abbrev pub highest_from : {T : Type 0} → ℕ → List (Rule (GenericStateEntry T)) → ℕ
highest_from most rules = fold (λ most r. max most r.2.new_state) most rules

module _ {T : Type 0} (class_count : ℕ) where
  -- the place of the first rule, from a cell on, that is not that of its cell
  abbrev pub misplaced_from : ℕ → List (Rule (GenericStateEntry T)) → Option ℕ
  misplaced_from cell [] = None
  misplaced_from cell (rule ∷ rules) =
      if rule_key rule == cell_key class_count cell then misplaced_from (cell + 1) rules else Some cell

  -- whether there is no row, or the last row is cut
  abbrev pub is_cut : List (Rule (GenericStateEntry T)) → Bool
  is_cut rules = (length rules == 0) || nat_lt 0 (length rules % class_count)

  -- where the rules are not one for each cell, row by row: a rule of another cell, or the end of a row that is cut
  abbrev pub out_of_place : List (Rule (GenericStateEntry T)) → Option ℕ
  out_of_place rules =
      option_or (misplaced_from 0 rules) (if is_cut rules then Some (length rules) else None)

  -- the number of states
  abbrev pub states_of : List (Rule (GenericStateEntry T)) → ℕ
  states_of rules = length rules / class_count

  -- the place of the first rule whose entry names a state without a row
  abbrev pub no_row : List (Rule (GenericStateEntry T)) → Option ℕ
  no_row rules = position (λ r. nat_le (states_of rules) r.2.new_state) rules

  -- the highest state that the entries of so many rows name
  abbrev pub highest_named : List (Rule (GenericStateEntry T)) → ℕ → ℕ
  highest_named rules rows = highest_from 0 (take (rows * class_count) rules)

  -- the first state such that the rows before it name neither it nor one behind it
  abbrev pub not_named : List (Rule (GenericStateEntry T)) → Option ℕ
  not_named rules = find (λ state. nat_lt (highest_named rules state) state) (range_with_len 1 (states_of rules - 1))

  -- the first refusal of rules
  abbrev pub rules_refusal : List (Rule (GenericStateEntry T)) → Option MorxWriteError
  rules_refusal rules =
      if nat_lt class_count 4 then Some FewClasses else
      if nat_lt 65536 (length rules) then Some TooManyRules else
      option_or (option_map OutOfPlace (out_of_place rules))
      (option_or (option_map NoRow (no_row rules)) (option_map NotNamed (not_named rules)))
