-- Reached states that want an entry, and rules of states that are not reached.
use Rattle.std.proofs.Common.{◌≡◌, ◌≢◌, ℕ, ◌<◌, ◌≤◌, ◌⊎◌, inl, inr, true, None, List, get_or, sym, ◌∙◌, arith}
use Rattle.std.specs.List.{filter}
use Rattle.std.proofs.lemmas.Bool.{cases_lt, ltb-true}
use Rattle.std.proofs.lemmas.List.{get_or_past}
use Rattle.aat_machine_tables.specs.Table.{Rule, TableValue, entry_of}
use Rattle.aat_machine_tables.specs.declared.state_table.GenericStateEntry.{GenericStateEntry}
use Rattle.aat_findings.specs.Reached.{ArePicked, IsReached, IsUnused, width}
use Rattle.aat_findings.specs.inside.Marks.{AreReachMarks, is_marked, is_unmarked}
use Rattle.aat_findings.proofs.Reaching.{entry_high, never_reached, unmarked_of}

module _ {T : Type 0} (table : TableValue (GenericStateEntry T)) (marks : List ℕ) (are : AreReachMarks table marks) where
  -- the rules of states without a mark are those that no line comes to
  pub unused_of : (rules : List (Rule (GenericStateEntry T))) → rules ≡ filter (λ r. is_unmarked marks r.0) table.rules
      → ArePicked (IsUnused table) table.rules rules
  unused_of rules is = record {
    test = λ r. is_unmarked marks r.0;
    sound = λ r clear. never_reached table marks are r.0 clear;
    each = λ r never. unmarked_of table marks are r.0 never;
    filtered = is;
  }

  within_by : (s : ℕ) → is_marked marks s ≡ true → (s < 65536) ⊎ (65536 ≤ s) → s < 65536
  within_by s here (inl lt) = lt
  within_by s here (inr le) =
      let none : get_or marks s 0 ≡ 0 = get_or_past marks s 0 (omega (arith, are.long)) in
      absurd (omega (arith, ltb-true 0 (get_or marks s 0) here))

  -- a marked state is one of those that a table can have
  pub marked_within : (s : ℕ) → is_marked marks s ≡ true → s < 65536
  marked_within s here = within_by s here (cases_lt s 65536)

  module _ (whole : (s : ℕ) → s < 65536 → is_marked marks s ≡ true → (k : ℕ) → k < width table → entry_of table s k ≢ None) where
    whole_by : (s k : ℕ) → is_marked marks s ≡ true → (k < width table) ⊎ (width table ≤ k) → entry_of table s k ≢ None
    whole_by s k here (inl lt) none = whole s (marked_within s here) here k lt none
    whole_by s k here (inr le) none =
        whole s (marked_within s here) here 1 (omega arith) (sym (entry_high table s k le) ∙ none)

    -- each reached state has an entry for each class
    pub none_missing : (s k : ℕ) → IsReached table s → entry_of table s k ≢ None
    none_missing s k reached none = whole_by s k (are.each s reached) (cases_lt k (width table)) none
