-- How a table keeps its rules. No contract but those of tables cites this.
use Rattle.std.specs.Prelude.{ℕ, ◌*◌, ◌≤◌, Bool, List, length}
use Rattle.aat_lookup.specs.Keys.{IsRising}
use Rattle.aat_machine_tables.specs.Rows.{rules_of_rows, NamesEntries}
use Rattle.aat_machine_tables.specs.Table.{Rule, rule_key}
use Rattle.aat_machine_tables.specs.inside.Grid.{AnswersAsRules}
use Rattle.aat_machine_tables.specs.declared.state_table.GenericStateEntry.{GenericStateEntry}
use Rattle.aat_machine_tables.specs.declared.state_table.Rules.{Rules}
use Rattle.aat_machine_tables.specs.declared.state_table.Rules.TheVariants.{Listed, Rows}

-- the number of classes that stands beside them
abbrev pub class_count_of : {T A : Type 0} → Rules T A → ℕ
class_count_of (Listed count rules grid) = count
class_count_of (Rows count rows entries) = count

-- the rules of a table
abbrev pub kept_rules : {T A : Type 0} → Rules T A → List (Rule (GenericStateEntry T))
kept_rules (Listed count rules grid) = rules.items
kept_rules (Rows count rows entries) = rules_of_rows count entries.items rows.items

-- listed rules rise, and their grid answers as they do; rows are of 65,536 states at most, and name entries
abbrev pub AreKept : {T A : Type 0} → (GenericStateEntry T → Bool) → Rules T A → Type 0
AreKept acts (Listed count rules grid) = IsRising rule_key rules.items × AnswersAsRules acts count grid.items rules.items
AreKept acts (Rows count rows entries) =
    (length rows.items ≤ 131072 * count) × NamesEntries (length entries.items) rows.items
