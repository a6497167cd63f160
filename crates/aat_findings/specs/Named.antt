-- Which lookups the entries of a contextual machine name. Apple's TrueType Reference Manual, "The 'morx' table",
-- contextual glyph substitution.
use Rattle.std.specs.Prelude.{◌≡◌, ℕ, ◌<◌, ◌==◌, ◌&&◌, ◌||◌, Bool, true, not, List}
use Rattle.std.specs.List.{Contains, list_any}
use Rattle.aat_machine_tables.specs.Entries.{is_present}
use Rattle.aat_machine_tables.specs.Table.{Rule, TableValue}
use Rattle.aat_machine_tables.specs.declared.entries.ContextualEntryData.{ContextualEntryData}
use Rattle.aat_machine_tables.specs.declared.state_table.GenericStateEntry.{GenericStateEntry}
use Rattle.aat_findings.specs.Reached.{IsReached}
use Rattle.aat_findings.specs.inside.Marks.{is_marked}

-- an index names the lookup at a place; 0xFFFF names none
abbrev pub is_of_place : ℕ → ℕ → Bool
is_of_place place index = is_present index && (index == place)

-- an entry names the lookup at a place, for the marked glyph or for the current one
abbrev pub names_lookup : ℕ → GenericStateEntry ContextualEntryData → Bool
names_lookup place e = is_of_place place e.extra.mark_index || is_of_place place e.extra.current_index

-- nothing uses a lookup, which is one of so many: no rule of a state that some line reaches names it
pub record IsUnnamed (table : TableValue (GenericStateEntry ContextualEntryData)) (count place : ℕ) : Type 0 where
  pub below : place < count
  pub never :
      (r : Rule (GenericStateEntry ContextualEntryData)) → Contains table.rules r → IsReached table r.0
      → names_lookup place r.2 ≡ true → ⊥

-- a rule is one of a marked state, and names a lookup
abbrev pub is_use : List ℕ → ℕ → Rule (GenericStateEntry ContextualEntryData) → Bool
is_use marks place r = is_marked marks r.0 && names_lookup place r.2

-- no rule of a marked state names a lookup
abbrev pub is_unnamed : List ℕ → List (Rule (GenericStateEntry ContextualEntryData)) → ℕ → Bool
is_unnamed marks rules place = not (list_any (is_use marks place) rules)
