-- Lookups that no rule of a reached state names.
use Rattle.std.proofs.Common.{◌≡◌, ℕ, ◌<◌, ◌&&◌, Bool, true, false, not, List, get_or, sym, ap, ◌∙◌, refl}
use Rattle.std.specs.List.{Contains, list_any}
use Rattle.std.proofs.lemmas.List.{get_or_default}
use Rattle.std.proofs.lemmas.List.Folds.{list_any_at, list_any_none}
use Rattle.aat_machine_tables.specs.Table.{Rule, TableValue}
use Rattle.aat_machine_tables.specs.declared.entries.ContextualEntryData.{ContextualEntryData}
use Rattle.aat_machine_tables.specs.declared.state_table.GenericStateEntry.{GenericStateEntry}
use Rattle.aat_findings.specs.Named.{IsUnnamed, is_unnamed, is_use, names_lookup}
use Rattle.aat_findings.specs.Reached.{AreExactly, IsReached}
use Rattle.aat_findings.specs.inside.Marks.{AreReachMarks, is_marked}
use Rattle.aat_findings.proofs.Exactly.{exactly_same, not_true}

not_is : (b : Bool) → not b ≡ true → b ≡ false
not_is false is = refl
not_is true is = cc

is_not : (b : Bool) → b ≡ false → not b ≡ true
is_not false is = refl
is_not true is = cc

pub and_both : (a b : Bool) → a ≡ true → b ≡ true → a && b ≡ true
and_both true b here there = there
and_both false b here there = cc

pub and_first : (a b : Bool) → a && b ≡ true → a ≡ true
and_first true b is = refl
and_first false b is = cc

pub and_second : (a b : Bool) → a && b ≡ true → b ≡ true
and_second true b is = is
and_second false b is = cc

none_passes : {X : Type 0} (p : X → Bool) (xs : List X) → list_any p xs ≡ false → (x : X) → Contains xs x → p x ≡ true
    → ⊥
none_passes p xs none x (i, within, at) passes =
    let some : list_any p xs ≡ true = list_any_at p xs i x within (ap p at ∙ passes) in
    let clash : false ≡ true = sym none ∙ some in cc

none_of : {X : Type 0} (p : X → Bool) (xs : List X) → ((x : X) → Contains xs x → p x ≡ true → ⊥)
    → list_any p xs ≡ false
none_of p xs never =
    list_any_none p xs (λ i d within. not_true (p (get_or xs i d)) (never (get_or xs i d) (i, within, get_or_default xs i (get_or xs i d) d within)))

module _ (table : TableValue (GenericStateEntry ContextualEntryData)) (marks : List ℕ)
    (are : AreReachMarks table marks) (place : ℕ) where
  -- where no rule of a marked state names a lookup, none of a reached state does
  pub never_named : is_unnamed marks table.rules place ≡ true
      → (r : Rule (GenericStateEntry ContextualEntryData)) → Contains table.rules r → IsReached table r.0
      → names_lookup place r.2 ≡ true → ⊥
  never_named clear r here reached names =
      none_passes (is_use marks place) table.rules (not_is _ clear) r here (and_both (is_marked marks r.0) (names_lookup place r.2) (are.each r.0 reached) names)

  -- and the other way round
  pub unnamed_by : ((r : Rule (GenericStateEntry ContextualEntryData)) → Contains table.rules r → IsReached table r.0
      → names_lookup place r.2 ≡ true → ⊥) → is_unnamed marks table.rules place ≡ true
  unnamed_by never =
      is_not _ (none_of (is_use marks place) table.rules (λ r here both. never r here (are.sound r.0 (and_first (is_marked marks r.0) (names_lookup place r.2) both)) (and_second (is_marked marks r.0) (names_lookup place r.2) both)))

-- the lookups that no rule of a marked state names are those that nothing uses
pub unnamed_of : (table : TableValue (GenericStateEntry ContextualEntryData)) (marks : List ℕ)
    → AreReachMarks table marks → (count : ℕ) (places : List ℕ)
    → AreExactly (λ i. (i < count) × (is_unnamed marks table.rules i ≡ true)) places
    → AreExactly (IsUnnamed table count) places
unnamed_of table marks are count places are_places =
    exactly_same (λ i. (i < count) × (is_unnamed marks table.rules i ≡ true)) (IsUnnamed table count) places
    (λ i (below, clear). record { below = below; never = never_named table marks are i clear })
    (λ i unnamed. (unnamed.below, unnamed_by table marks are i unnamed.never)) are_places
