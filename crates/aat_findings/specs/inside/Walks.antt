-- How cycles of entries that stay are searched: the number of the walk that came to a state first, 0 where none did.
use Rattle.std.specs.Prelude.{◌≡◌, ◌≢◌, ℕ, suc, ◌+◌, ◌<◌, Some, List, length, slice_index}
use Rattle.aat_machine_tables.specs.Table.{TableValue}
use Rattle.aat_machine_tables.specs.declared.state_table.GenericStateEntry.{GenericStateEntry}
use Rattle.aat_findings.specs.Stays.{MovesOn, stay_after}

module _ {T : Type 0} (table : TableValue (GenericStateEntry T)) (class : ℕ) where
  -- the walks before a number ended, all of them: from the states to which they came a glyph is left
  pub record AreEnded (walks : List ℕ) (number : ℕ) : Type 0 where
    pub long : length walks ≡ 65536
    pub below : (s : ℕ) → slice_index walks s < number
    pub ended : (s : ℕ) → 0 < slice_index walks s → MovesOn table class s

  -- a walk has come to a state: from the states that it noted entries that stay lead there, and the walks before it
  -- ended
  pub record AreWalked (walks : List ℕ) (number state : ℕ) : Type 0 where
    pub long : length walks ≡ 65536
    pub low : (s : ℕ) → slice_index walks s < number + 1
    pub ended : (s : ℕ) → 0 < slice_index walks s → slice_index walks s ≢ number → MovesOn table class s
    pub leads :
        (s : ℕ) → slice_index walks s ≡ number → (turns : ℕ) × (stay_after table class (suc turns) s ≡ Some state)
