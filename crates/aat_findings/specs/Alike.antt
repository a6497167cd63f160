-- Classes that a machine does not tell apart. Apple's TrueType Reference Manual, "Font Tables", section on state
-- tables.
use Rattle.std.specs.Prelude.{◌≡◌, ℕ, ◌<◌, List}
use Rattle.std.specs.List.{All, AllPairs, Contains}
use Rattle.aat_machine_tables.specs.Table.{TableValue, entry_of}
use Rattle.aat_findings.specs.Reached.{state_count}

module _ {E : Type 0} (table : TableValue E) where
  -- each state of the table has the same entry for two classes, or none for either
  abbrev pub AreAlike : ℕ → ℕ → Type 0
  AreAlike j k = (s : ℕ) → s < state_count table.rules → entry_of table s j ≡ entry_of table s k

  -- two classes are alike, and the first of them is the least class that is alike to the second
  pub record IsTwin (p : ℕ × ℕ) : Type 0 where
    pub before : p.0 < p.1
    pub alike : AreAlike p.0 p.1
    pub first : (i : ℕ) → i < p.0 → AreAlike i p.1 → ⊥

  -- a list has each class below a bound that is alike to one before it, rising, with the least such class
  pub record AreTwins (pairs : List (ℕ × ℕ)) (bound : ℕ) : Type 0 where
    pub rising : AllPairs (λ p q. p.1 < q.1) pairs
    pub below : All (λ p. p.1 < bound) pairs
    pub sound : All IsTwin pairs
    pub each : (j k : ℕ) → j < k → k < bound → AreAlike j k → (i : ℕ) × Contains pairs (i, k)
