-- How the ligatures that are made are searched: marks of the sums that come to a place.
use Rattle.std.specs.Prelude.{◌≡◌, ℕ, ◌+◌, ◌<◌, ◌⊎◌, ◌==◌, ◌&&◌, ◌||◌, Bool, true, not, List, length, slice_index, slice_index_or, Some}
use Rattle.aat_machine_tables.specs.Entries.{has_flag}
use Rattle.aat_machine_tables.specs.Table.{Rule, TableValue}
use Rattle.aat_machine_tables.specs.declared.state_table.GenericStateEntry.{GenericStateEntry}
use Rattle.aat_findings.specs.Growth.{taken_as}
use Rattle.aat_machine_tables.specs.Subtables.{LigatureTables}
use Rattle.aat_findings.specs.Ligatures.{ComesTo, IsBehind, IsMade, is_last, is_store, value_of}
use Rattle.aat_findings.specs.inside.Marks.{is_marked}

-- something holds of an element among the first of a list, and of its place
pub record IsAmong {X : Type 0} (xs : List X) (count : ℕ) (fact : ℕ → X → Type 0) : Type 0 where
  pub place : ℕ
  pub item : X
  pub before : place < count
  pub within : place < length xs
  pub is : slice_index_or xs place item ≡ item
  pub holds : fact place item

-- marks of the numbers of which something holds, of those that there are marks of
pub record AreMarksOf (holds : ℕ → Type 0) (marks : List ℕ) : Type 0 where
  pub sound : (n : ℕ) → is_marked marks n ≡ true → holds n
  pub each : (n : ℕ) → n < length marks → holds n → is_marked marks n ≡ true

-- marks go on by those of other numbers
pub record AreMore (old : List ℕ) (holds : ℕ → Type 0) (new : List ℕ) : Type 0 where
  pub long : length new ≡ length old
  pub marks : AreMarksOf (λ n. (is_marked old n ≡ true) ⊎ holds n) new

-- so many marks, none of which is set
pub record AreNone (count : ℕ) (marks : List ℕ) : Type 0 where
  pub long : length marks ≡ count
  pub zero : (n : ℕ) → slice_index marks n ≡ 0

-- a rule of a marked state has a flag
abbrev pub is_told : List ℕ → ℕ → Rule (GenericStateEntry ℕ) → Bool
is_told marks flag r = is_marked marks r.0 && has_flag r.2 flag

-- and is one of a number
abbrev pub IsTold : List ℕ → ℕ → (Rule (GenericStateEntry ℕ) → ℕ) → ℕ → Rule (GenericStateEntry ℕ) → Type 0
IsTold marks flag number n r = (is_told marks flag r ≡ true) × (number r ≡ n)

-- a glyph is held by marks of classes and of ligatures
abbrev pub is_held : TableValue (GenericStateEntry ℕ) → List ℕ → List ℕ → ℕ → Bool
is_held table classes ligatures glyph =
    (glyph == 0xFFFF) || (is_marked ligatures glyph || is_marked classes (taken_as table glyph))

module _ (values held : List ℕ) (action : ℕ) where
  -- the value of a glyph is added to a sum
  abbrev pub IsValued : ℕ → ℕ → ℕ → Type 0
  IsValued sum n glyph = (v : ℕ) × (value_of values action glyph ≡ Some v) × (sum + v ≡ n)

  -- that of one of the held glyphs is
  abbrev pub IsSummed : ℕ → ℕ → Type 0
  IsSummed sum n = IsAmong held (length held) (λ place glyph. IsValued sum n glyph)

  -- to one of the marked sums
  abbrev pub IsAfter : List ℕ → ℕ → Type 0
  IsAfter sums n = IsAmong sums (length sums) (λ sum mark. (0 < mark) × IsSummed sum n)

module _ (t : LigatureTables) where
  -- a sum comes to a place from the one before it
  abbrev pub IsCarried : ℕ → ℕ → Type 0
  IsCarried place sum =
      (p : ℕ) × (p + 1 ≡ place) × IsBehind t (λ action. not (is_last action)) (ComesTo t p) p sum

  -- a number is that of a ligature which an action before a place stores
  abbrev pub IsStored : ℕ → ℕ → Type 0
  IsStored place n = (p : ℕ) × (p < place) × IsBehind t is_store (ComesTo t p) p n

  -- marks of the ligatures that are made
  pub record AreMadeMarks (made : List ℕ) : Type 0 where
    pub long : length made ≡ length t.ligatures
    pub marks : AreMarksOf (IsMade t) made
