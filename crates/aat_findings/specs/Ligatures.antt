-- The ligatures that the actions of a ligature subtable can make. Apple's TrueType Reference Manual, "The 'morx' table",
-- ligature substitution.
use Rattle.std.specs.Prelude.{◌≡◌, ℕ, zero, suc, ◌+◌, ◌*◌, ◌<◌, ◌⊎◌, Bool, true, not, nat_lt, List, length, slice_get, Some}
use Rattle.std.specs.List.{Contains}
use Rattle.aat_machine_tables.specs.Entries.{has_flag}
pub use Rattle.aat_machine_tables.specs.Actions.{is_last, is_store, value_of}
use Rattle.aat_machine_tables.specs.Subtables.{LigatureTables}
use Rattle.aat_machine_tables.specs.Table.{Rule}
use Rattle.aat_machine_tables.specs.declared.state_table.GenericStateEntry.{GenericStateEntry}
use Rattle.aat_findings.specs.Growth.{taken_as}
use Rattle.aat_findings.specs.Reached.{AreExactly, IsReached}

-- as many actions, ligatures and glyphs that may be held are too many to be searched
abbrev pub is_long : ℕ → ℕ → ℕ → Bool
is_long actions ligatures held = nat_lt 0x10000000 (actions * ligatures * held)

module _ (t : LigatureTables) where
  -- a number is that of some rule which has a flag, of a state that some line reaches
  pub record IsNamed (flag : ℕ) (number : Rule (GenericStateEntry ℕ) → ℕ) (n : ℕ) : Type 0 where
    pub rule : Rule (GenericStateEntry ℕ)
    pub listed : Contains t.state.rules rule
    pub reached : IsReached t.state rule.0
    pub flagged : has_flag rule.2 flag ≡ true
    pub named : number rule ≡ n

  -- a glyph is the deleted one, or a ligature, or one of a class at which some rule holds the glyph
  abbrev pub HasWay : ℕ → Type 0
  HasWay glyph =
      (glyph ≡ 0xFFFF)
      ⊎ (Contains t.ligatures (record { 0 = glyph })
      ⊎ IsNamed 0x8000 (λ r. r.1) (taken_as t.state glyph))

  -- a glyph may be held as a component
  pub record IsHeld (glyph : ℕ) : Type 0 where
    pub small : glyph < 65536
    pub way : HasWay glyph

  -- a sum becomes another by an action, for some glyph that may be held
  pub record IsAdded (action before after : ℕ) : Type 0 where
    pub glyph : ℕ
    pub value : ℕ
    pub held : IsHeld glyph
    pub read : value_of t.components action glyph ≡ Some value
    pub sum : before + value ≡ after

  -- a sum is behind the action at a place, which passes a test: that becomes it from one of those that come there
  pub record IsBehind (test : ℕ → Bool) (coming : ℕ → Type 0) (place after : ℕ) : Type 0 where
    pub action : ℕ
    pub before : ℕ
    pub listed : slice_get t.actions place ≡ Some action
    pub passes : test action ≡ true
    pub comes : coming before
    pub added : IsAdded action before after

  -- the actions of some rule begin at a place, with the sum 0
  abbrev pub IsBegun : ℕ → ℕ → Type 0
  IsBegun place sum = (sum ≡ 0) × IsNamed 0x2000 (λ r. r.2.extra) place

  -- a sum comes to a place: actions begin there, or the one before is not the last
  unfoldable pub ComesTo : ℕ → ℕ → Type 0
  ComesTo zero sum = IsBegun zero sum
  ComesTo (suc place) sum =
      IsBegun (suc place) sum ⊎ IsBehind (λ action. not (is_last action)) (ComesTo place) place sum

  -- a ligature is made: its number is the sum behind some action that stores one
  pub record IsMade (number : ℕ) : Type 0 where
    pub below : number < length t.ligatures
    pub place : ℕ
    pub stored : IsBehind is_store (ComesTo place) place number

  -- whether the search is long, by the number of the glyphs that may be held
  pub record IsSearch (long : Bool) : Type 0 where
    pub glyphs : List ℕ
    pub held : AreExactly IsHeld glyphs
    pub is : is_long (length t.actions) (length t.ligatures) (length glyphs) ≡ long
