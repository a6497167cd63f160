-- Which ligature subtables are settled: no action takes more components than were surely held since state 0. Apple's
-- TrueType Reference Manual, "The 'morx' table", ligature substitution.
use Rattle.std.specs.Prelude.{◌≡◌, ◌≢◌, ℕ, ◌+◌, ◌≤◌, ◌<◌, ◌==◌, ◌||◌, Bool, true, false, max, bit_and, List, [], ◌∷◌, drop, Some, if◌then◌else◌}
use Rattle.aat_machine_tables.specs.Entries.{goes_on, has_flag}
use Rattle.aat_machine_tables.specs.Table.{TableValue, entry_of}
use Rattle.aat_machine_tables.specs.declared.state_table.GenericStateEntry.{GenericStateEntry}
use Rattle.aat_cuts.specs.Reached.{AreFollowed, IsComplete}
use Rattle.aat_cuts.specs.Settled.{IsClassOfGlyph}

-- how many components a list of actions asks for: one for each through the last, or one more than there are
abbrev pub action_count : List ℕ → ℕ
action_count [] = 1
action_count (a ∷ rest) = if bit_and a 0x80000000 == 0 then action_count rest + 1 else 1

-- how many components an entry takes: none without an action
abbrev pub taken_by : List ℕ → GenericStateEntry ℕ → ℕ
taken_by actions e = if has_flag e 0x2000 then action_count (drop e.extra actions) else 0

-- how many components are surely held behind a push, where the newest of them may be the glyph at the cursor already
abbrev pub held_behind_push : Bool → Bool → ℕ → ℕ
held_behind_push pushes here held = if pushes then (if here then max held 1 else held + 1) else held

-- how many components a state may hold: none in state 0, else as many as there are slots
abbrev pub most_held : ℕ → ℕ
most_held state = if state == 0 then 0 else 64

module _ (table : TableValue (GenericStateEntry ℕ)) (actions : List ℕ) (is_reached is_here : ℕ → Bool) (held : ℕ → ℕ) where
  -- a labelling by how many components are held, and by whether the newest of them may be the glyph at the cursor, since
  -- entries that stay led there from one that pushes, suffices for the actions: in states with no more components than
  -- slots an action takes no more than are held, and leaves one in place of what it takes
  pub record IsSufficient : Type 0 where
    pub here :
        (s k : ℕ) (e : GenericStateEntry ℕ) → is_reached s ≡ true → IsClassOfGlyph table k → entry_of table s k ≡ Some e
        → goes_on e ≡ false → (has_flag e 0x8000 || is_here s) ≡ true → is_here e.new_state ≡ true
    pub enough :
        (s k : ℕ) (e : GenericStateEntry ℕ) → is_reached s ≡ true → IsClassOfGlyph table k → entry_of table s k ≡ Some e
        → held s ≤ 64 → taken_by actions e ≤ held_behind_push (has_flag e 0x8000) (is_here s) (held s)
    pub kept :
        (s k : ℕ) (e : GenericStateEntry ℕ) → is_reached s ≡ true → IsClassOfGlyph table k → entry_of table s k ≡ Some e
        → held s ≤ 64
        → held e.new_state + taken_by actions e
        ≤ held_behind_push (has_flag e 0x8000) (is_here s) (held s) + (if has_flag e 0x2000 then 1 else 0)

  -- tidy: it suffices, and no components are held in state 0, and nowhere more than there are slots
  pub record IsLigatureTidy : Type 0 where
    pub first : held 0 ≡ 0
    pub few : (s : ℕ) → is_reached s ≡ true → held s ≤ 64
    pub sufficient : IsSufficient

-- agreeing: where an entry without an action and that of state 0 for the same class are taken for one, they both push, or
-- neither does, or no component is held behind them
pub record IsLigatureAgreeing (table : TableValue (GenericStateEntry ℕ)) (is_reached : ℕ → Bool) (held : ℕ → ℕ) : Type 0
  where
    pub agreed :
        (s k : ℕ) (e f : GenericStateEntry ℕ) → is_reached s ≡ true → IsClassOfGlyph table k
        → entry_of table s k ≡ Some e → entry_of table 0 k ≡ Some f
        → has_flag e 0x2000 ≡ false → has_flag f 0x2000 ≡ false
        → e.new_state ≡ f.new_state → goes_on e ≡ goes_on f → 0 < held e.new_state
        → has_flag e 0x8000 ≡ has_flag f 0x8000

-- a ligature machine with these actions is settled where some labelling is tidy and agreeing
abbrev pub IsLigatureSettled : TableValue (GenericStateEntry ℕ) → List ℕ → Type 0
IsLigatureSettled table actions =
    (is_reached : ℕ → Bool) × IsComplete table is_reached
    × (is_here : ℕ → Bool) × (held : ℕ → ℕ) × IsLigatureTidy table actions is_reached is_here held
    × IsLigatureAgreeing table is_reached held

-- each labelling that suffices has more components in a state than a number
abbrev pub HoldsOver : TableValue (GenericStateEntry ℕ) → List ℕ → ℕ → ℕ → Type 0
HoldsOver table actions state number =
    (is_reached is_here : ℕ → Bool) (held : ℕ → ℕ) → AreFollowed table is_reached
    → IsSufficient table actions is_reached is_here held → number < held state

-- the entry of a state and a glyph's class and that of state 0 are taken for one, without an action, and one of the two
-- pushes, and a component has to be held behind them
abbrev pub IsPushTakenAt : TableValue (GenericStateEntry ℕ) → List ℕ → ℕ → ℕ → Type 0
IsPushTakenAt table actions state class =
    (e f : GenericStateEntry ℕ) × (entry_of table state class ≡ Some e) × (entry_of table 0 class ≡ Some f)
    × (has_flag e 0x2000 ≡ false) × (has_flag f 0x2000 ≡ false) × (e.new_state ≡ f.new_state)
    × (goes_on e ≡ goes_on f) × (has_flag e 0x8000 ≢ has_flag f 0x8000) × HoldsOver table actions e.new_state 0
    × IsClassOfGlyph table class
