-- Entries that tell nothing new. No contract but those of state arrays cites this.
use Rattle.std.specs.Prelude.{ℕ, ◌+◌, ◌*◌, ◌<◌, ◌≤◌, length, max, if◌then◌else◌, nat_le}
use Rattle.aat_bytes.specs.Numbers.{be16}
use Rattle.aat_read_machine.specs.Lookups.{lookups_to}
use Rattle.aat_read_machine.specs.StateArray.{StateArray, state_count, states_named}
use Rattle.aat_read_machine.specs.declared.state_array.Walk.{Walk}
use Rattle.aat_read_machine.specs.inside.OfRows.{AreNamed}

-- how many lookups there are at least by the entry of an index of a contextual machine, whose entries have 8 bytes
abbrev pub entry_lookups : StateArray → ℕ → ℕ
entry_lookups m index =
    max (lookups_to (be16 m.bytes (m.entries + 8 * index + 4)))
    (lookups_to (be16 m.bytes (m.entries + 8 * index + 6)))

-- the first entries, so many of them, ask for so many lookups at most
abbrev pub AskFor : StateArray → ℕ → ℕ → Type 0
AskFor m passed count = (index : ℕ) → index < passed → entry_lookups m index ≤ count

-- how many states there are at least by the entry of an index: none where it reaches past the end
abbrev pub entry_states : StateArray → ℕ → ℕ
entry_states m index =
    if nat_le (m.entries + m.entry_size * index + m.entry_size) (length m.bytes)
    then be16 m.bytes (m.entries + m.entry_size * index) + 1 else 0

-- the first entries, so many of them, name none but so many states
abbrev pub NameBelow : StateArray → ℕ → ℕ → Type 0
NameBelow m passed count = (index : ℕ) → index < passed → entry_states m index ≤ count

-- what a walk over so many cells has found
pub record IsWalk (m : StateArray) (cells : ℕ) (walk : Walk) : Type 0 where
  -- the states that are counted: at least state 0, and no more than there are
  pub low : 1 ≤ walk.count
  pub high : walk.count ≤ state_count m
  -- no cell names a state behind those
  pub named : (cell : ℕ) → cell < cells → states_named m cell ≤ walk.count
  -- the entries of the cells are the first ones, so many of them, of 65,536 at most
  pub reached : AreNamed m cells walk.reach
  pub few : walk.reach ≤ 65536
  -- the first of these entries are asked already, and name no state behind those that are counted
  pub passed : NameBelow m walk.passed walk.count
  pub within : walk.passed ≤ walk.reach
