-- Entries that rows name. No contract but those of state arrays and machines cites this.
use Rattle.std.specs.Prelude.{ℕ, ◌+◌, ◌*◌, ◌<◌, List, map}
use Rattle.std.specs.List.{range_with_len}
use Rattle.aat_bytes.specs.Numbers.{be16}
use Rattle.aat_machine_tables.specs.declared.state_table.GenericStateEntry.{GenericStateEntry}
use Rattle.aat_read_machine.specs.Entries.{entry_at}
use Rattle.aat_read_machine.specs.StateArray.{StateArray, index_place}

-- so many cells name one of so many entries each
abbrev pub AreNamed : StateArray → ℕ → ℕ → Type 0
AreNamed m cells count = (cell : ℕ) → cell < cells → be16 m.bytes (index_place m cell) < count

-- the first entries, as many as are asked for
abbrev pub entries_of : {T : Type 0} → (List ℕ → ℕ → T) → StateArray → ℕ → List (GenericStateEntry T)
entries_of extra_at m count =
    map (λ index. entry_at extra_at m.bytes (m.entries + m.entry_size * index)) (range_with_len 0 count)
