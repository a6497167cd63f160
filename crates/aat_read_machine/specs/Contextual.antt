-- Contextual glyph substitution. Apple's TrueType Reference Manual, "The 'morx' table".
use Rattle.std.specs.Prelude.{ℕ, ◌+◌, ◌*◌, List, [], ◌∷◌, length, map, None, Some, Result, Ok, Err, if◌then◌else◌, nat_lt}
use Rattle.std.specs.List.{range_with_len}
use Rattle.aat_bytes.specs.Faults.{after, fault_at}
use Rattle.aat_bytes.specs.Numbers.{be32}
use Rattle.aat_bytes.specs.declared.error.Fault.{Fault}
use Rattle.aat_bytes.specs.declared.error.FaultKind.TheVariants.{PastEnd}
use Rattle.aat_bytes.specs.declared.tags.TheConstants.{MORX}
use Rattle.aat_machine_tables.specs.Subtables.{ContextualTables}
use Rattle.aat_read_lookup.specs.Lookups.{lookup_at}
use Rattle.aat_read_machine.specs.Entries.{contextual_at}
use Rattle.aat_read_machine.specs.Kinds.{list_place}
use Rattle.aat_read_machine.specs.Lookups.{lookup_count}
use Rattle.aat_read_machine.specs.Machine.{with_classes}
use Rattle.aat_read_machine.specs.Room.{lookup_past_room, room_left}
use Rattle.aat_read_machine.specs.StateArray.{StateArray, cells_of, class_place, state_array_at}

-- each of some results, or the first fault
abbrev pub each_of : {X : Type 0} → List (Result X Fault) → Result (List X) Fault
each_of [] = Ok []
each_of (r ∷ rs) = after r (λ x. after (each_of rs) (λ xs. Ok (x ∷ xs)))

-- the lookup of an index: a list has their offsets of 32 bits, from its own start. One with offset 0 is the list, as
-- HarfBuzz has it
unfoldable pub listed_lookup : List ℕ → ℕ → ℕ → ℕ → Result (List (ℕ × ℕ)) Fault
listed_lookup bytes list glyph_count i =
    if nat_lt (length bytes) (list + 4 * i + 4) then Err (fault_at MORX PastEnd (list + 4 * i)) else
    lookup_at MORX bytes (list + be32 bytes (list + 4 * i)) glyph_count

-- so many lookups of a list, or the first fault
abbrev pub lookups_at : List ℕ → ℕ → ℕ → ℕ → Result (List (List (ℕ × ℕ))) Fault
lookups_at bytes list glyph_count count = each_of (map (listed_lookup bytes list glyph_count) (range_with_len 0 count))

-- the lookups of a list, if all of them have room, or the first fault
unfoldable pub lookups_within : List ℕ → ℕ → ℕ → ℕ → ℕ → Result (List (List (ℕ × ℕ))) Fault
lookups_within bytes list glyph_count room count = elim (lookup_past_room bytes list glyph_count room count) [
  | None ↦ lookups_at bytes list glyph_count count
  | Some i ↦ Err (fault_at MORX PastEnd (list + 4 * i))
]

-- the tables of a machine whose cells are there, and whose list of lookups starts at a place
unfoldable pub contextual_tables : List ℕ → ℕ → ℕ → StateArray → ℕ → Result ContextualTables Fault
contextual_tables bytes list glyph_count m cells =
    after (with_classes contextual_at m cells (lookup_at MORX bytes (class_place m) glyph_count)) (λ state.
    after (lookups_within bytes list glyph_count (room_left m cells) (lookup_count m cells)) (λ lookups.
    Ok (record { state = state; lookups = lookups })))

-- the machine, and behind its header the offset of the list of lookups
unfoldable pub contextual_tables_at : List ℕ → ℕ → ℕ → Result ContextualTables Fault
contextual_tables_at bytes place glyph_count =
    if nat_lt (length bytes) (place + 20) then Err (fault_at MORX PastEnd place) else
    after (state_array_at MORX bytes place 4) (λ m. after (cells_of m) (λ cells.
    contextual_tables bytes (list_place bytes place 16) glyph_count m cells))
