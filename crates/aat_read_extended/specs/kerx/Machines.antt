-- The machines of the extended kerning table. Apple's TrueType Reference Manual, "The 'kerx' table", formats 1 and 4.
use Rattle.std.specs.Prelude.{ℕ, ℤ, ◌+◌, ◌*◌, ◌/◌, ◌%◌, List, length, map, Result, Ok, Err, if◌then◌else◌, nat_lt}
use Rattle.std.specs.List.{range_with_len}
use Rattle.aat_bytes.specs.Faults.{after, fault_at}
use Rattle.aat_bytes.specs.Numbers.{be16, be32, signed16}
use Rattle.aat_bytes.specs.declared.error.Fault.{Fault}
use Rattle.aat_bytes.specs.declared.error.FaultKind.TheVariants.{PastEnd}
use Rattle.aat_bytes.specs.declared.tags.TheConstants.{KERX}
use Rattle.aat_kerning_tables.specs.KerningTables.{KerxAnchorTables, KerxStackTables}
use Rattle.aat_read_machine.specs.Entries.{action_at, stack_action_at}
use Rattle.aat_read_machine.specs.Kinds.{list_place}
use Rattle.aat_read_machine.specs.Lists.{count_from}
use Rattle.aat_read_machine.specs.Machine.{machine_at}

-- the values from a place on, signed numbers of 16 bits
abbrev pub values_from : List ℕ → ℕ → List ℤ
values_from bytes place =
    map (λ i. signed16 (be16 bytes (place + 2 * i))) (range_with_len 0 (count_from bytes place 2))

-- the pairs of point indexes from a place on, two numbers of 16 bits each
abbrev pub point_pairs_from : List ℕ → ℕ → List (ℕ × ℕ)
point_pairs_from bytes place =
    map (λ i. (be16 bytes (place + 4 * i), be16 bytes (place + 4 * i + 2)))
    (range_with_len 0 (count_from bytes place 4))

-- format 1: the machine, and behind its header the offset of the values
unfoldable pub stack_tables_at : List ℕ → ℕ → ℕ → Result KerxStackTables Fault
stack_tables_at bytes place glyph_count =
    if nat_lt (length bytes) (place + 20) then Err (fault_at KERX PastEnd place) else
    after (machine_at 2 stack_action_at KERX bytes place glyph_count) (λ state.
    Ok (record { state_table = state; values = values_from bytes (list_place bytes place 16) }))

-- the flags of a machine of format 4, behind its header
abbrev pub anchor_flags : List ℕ → ℕ → ℕ
anchor_flags bytes place = be32 bytes (place + 16)

-- what its entries name: 0 pairs of control points, 1 pairs of anchor points, 2 pairs of coordinates
abbrev pub action_type : List ℕ → ℕ → ℕ
action_type bytes place = anchor_flags bytes place / 1073741824

-- where the pairs start: their offset has the lower 24 bits
abbrev pub pairs_place : List ℕ → ℕ → ℕ
pairs_place bytes place = place + anchor_flags bytes place % 16777216

-- format 4, by anchor points
abbrev pub anchor_tables_at : List ℕ → ℕ → ℕ → Result KerxAnchorTables Fault
anchor_tables_at bytes place glyph_count =
    after (machine_at 2 action_at KERX bytes place glyph_count) (λ state.
    Ok (record { state_table = state; anchor_points = point_pairs_from bytes (pairs_place bytes place) }))
