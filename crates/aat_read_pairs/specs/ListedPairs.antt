-- Pairs that are listed: format 0 of both tables. Apple's TrueType Reference Manual, "The 'kern' table" and "The 'kerx'
-- table".
use Rattle.std.specs.Prelude.{ℕ, ℤ, ◌+◌, ◌*◌, ◌-◌, ◌/◌, List, length, map, Result, Ok, Err, if◌then◌else◌, nat_lt}
use Rattle.std.specs.List.{range_with_len}
use Rattle.aat_bytes.specs.Faults.{fault_at}
use Rattle.aat_bytes.specs.Numbers.{be16, be32}
use Rattle.aat_bytes.specs.declared.error.Fault.{Fault}
use Rattle.aat_bytes.specs.declared.error.FaultKind.TheVariants.{PastEnd}
use Rattle.aat_bytes.specs.declared.tag.Tag.{Tag}
use Rattle.aat_bytes.specs.declared.tags.TheConstants.{KERN, KERX}
use Rattle.aat_kerning_tables.specs.Pairs.{pair_key}
use Rattle.aat_bytes.specs.Bisection.{found_rows}
use Rattle.aat_read_pairs.specs.KerningValues.{kerning_value, no_tuples}
use Rattle.aat_read_pairs.specs.declared.values.Tuples.{Tuples}

-- the place of a pair: a left glyph, a right glyph, and what stands for their value
abbrev pub pair_place : ℕ → ℕ → ℕ
pair_place place i = place + 6 * i

-- what a pair says
abbrev pub pair_at : List ℕ → Tuples → ℕ → ℕ → ℕ × ℕ × ℤ
pair_at bytes tuples place i = (
  be16 bytes (pair_place place i),
  be16 bytes (pair_place place i + 2),
  kerning_value bytes tuples (be16 bytes (pair_place place i + 4)),
)

-- what so many pairs say
abbrev pub pairs_at : List ℕ → Tuples → ℕ → ℕ → List (ℕ × ℕ × ℤ)
pairs_at bytes tuples place count = map (pair_at bytes tuples place) (range_with_len 0 count)

-- the number by which a pair is searched: its left glyph, then its right one
abbrev pub key_at : List ℕ → ℕ → ℕ → ℕ
key_at bytes place i = pair_key (be16 bytes (pair_place place i)) (be16 bytes (pair_place place i + 2))

-- those of so many pairs that a bisection for their own glyphs finds, as HarfBuzz does: all, where they rise strictly
abbrev pub found_pairs : List ℕ → Tuples → ℕ → ℕ → List (ℕ × ℕ × ℤ)
found_pairs bytes tuples place count = map (pair_at bytes tuples place) (found_rows (key_at bytes place) count)

-- what is found of so many pairs from a place on, or the first that is not there as a whole
unfoldable pub listed_pairs : Tag → List ℕ → Tuples → ℕ → ℕ → Result (List (ℕ × ℕ × ℤ)) Fault
listed_pairs table bytes tuples place count =
    if nat_lt (length bytes) (place + 6 * count) then
    Err (fault_at table PastEnd (pair_place place ((length bytes - place) / 6))) else
    Ok (found_pairs bytes tuples place count)

-- the pairs of a subtable of `kern` that goes on at a place behind its header: their number, three numbers for a search
-- that are not believed, and the pairs
unfoldable pub kern_pairs_at : List ℕ → ℕ → Result (List (ℕ × ℕ × ℤ)) Fault
kern_pairs_at bytes place =
    if nat_lt (length bytes) (place + 8) then Err (fault_at KERN PastEnd place) else
    listed_pairs KERN bytes no_tuples (place + 8) (be16 bytes place)

-- the pairs of a subtable of `kerx` that starts at a place, with a header of 12 bytes, in 32 bits what `kern` has in 16
unfoldable pub kerx_pairs_at : List ℕ → ℕ → ℕ → Result (List (ℕ × ℕ × ℤ)) Fault
kerx_pairs_at bytes start tuple_count =
    if nat_lt (length bytes) (start + 28) then Err (fault_at KERX PastEnd start) else
    listed_pairs KERX bytes (record { place = start; count = tuple_count }) (start + 28) (be32 bytes (start + 12))
