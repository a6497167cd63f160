-- Class tables of `kern`. Apple's TrueType Reference Manual, "The 'kern' table".
use Rattle.std.specs.Prelude.{ℕ, ◌+◌, ◌*◌, ◌-◌, List, length, min, Result, Ok, Err, if◌then◌else◌, nat_lt}
use Rattle.aat_bytes.specs.Faults.{fault_at}
use Rattle.aat_bytes.specs.Numbers.{be16}
use Rattle.aat_bytes.specs.declared.error.Fault.{Fault}
use Rattle.aat_bytes.specs.declared.error.FaultKind.TheVariants.{PastEnd}
use Rattle.aat_bytes.specs.declared.tags.TheConstants.{KERN}
use Rattle.aat_read_pairs.specs.declared.class_table.ClassTable.{ClassTable}

-- the class table at a place: the first glyph, the number of glyphs, and an offset of 16 bits for each. Offsets of
-- glyphs above 0xFFFF are left out
unfoldable pub class_table_at : List ℕ → ℕ → Result ClassTable Fault
class_table_at bytes place =
    if nat_lt (length bytes) (place + 4) then Err (fault_at KERN PastEnd place) else
    if nat_lt (length bytes) (place + 4 + 2 * be16 bytes (place + 2)) then Err (fault_at KERN PastEnd (place + 4)) else
    Ok (record {
      offsets = place + 4;
      first = be16 bytes place;
      count = min (be16 bytes (place + 2)) (65536 - be16 bytes place);
    })

-- where the offset of the glyph stands that is so many glyphs behind the first
abbrev pub offset_place : ClassTable → ℕ → ℕ
offset_place table k = table.offsets + 2 * k

-- the offset of that glyph
abbrev pub offset_of : List ℕ → ClassTable → ℕ → ℕ
offset_of bytes table k = be16 bytes (offset_place table k)
