-- INDEXes: lists of objects of the table. Adobe Technical Note 5176, "The Compact Font Format Specification", "INDEX Data".
use Rattle.std.specs.Prelude.{ℕ, ◌+◌, ◌*◌, ◌-◌, ◌<◌, ◌≤◌, ◌==◌, ◌||◌, List, length, slice_index, Result, Ok, Err, if◌then◌else◌, nat_lt, nat_le}
use Rattle.aat_bytes.specs.Faults.{fault_at}
use Rattle.aat_bytes.specs.Numbers.{be16, be32}
use Rattle.aat_bytes.specs.declared.error.Fault.{Fault}
use Rattle.aat_bytes.specs.declared.error.FaultKind.{FaultKind}
use Rattle.aat_bytes.specs.declared.error.FaultKind.TheVariants.{PastEnd, UnknownFormat, Missing}
use Rattle.aat_read_charstrings.specs.declared.index.Index.{Index}
use Rattle.aat_read_charstrings.specs.declared.index.Span.{Span}
use Rattle.aat_read_charstrings.specs.declared.tags.TheConstants.{CFF}

-- a fault of the table at a place
abbrev pub fault_of : FaultKind → ℕ → Fault
fault_of kind place = fault_at CFF kind place

-- the fault of what is not there as a whole at a place
abbrev pub past : ℕ → Fault
past place = fault_of PastEnd place

-- a span lies inside the table
pub record IsInside (bytes : List ℕ) (span : Span) : Type 0 where
  pub ordered : span.start ≤ span.end
  pub inside : span.end ≤ length bytes

-- the offsets of an INDEX, one more than it has objects, lie inside the table
pub record IsWhole (bytes : List ℕ) (index : Index) : Type 0 where
  pub behind : 0 < index.offsets
  pub small : index.size ≤ 4
  pub inside : index.offsets + index.size * (index.count + 1) ≤ length bytes

-- the number of so many bytes at a place
abbrev pub offset_at : List ℕ → ℕ → ℕ → ℕ
offset_at bytes place size =
    if size == 1 then slice_index bytes place else
    if size == 2 then be16 bytes place else
    if size == 3 then slice_index bytes place * 65536 + be16 bytes (place + 1) else
    if size == 4 then be32 bytes place else 0

-- the place of an offset
abbrev pub entry_place : Index → ℕ → ℕ
entry_place index entry = index.offsets + index.size * entry

-- the place in front of the first object, from which offsets count
abbrev pub data_place : Index → ℕ
data_place index = entry_place index index.count + index.size - 1

-- the INDEX at a place: the number of objects, and where there is one the size of an offset and the offsets
abbrev pub index_at : List ℕ → ℕ → Result Index Fault
index_at bytes place =
    if nat_le (place + 2) (length bytes) then
    (if be16 bytes place == 0 then Ok (record { offsets = place + 2; count = 0; size = 0 }) else
    if nat_le (place + 3) (length bytes) then
    (let size = slice_index bytes (place + 2) in
    if (size == 0) || nat_lt 4 size then Err (fault_of UnknownFormat (place + 2)) else
    if nat_le (place + 3 + size * (be16 bytes place + 1)) (length bytes)
    then Ok (record { offsets = place + 3; count = be16 bytes place; size = size })
    else Err (past (place + 3)))
    else Err (past place))
    else Err (past place)

-- where an INDEX ends: behind its last object
abbrev pub index_end : List ℕ → Index → ℕ
index_end bytes index =
    if index.count == 0 then index.offsets else
    data_place index + offset_at bytes (entry_place index index.count) index.size

-- the bytes of an object: from its offset up to the next one
abbrev pub object_at : List ℕ → Index → ℕ → Result Span Fault
object_at bytes index number =
    if nat_le index.count number then Err (fault_of Missing index.offsets) else
    (let start = data_place index + offset_at bytes (entry_place index number) index.size in
    let end = data_place index + offset_at bytes (entry_place index (number + 1)) index.size in
    if nat_lt end start || nat_lt (length bytes) end
    then Err (past (entry_place index (number + 1)))
    else Ok (record { start = start; end = end }))
