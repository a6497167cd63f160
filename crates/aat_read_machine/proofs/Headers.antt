-- The header of a state table that is read.
use Rattle.std.proofs.Common.{◌≡◌, ℕ, ◌+◌, ◌≤◌, List, length, drop, Ok}
use Rattle.std.specs.Prelude.{nat_lt}
use Rattle.std.proofs.lemmas.Bool.{ltb-false}
use Rattle.aat_bytes.specs.Numbers.{be32}
use Rattle.aat_bytes.specs.declared.tag.Tag.{Tag}
use Rattle.aat_read_machine.specs.StateArray.{StateArray, header_at, state_array_at}
use Rattle.aat_bytes.specs.facts.Parts.{ok_parts, passes}

-- what a header says whose numbers are there
abbrev pub header_of : Tag → List ℕ → ℕ → ℕ → StateArray
header_of table bytes place size = record {
  table = table;
  place = place;
  bytes = drop place bytes;
  class_count = be32 (drop place bytes) 0;
  classes = be32 (drop place bytes) 4;
  states = be32 (drop place bytes) 8;
  entries = be32 (drop place bytes) 12;
  entry_size = 4 + size;
}

-- what is known of a header that is read
pub record ReadHeader (table : Tag) (bytes : List ℕ) (place size : ℕ) (m : StateArray) : Type 0 where
  pub inside : place + 16 ≤ length bytes
  pub narrow : be32 (drop place bytes) 0 ≤ 65535
  pub is : header_of table bytes place size ≡ m

pub header_parts :
    (table : Tag) (bytes : List ℕ) (place size : ℕ) (m : StateArray)
    → state_array_at table bytes place size ≡ Ok m → ReadHeader table bytes place size m
unfolding state_array_at header_at
header_parts table bytes place size m is =
    let whole = passes (nat_lt (length bytes) (place + 16)) _ _ m is in
    let enough = passes (nat_lt (be32 (drop place bytes) 0) 4) _ _ m whole.1 in
    let narrow = passes (nat_lt 65535 (be32 (drop place bytes) 0)) _ _ m enough.1 in
    record {
      inside = ltb-false (length bytes) (place + 16) whole.0;
      narrow = ltb-false 65535 (be32 (drop place bytes) 0) narrow.0;
      is = ok_parts (header_of table bytes place size) m narrow.1;
    }
