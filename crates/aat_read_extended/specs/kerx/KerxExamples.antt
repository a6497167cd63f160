-- Worked examples of the extended kerning table. Apple's TrueType Reference Manual, "The 'kerx' table".
use Rattle.std.specs.Prelude.{◌≡◌, ℕ, List, [], ◌∷◌, ◌++◌, take, pos, negsuc, true, false, Result, Ok, Err}
use Rattle.aat_bytes.specs.Faults.{fault_at}
use Rattle.aat_bytes.specs.declared.error.Fault.{Fault}
use Rattle.aat_bytes.specs.declared.error.FaultKind.TheVariants.{PastEnd, UnknownFormat, ShortLength}
use Rattle.aat_bytes.specs.declared.tags.TheConstants.{KERX}
use Rattle.aat_machine_tables.specs.Table.{TableValue, Rule}
use Rattle.aat_machine_tables.specs.declared.entries.EntryData.{EntryData}
use Rattle.aat_kerning_tables.specs.declared.kerx.KerxFormat.TheVariants.{Format0, Format1, Format4, Format6Classes}
use Rattle.aat_machine_tables.specs.declared.state_table.GenericStateEntry.{GenericStateEntry}
use Rattle.aat_read_extended.specs.kerx.KerxTables.{KerxValue, kerx_of}

-- the header of a table of a version and of so many subtables, counted in 65,536s and in ones
abbrev pub example_table : ℕ → ℕ → ℕ → List ℕ
example_table version many subtables = 0 ∷ version ∷ 0 ∷ 0 ∷ 0 ∷ many ∷ 0 ∷ subtables ∷ []

-- the header of a subtable: its length, the highest byte of its coverage, its format, and a tuple count of 1
abbrev pub example_subtable : ℕ → ℕ → ℕ → List ℕ
example_subtable size coverage format =
    0 ∷ 0 ∷ 0 ∷ size ∷ coverage ∷ 0 ∷ 0 ∷ format ∷ 0 ∷ 0 ∷ 0 ∷ 1 ∷ []

-- a machine of one state, whose entry pushes and has the action 2, and behind it a list of two numbers. The highest
-- byte of the offset of the list is handed in
abbrev pub example_machine : ℕ → List ℕ
example_machine flags =
    0 ∷ 0 ∷ 0 ∷ 4 ∷ 0 ∷ 0 ∷ 0 ∷ 20 ∷ 0 ∷ 0 ∷ 0 ∷ 36 ∷ 0 ∷ 0 ∷ 0 ∷ 44 ∷ flags ∷ 0 ∷ 0 ∷ 50
    ∷ 0 ∷ 6 ∷ 0 ∷ 4 ∷ 0 ∷ 1 ∷ 0 ∷ 0 ∷ 0 ∷ 0 ∷ 0 ∷ 0 ∷ 0 ∷ 5 ∷ 0 ∷ 3
    ∷ 0 ∷ 0 ∷ 0 ∷ 0 ∷ 0 ∷ 0 ∷ 0 ∷ 0
    ∷ 0 ∷ 0 ∷ 128 ∷ 0 ∷ 0 ∷ 2
    ∷ 0 ∷ 5 ∷ 255 ∷ 254 ∷ []

-- what an example says
abbrev pub read_kerx : List ℕ → Result KerxValue Fault
read_kerx bytes = kerx_of bytes 10

-- the rule of a class, with an action
abbrev pub acts : ℕ → ℕ → Rule (GenericStateEntry EntryData)
acts action class = (0, class, record { new_state = 0; flags = 32768; extra = record { action_index = action } })

-- the machine, with an action
abbrev pub machine_with : ℕ → TableValue (GenericStateEntry EntryData)
machine_with action = record {
  class_count = 4;
  classes = (5, 3) ∷ [];
  rules = acts action 0 ∷ acts action 1 ∷ acts action 2 ∷ acts action 3 ∷ [];
}

-- a machine of format 1 names its values by bytes, and so value 1 by 2; the coverage is for vertical text, across the
-- line, and from the last glyph to the first
abbrev pub StackMachineHasItsValues : Type 0
StackMachineHasItsValues =
    read_kerx (example_table 2 0 1 ++ example_subtable 66 208 1 ++ example_machine 0) ≡ Ok (record {
      subtables =
          record {
            format = Format1 (record { state_table = machine_with 1; values = pos 5 ∷ negsuc 1 ∷ [] });
            horizontal = false;
            has_cross_stream = true;
            variable = false;
            is_last_to_first = true;
            tuple_count = 1;
          } ∷ [];
      left_out = [];
    })

-- the subtable of a machine of format 4 for horizontal text
abbrev pub AnchorMachineHasItsPairs : Type 0
AnchorMachineHasItsPairs =
    read_kerx (example_table 4 0 1 ++ example_subtable 66 0 4 ++ example_machine 64) ≡ Ok (record {
      subtables =
          record {
            format = Format4 (record { state_table = machine_with 2; anchor_points = (5, 65534) ∷ [] });
            horizontal = true;
            has_cross_stream = false;
            variable = false;
            is_last_to_first = false;
            tuple_count = 1;
          } ∷ [];
      left_out = [];
    })

-- one pair, 1 and 2, whose value is the first of the tuple at 34 from the start of the subtable
abbrev pub example_pairs : List ℕ
example_pairs =
    0 ∷ 0 ∷ 0 ∷ 1 ∷ 0 ∷ 0 ∷ 0 ∷ 0 ∷ 0 ∷ 0 ∷ 0 ∷ 0 ∷ 0 ∷ 0 ∷ 0 ∷ 0 ∷ 0 ∷ 1 ∷ 0 ∷ 2 ∷ 0 ∷ 34 ∷ 255 ∷ 254 ∷ []

-- format 0 has pairs
abbrev pub PairsHaveTheirValues : Type 0
PairsHaveTheirValues =
    read_kerx (example_table 2 0 1 ++ example_subtable 36 0 0 ++ example_pairs) ≡ Ok (record {
      subtables =
          record {
            format = Format0 ((1, 2, negsuc 1) ∷ []);
            horizontal = true;
            has_cross_stream = false;
            variable = false;
            is_last_to_first = false;
            tuple_count = 1;
          } ∷ [];
      left_out = [];
    })

-- format 6 with values of 32 bits, without tuples: rows of two values; glyph 5 is in row 1, at 2, and glyph 7 in column
-- 1. The second byte of the last value is handed in
abbrev pub example_long : ℕ → List ℕ
example_long high =
    0 ∷ 0 ∷ 0 ∷ 72 ∷ 0 ∷ 0 ∷ 0 ∷ 6 ∷ 0 ∷ 0 ∷ 0 ∷ 0
    ∷ 0 ∷ 0 ∷ 0 ∷ 1 ∷ 0 ∷ 2 ∷ 0 ∷ 2 ∷ 0 ∷ 0 ∷ 0 ∷ 36 ∷ 0 ∷ 0 ∷ 0 ∷ 46 ∷ 0 ∷ 0 ∷ 0 ∷ 56 ∷ 0 ∷ 0 ∷ 0 ∷ 72
    ∷ 0 ∷ 8 ∷ 0 ∷ 5 ∷ 0 ∷ 1 ∷ 0 ∷ 0 ∷ 0 ∷ 2 ∷ 0 ∷ 8 ∷ 0 ∷ 7 ∷ 0 ∷ 1 ∷ 0 ∷ 0 ∷ 0 ∷ 1
    ∷ 0 ∷ 0 ∷ 0 ∷ 1 ∷ 255 ∷ 255 ∷ 255 ∷ 254 ∷ 0 ∷ 0 ∷ 0 ∷ 4 ∷ 0 ∷ high ∷ 0 ∷ 9 ∷ []

-- values of 32 bits, which 16 bits have
abbrev pub LongValuesAreRead : Type 0
LongValuesAreRead =
    read_kerx (example_table 2 0 1 ++ example_long 0) ≡ Ok (record {
      subtables =
          record {
            format =
                Format6Classes (record {
                  left = (5, 1) ∷ [];
                  right = (7, 1) ∷ [];
                  right_count = 2;
                  values = pos 1 ∷ negsuc 1 ∷ pos 4 ∷ pos 9 ∷ [];
                });
            horizontal = true;
            has_cross_stream = false;
            variable = false;
            is_last_to_first = false;
            tuple_count = 0;
          } ∷ [];
      left_out = [];
    })

-- an unknown format, variations, which need no bytes behind their header, format 4 by control points or coordinates,
-- and format 6 with a value that 16 bits do not have are left out, each with its number
abbrev pub OthersAreLeftOut : Type 0
OthersAreLeftOut =
    read_kerx (example_table 3 0 5 ++ example_subtable 12 0 3 ++ example_subtable 12 32 4
    ++ example_subtable 66 0 4 ++ example_machine 0 ++ example_subtable 66 0 4 ++ example_machine 128 ++ example_long 1)
    ≡ Ok (record {
      subtables = [];
      left_out =
          record { number = 0; fault = fault_at KERX UnknownFormat 12 }
          ∷ record { number = 1; fault = fault_at KERX UnknownFormat 24 }
          ∷ record { number = 2; fault = fault_at KERX UnknownFormat 60 }
          ∷ record { number = 3; fault = fault_at KERX UnknownFormat 126 }
          ∷ record { number = 4; fault = fault_at KERX UnknownFormat 232 }
          ∷ [];
    })

-- a list ends with its subtable, and that of the last one with the table: a value behind the length counts
abbrev pub LastListReachesToTheEnd : Type 0
LastListReachesToTheEnd =
    (read_kerx (example_table 2 0 1 ++ example_subtable 62 0 1 ++ example_machine 0)
    ≡ read_kerx (example_table 2 0 1 ++ example_subtable 66 0 1 ++ example_machine 0))

-- each fault at its place: a header that is cut, another version, 65,536 subtables, a subtable that is not there, a
-- length below its header or past the end, and a machine that is not there
abbrev pub KerxFaultsHaveTheirPlaces : Type 0
KerxFaultsHaveTheirPlaces =
    (read_kerx (take 7 (example_table 2 0 0)) ≡ Err (fault_at KERX PastEnd 0))
    × (read_kerx (example_table 1 0 0) ≡ Err (fault_at KERX UnknownFormat 0))
    × (read_kerx (example_table 2 1 0) ≡ Err (fault_at KERX PastEnd 4))
    × (read_kerx (example_table 2 0 1) ≡ Err (fault_at KERX PastEnd 8))
    × (read_kerx (example_table 2 0 1 ++ example_subtable 11 0 1) ≡ Err (fault_at KERX ShortLength 8))
    × (read_kerx (example_table 2 0 1 ++ example_subtable 13 0 1) ≡ Err (fault_at KERX PastEnd 8))
    × (read_kerx (example_table 2 0 1 ++ example_subtable 12 0 1) ≡ Err (fault_at KERX PastEnd 20))
    × (read_kerx (example_table 2 0 1 ++ example_subtable 12 0 4) ≡ Err (fault_at KERX PastEnd 20))
    × (read_kerx (example_table 2 0 2 ++ example_subtable 62 0 1 ++ take 48 (example_machine 0))
    ≡ Err (fault_at KERX PastEnd 8))
    × (read_kerx (example_table 2 0 0) ≡ Ok (record { subtables = []; left_out = [] }))
