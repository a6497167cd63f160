-- Worked examples of the kerning table and its machines.
use Rattle.std.specs.Prelude.{◌≡◌, ℕ, pos, negsuc, List, [], ◌∷◌, ◌++◌, take, true, false, Ok, Err}
use Rattle.aat_bytes.specs.Faults.{fault_at}
use Rattle.aat_bytes.specs.declared.error.FaultKind.TheVariants.{PastEnd, ShortLength, UnknownFormat}
use Rattle.aat_bytes.specs.declared.tags.TheConstants.{KERN}
use Rattle.aat_machine_tables.specs.Table.{Rule}
use Rattle.aat_machine_tables.specs.declared.entries.KernEntryData.{KernEntryData}
use Rattle.aat_kerning_tables.specs.declared.kern.KernKind.TheVariants.{Pairs}
use Rattle.aat_machine_tables.specs.declared.state_table.GenericStateEntry.{GenericStateEntry}
use Rattle.aat_read_kern.specs.Kern.{kern_of}
use Rattle.aat_read_kern.specs.KernMachines.{kern_machine_at}

-- a machine of 4 classes: glyph 5 has class 3. The row of the first state stands at 20, and one before it at 16. The
-- entries stand at 24: one that goes to the first state, one that pushes and goes to the row before it, and one that
-- names a value and goes back. The values stand at 36: 6 and -3
abbrev pub example_machine : ℕ → List ℕ
example_machine value =
    0 ∷ 4 ∷ 0 ∷ 10 ∷ 0 ∷ 20 ∷ 0 ∷ 24 ∷ 0 ∷ 36
    ∷ 0 ∷ 5 ∷ 0 ∷ 1 ∷ 3 ∷ 0
    ∷ 0 ∷ 0 ∷ 0 ∷ 2 ∷ 0 ∷ 0 ∷ 0 ∷ 1
    ∷ 0 ∷ 20 ∷ 0 ∷ 0 ∷ 0 ∷ 16 ∷ 128 ∷ 0 ∷ 0 ∷ 20 ∷ 64 ∷ value
    ∷ 0 ∷ 6 ∷ 255 ∷ 253 ∷ []

-- the rule of a state and a class: the state that follows, flags and a value
abbrev pub rule : ℕ → ℕ → ℕ → ℕ → ℕ → Rule (GenericStateEntry KernEntryData)
rule state class new_state flags value =
    (state, class, record { new_state = new_state; flags = flags; extra = record { value_index = value } })

-- a rule that does nothing
abbrev pub idle : ℕ → ℕ → Rule (GenericStateEntry KernEntryData)
idle state class = rule state class 0 0 65535

-- the state before the first is the second one; an entry names a value by its place, and one before the values names
-- one that is missing
abbrev pub StatesAreNumberedAnew : Type 0
StatesAreNumberedAnew =
    (kern_machine_at (example_machine 38) 0 ≡ Ok (record {
      state_table = record {
        class_count = 4;
        classes = (5, 3) ∷ [];
        rules =
            idle 0 0 ∷ idle 0 1 ∷ idle 0 2 ∷ rule 0 3 1 32768 65535
            ∷ idle 1 0 ∷ idle 1 1 ∷ idle 1 2 ∷ rule 1 3 0 16384 1 ∷ [];
      };
      values = pos 6 ∷ negsuc 2 ∷ [];
    }))
    × (kern_machine_at (example_machine 35) 0 ≡ Ok (record {
      state_table = record {
        class_count = 4;
        classes = (5, 3) ∷ [];
        rules =
            idle 0 0 ∷ idle 0 1 ∷ idle 0 2 ∷ rule 0 3 1 32768 65535
            ∷ idle 1 0 ∷ idle 1 1 ∷ idle 1 2 ∷ rule 1 3 0 16384 65534 ∷ [];
      };
      values = pos 6 ∷ negsuc 2 ∷ [];
    }))

-- a header that is cut, and an entry that is not there
abbrev pub MachineFaultsHaveTheirPlaces : Type 0
MachineFaultsHaveTheirPlaces =
    (kern_machine_at (take 9 (example_machine 38)) 0 ≡ Err (fault_at KERN PastEnd 0))
    × (kern_machine_at (take 35 (example_machine 38)) 0 ≡ Err (fault_at KERN PastEnd 32))

-- a subtable of format 0 with the header of OpenType and a length: the pair of the glyphs 1 and 2 with -1. Its coverage
-- has the bit that Apple's headers have for variations
abbrev pub example_subtable : ℕ → List ℕ
example_subtable size =
    0 ∷ 0 ∷ 0 ∷ size ∷ 0 ∷ 37 ∷ 0 ∷ 1 ∷ 0 ∷ 0 ∷ 0 ∷ 0 ∷ 0 ∷ 0 ∷ 0 ∷ 1 ∷ 0 ∷ 2 ∷ 255 ∷ 255 ∷ []

-- the last subtable reaches behind its length, which has to be one, as that of another subtable has
abbrev pub LastReachesToTheEnd : Type 0
LastReachesToTheEnd =
    (kern_of (0 ∷ 0 ∷ 0 ∷ 1 ∷ [] ++ example_subtable 6) ≡ Ok (record {
      subtables =
          record {
            kind = Pairs ((1, 2, negsuc 0) ∷ []);
            horizontal = true;
            has_cross_stream = true;
            variable = false;
          } ∷ [];
      left_out = [];
    }))
    × (kern_of (0 ∷ 0 ∷ 0 ∷ 1 ∷ [] ++ example_subtable 5) ≡ Err (fault_at KERN ShortLength 6))
    × (kern_of (0 ∷ 0 ∷ 0 ∷ 1 ∷ [] ++ example_subtable 21) ≡ Err (fault_at KERN PastEnd 6))
    × (kern_of (0 ∷ 0 ∷ 0 ∷ 2 ∷ [] ++ example_subtable 5) ≡ Err (fault_at KERN ShortLength 6))
    × (kern_of (0 ∷ 0 ∷ 0 ∷ 2 ∷ [] ++ example_subtable 20) ≡ Err (fault_at KERN PastEnd 24))

-- the header of Apple's tables with so many subtables, and that of a subtable of 8 bytes with coverage and a format
abbrev pub apples_table : ℕ → List ℕ
apples_table count = 0 ∷ 1 ∷ 0 ∷ 0 ∷ 0 ∷ 0 ∷ 0 ∷ count ∷ []

abbrev pub apples_subtable : ℕ → ℕ → ℕ → List ℕ
apples_subtable size coverage format = 0 ∷ 0 ∷ 0 ∷ size ∷ coverage ∷ format ∷ 0 ∷ 0 ∷ []

-- a subtable of Apple's without pairs, for vertical text; and another version
abbrev pub HeadersHaveTheirBits : Type 0
HeadersHaveTheirBits =
    (kern_of (apples_table 1 ++ apples_subtable 16 128 0 ++ 0 ∷ 0 ∷ 0 ∷ 0 ∷ 0 ∷ 0 ∷ 0 ∷ 0 ∷ []) ≡ Ok (record {
      subtables =
          record {
            kind = Pairs [];
            horizontal = false;
            has_cross_stream = false;
            variable = false;
          } ∷ [];
      left_out = [];
    }))
    × (kern_of (0 ∷ 2 ∷ 0 ∷ 0 ∷ []) ≡ Err (fault_at KERN UnknownFormat 0))

-- a format that is not read with the table's header is left out, with its number and the place of its format, and
-- variations are with that of their coverage: they need no bytes behind their header
abbrev pub OthersAreLeftOut : Type 0
OthersAreLeftOut =
    (kern_of (apples_table 3 ++ apples_subtable 8 0 4 ++ apples_subtable 8 32 0 ++ apples_subtable 8 32 9)
    ≡ Ok (record {
      subtables = [];
      left_out =
          record { number = 0; fault = fault_at KERN UnknownFormat 13 }
          ∷ record { number = 1; fault = fault_at KERN UnknownFormat 20 }
          ∷ record { number = 2; fault = fault_at KERN UnknownFormat 29 }
          ∷ [];
    }))
    × (kern_of (0 ∷ 0 ∷ 0 ∷ 1 ∷ 0 ∷ 0 ∷ 0 ∷ 6 ∷ 3 ∷ 1 ∷ []) ≡ Ok (record {
      subtables = [];
      left_out = record { number = 0; fault = fault_at KERN UnknownFormat 8 } ∷ [];
    }))
