-- Worked examples of kerning tables that are written. Apple's TrueType Reference Manual, "The 'kern' table".
use Rattle.std.specs.Prelude.{◌≡◌, ℕ, pos, negsuc, [], ◌∷◌, ◌++◌, true, false, Ok, Err}
use Rattle.aat_kerning_tables.specs.Classes.{ClassValues}
use Rattle.aat_kerning_tables.specs.KerningTables.{KernMachineTables}
use Rattle.aat_kerning_tables.specs.declared.kern.KernKind.TheVariants.{Classes, Pairs}
use Rattle.aat_write_truetype.specs.kern.ClassBytes.{classes_written}
use Rattle.aat_write_truetype.specs.kern.KernBytes.{kern_written}
use Rattle.aat_write_truetype.specs.kern.MachineBytes.{KernRule, machine_written}
use Rattle.aat_write_truetype.specs.declared.kern.error.KernWriteError.TheVariants.{Class, Rule, Value, Variable}

-- a pair of the glyphs 3 and 4 with -20, for horizontal text
abbrev pub PairsAreFormat0 : Type 0
PairsAreFormat0 =
    kern_written (record {
      kind = Pairs ((3, 4, negsuc 19) ∷ []);
      horizontal = true;
      has_cross_stream = false;
      variable = false;
    } ∷ []) ≡ Ok (
    (0 ∷ 1 ∷ 0 ∷ 0 ∷ 0 ∷ 0 ∷ 0 ∷ 1 ∷ [])
    ++ (0 ∷ 0 ∷ 0 ∷ 22 ∷ 0 ∷ 0 ∷ 0 ∷ 0 ∷ 0 ∷ 1 ∷ 0 ∷ 0 ∷ 0 ∷ 0 ∷ 0 ∷ 0 ∷ [])
    ++ (0 ∷ 3 ∷ 0 ∷ 4 ∷ 255 ∷ 236 ∷ []))

-- pairs by two left and two right classes, given the value of class 0 and the last glyph on the left
abbrev pub example_classes : ℕ → ℕ → ClassValues
example_classes value glyph = record {
  left = (3, 1) ∷ (glyph, 0) ∷ [];
  right = (7, 1) ∷ [];
  right_count = 2;
  values = pos 0 ∷ pos value ∷ pos 5 ∷ negsuc 5 ∷ [];
}

-- these for vertical text and across the line: the row of class 0 is not written
abbrev pub ClassesAreFormat2 : Type 0
ClassesAreFormat2 =
    kern_written (record {
      kind = Classes (example_classes 0 4);
      horizontal = false;
      has_cross_stream = true;
      variable = false;
    } ∷ []) ≡ Ok (
    (0 ∷ 1 ∷ 0 ∷ 0 ∷ 0 ∷ 0 ∷ 0 ∷ 1 ∷ 0 ∷ 0 ∷ 0 ∷ 34 ∷ 192 ∷ 2 ∷ 0 ∷ 0 ∷ [])
    ++ (0 ∷ 4 ∷ 0 ∷ 16 ∷ 0 ∷ 24 ∷ 0 ∷ 30 ∷ [])
    ++ (0 ∷ 3 ∷ 0 ∷ 2 ∷ 0 ∷ 30 ∷ 0 ∷ 0 ∷ 0 ∷ 7 ∷ 0 ∷ 1 ∷ 0 ∷ 2 ∷ [])
    ++ (0 ∷ 5 ∷ 255 ∷ 250 ∷ []))

-- the rule of a state and a class: the state that follows, flags and a value
abbrev pub example_rule : ℕ → ℕ → ℕ → ℕ → ℕ → KernRule
example_rule state class next flags value =
    (state, class, record { new_state = next; flags = flags; extra = record { value_index = value } })

-- a rule that does nothing
abbrev pub idle_rule : ℕ → ℕ → KernRule
idle_rule state class = example_rule state class 0 0 65535

-- a machine of two states, in which glyph 5 has class 3, given the state that its last rule names
abbrev pub example_machine : ℕ → KernMachineTables
example_machine next = record {
  state_table = record {
    class_count = 4;
    classes = (5, 3) ∷ [];
    rules =
        idle_rule 0 0 ∷ idle_rule 0 1 ∷ idle_rule 0 2 ∷ example_rule 0 3 1 32768 65535
        ∷ idle_rule 1 0 ∷ idle_rule 1 1 ∷ idle_rule 1 2 ∷ example_rule 1 3 next 16384 1 ∷ [];
  };
  values = pos 6 ∷ negsuc 2 ∷ [];
}

-- its headers, a class, an index and an entry for each cell, of which the last names the second value, and the values
abbrev pub MachineIsFormat1 : Type 0
MachineIsFormat1 =
    machine_written (example_machine 0) ≡ Ok (
    (0 ∷ 4 ∷ 0 ∷ 10 ∷ 0 ∷ 15 ∷ 0 ∷ 23 ∷ 0 ∷ 55 ∷ 0 ∷ 5 ∷ 0 ∷ 1 ∷ 3 ∷ [])
    ++ (0 ∷ 1 ∷ 2 ∷ 3 ∷ 4 ∷ 5 ∷ 6 ∷ 7 ∷ [])
    ++ (0 ∷ 15 ∷ 0 ∷ 0 ∷ 0 ∷ 15 ∷ 0 ∷ 0 ∷ 0 ∷ 15 ∷ 0 ∷ 0 ∷ 0 ∷ 19 ∷ 128 ∷ 0 ∷ [])
    ++ (0 ∷ 15 ∷ 0 ∷ 0 ∷ 0 ∷ 15 ∷ 0 ∷ 0 ∷ 0 ∷ 15 ∷ 0 ∷ 0 ∷ 0 ∷ 15 ∷ 64 ∷ 57 ∷ [])
    ++ (0 ∷ 6 ∷ 255 ∷ 253 ∷ []))

-- a state without a row, a value of class 0, a glyph that does not follow the one before it, and variations before that
abbrev pub RefusalsHaveTheirPlaces : Type 0
RefusalsHaveTheirPlaces =
    (machine_written (example_machine 2) ≡ Err (Rule 7))
    × (classes_written (example_classes 9 4) ≡ Err (Value 1))
    × (classes_written (example_classes 0 6) ≡ Err (Class 1))
    × (kern_written (record {
      kind = Classes (example_classes 0 6);
      horizontal = true;
      has_cross_stream = false;
      variable = true;
    } ∷ []) ≡ Err Variable)
