-- A machine that is read is that of its bytes.
use Rattle.std.proofs.Common.{◌≡◌, ℕ, suc, ◌+◌, ◌*◌, ◌<◌, ◌≤◌, List, [], ◌∷◌, length, get_or, take, drop, All, true, cond, Some, Result, Ok, refl, ap, ◌∙◌, subst, arith, ◌==◌}
use Rattle.std.specs.List.{fold}
use Rattle.std.proofs.Math.Nat.{mul-le-mul_right}
use Rattle.std.proofs.lemmas.Bool.{leb-true}
use Rattle.std.proofs.lemmas.List.{get_or-drop, get_or-take}
use Rattle.std.proofs.lemmas.List.Elements.{All-drop}
use Rattle.aat_bytes.specs.Faults.{after}
use Rattle.aat_bytes.specs.Numbers.{be16, be32}
use Rattle.aat_bytes.specs.declared.error.Fault.{Fault}
use Rattle.aat_bytes.specs.declared.tag.Tag.{Tag}
use Rattle.aat_machine_tables.specs.Table.{TableValue, table_value}
use Rattle.aat_machine_tables.specs.declared.state_table.GenericStateEntry.{GenericStateEntry}
use Rattle.aat_read_lookup.proofs.Values.{values_are_those_of_segments}
use Rattle.aat_read_lookup.specs.Lookups.{lookup_at, value_of_glyph}
use Rattle.aat_read_machine.specs.Machine.{machine_at, with_classes}
use Rattle.aat_read_machine.specs.MachineLaws.{IsByte, MachinesAreThoseOfBytes}
use Rattle.aat_read_machine.specs.MachinesOfBytes.{IsMachineOf, state_after}
use Rattle.aat_read_machine.specs.StateArray.{StateArray, cells_of, class_place, entry_place, has_entry, has_index, missing_entry, missing_index, rules_of, state_array_at, state_count, states_named, states_of}
use Rattle.aat_read_machine.proofs.Counting.{cell_names, count_low, none_missing, none_missing_index}
use Rattle.aat_read_machine.proofs.Entries.{entries_hold}
use Rattle.aat_read_machine.proofs.Headers.{header_of, header_parts}
use Rattle.aat_bytes.specs.facts.Parts.{none_of, ok_parts, parts}

-- a number of two bytes has 16 bits
small : (bytes : List ℕ) (place : ℕ) → All IsByte bytes → place + 2 ≤ length bytes → be16 bytes place < 65536
small bytes place each inside = omega (arith, byte 0 (omega arith), byte 1 (omega arith)) where
  byte : (i : ℕ) → i < 2 → get_or (take 2 (drop place bytes)) i 0 < 256
  byte i below =
      let is : get_or (take 2 (drop place bytes)) i 0 ≡ get_or bytes (place + i) 0 =
      get_or-take 2 (drop place bytes) i 0 below ∙ get_or-drop place bytes i 0 in
      let few : get_or bytes (place + i) 0 < 256 = each (place + i) 0 (omega arith) in
      omega (arith, is, few)

-- the rows of a state table that has all its cells
module _ (m : StateArray) (cells : ℕ) where
  record HasCells : Type 0 where
    count : state_count m * m.class_count ≡ cells
    index : (cell : ℕ) → cell < cells → has_index m cell ≡ true
    entry : (cell : ℕ) → cell < cells → has_entry m cell ≡ true

  has_cells : cells_of m ≡ Ok cells → HasCells
  unfolding cells_of states_of
  has_cells is =
      let states = parts (states_of m) _ cells is in
      let rows = none_of (missing_index m (state_count m * m.class_count)) _ _ states.0 states.1 in
      let whole = none_of (missing_entry m (states.0 * m.class_count)) _ _ cells states.2 in
      let number : state_count m ≡ states.0 = ok_parts _ _ rows.1 in
      let count : state_count m * m.class_count ≡ cells =
      ap (λ n. n * m.class_count) number ∙ ok_parts _ cells whole.1 in
      record {
        count = count;
        index = λ cell below. none_missing_index m (state_count m * m.class_count) rows.0 cell (omega (arith, count));
        entry = λ cell below. none_missing m (states.0 * m.class_count) whole.0 cell
            (omega (arith, below, ok_parts (states.0 * m.class_count) cells whole.1));
      }

  module _ (has : HasCells) (each : All IsByte m.bytes) (wide : 2 ≤ m.entry_size) where
    -- the cell of a state with a row
    cell_below : (state class : ℕ) → state < state_count m → class < m.class_count → state * m.class_count + class < cells
    cell_below state class low narrow =
        let suc_le : suc state ≤ state_count m = omega arith in
        let rows : suc state * m.class_count ≤ state_count m * m.class_count = mul-le-mul_right m.class_count suc_le in
        let next : suc state * m.class_count ≡ state * m.class_count + m.class_count = omega arith in
        omega (arith, rows, next, has.count)

    entry_inside : (cell : ℕ) → cell < cells → entry_place m cell + m.entry_size ≤ length m.bytes
    unfolding has_entry
    entry_inside cell below = leb-true _ _ (has.entry cell below)

    named_is : (cell : ℕ) → cell < cells → states_named m cell ≡ be16 m.bytes (entry_place m cell) + 1
    unfolding states_named
    named_is cell below = rw (has.index cell below) (rw (has.entry cell below) refl)

    -- its entry names a state with a row
    next_below :
        (state class : ℕ) → state < state_count m → class < m.class_count
        → be16 m.bytes (entry_place m (state * m.class_count + class)) < state_count m
    next_below state class low narrow =
        let cell : ℕ = state * m.class_count + class in
        let below : cell < cells = cell_below state class low narrow in
        let inside = entry_inside cell below in
        let few : be16 m.bytes (entry_place m cell) < 65536 =
        small m.bytes (entry_place m cell) each (omega (arith, inside, wide)) in
        let named = named_is cell below in
        let within : states_named m cell ≤ state_count m =
        cell_names m (state_count m) cell (omega arith) (omega (arith, below, has.count)) (omega (arith, named, few)) in
        omega (arith, named, within)

    -- so a run that starts at a state with a row stays among them
    run_below :
        (state : ℕ) (run : List ℕ) → state < state_count m → All (λ class. class < m.class_count) run
        → fold (λ s class. be16 m.bytes (entry_place m (s * m.class_count + class))) state run < state_count m
    run_below state [] low narrow = low
    run_below state (class ∷ run) low narrow =
        run_below (be16 m.bytes (entry_place m (state * m.class_count + class))) run
        (next_below state class low (narrow 0 class (omega arith))) (λ i d lt. narrow (suc i) d (omega arith))

module _ {T : Type 0} (size : ℕ) (extra_at : List ℕ → ℕ → T) (table : Tag) (bytes : List ℕ) (place glyph_count : ℕ) where
  abbrev header : StateArray
  header = header_of table bytes place size

  -- what comes of a state table
  abbrev machine_of : StateArray → Result (TableValue (GenericStateEntry T)) Fault
  machine_of m =
      after (cells_of m) (λ cells.
      with_classes extra_at m cells (lookup_at table bytes (class_place m) glyph_count))

  -- the machine of the cells of a state table
  of_cells :
      (cells : ℕ) (pairs : List (ℕ × ℕ))
      → All IsByte bytes → be32 (drop place bytes) 0 ≤ 65535 → cells_of header ≡ Ok cells
      → lookup_at table bytes (class_place header) glyph_count ≡ Ok pairs
      → IsMachineOf size extra_at (drop place bytes) (value_of_glyph table bytes (class_place header) glyph_count)
      (table_value header.class_count pairs (rules_of extra_at header cells))
  of_cells cells pairs each narrow read classes =
      let has = has_cells header cells read in
      let behind : All IsByte (drop place bytes) = All-drop IsByte place bytes each in
      let some : 0 < state_count header = omega (arith, count_low header) in
      record {
        class_count = refl;
        class = λ glyph. ap (cond (glyph == 65535) (Some 2))
            (values_are_those_of_segments table bytes (class_place header) glyph_count pairs glyph classes);
        entry = λ run class are low.
            let at : ℕ = state_after size (drop place bytes) run in
            let reached : at < state_count header = run_below header cells has behind (omega arith) 0 run some are in
            entries_hold extra_at header cells pairs at class (omega (arith, narrow)) low
            (cell_below header cells has behind (omega arith) at class reached low);
      }

  -- a machine that is read
  pub of_bytes :
      (machine : TableValue (GenericStateEntry T))
      → All IsByte bytes → machine_at size extra_at table bytes place glyph_count ≡ Ok machine
      → IsMachineOf size extra_at (drop place bytes) (value_of_glyph table bytes (class_place header) glyph_count) machine
  unfolding machine_at with_classes
  of_bytes machine each is =
      let array = parts (state_array_at table bytes place size) _ machine is in
      let read_header = header_parts table bytes place size array.0 array.1 in
      let read : machine_of header ≡ Ok machine = ap machine_of read_header.is ∙ array.2 in
      let cells = parts (cells_of header) _ machine read in
      let pairs = parts (lookup_at table bytes (class_place header) glyph_count) _ machine cells.2 in
      let made : TableValue (GenericStateEntry T) =
      table_value header.class_count pairs.0 (rules_of extra_at header cells.0) in
      let same : made ≡ machine = ok_parts made machine pairs.2 in
      subst (IsMachineOf size extra_at (drop place bytes) (value_of_glyph table bytes (class_place header) glyph_count))
      {x = made} same (of_cells cells.0 pairs.0 each read_header.narrow cells.1 pairs.1)

-- the law
pub machines_are_those_of_bytes :
    {T : Type 0} (size : ℕ) (extra_at : List ℕ → ℕ → T) → MachinesAreThoseOfBytes size extra_at
machines_are_those_of_bytes size extra_at table bytes place glyph_count machine each is =
    of_bytes size extra_at table bytes place glyph_count machine each is
