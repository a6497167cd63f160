-- The class of a glyph in a class table is that of its offset.
use Rattle.std.proofs.Common.{◌≡◌, ℕ, zero, suc, ◌+◌, ◌*◌, ◌-◌, ◌<◌, ◌≤◌, ◌⊎◌, inl, inr, List, length, map, min, Bool, true, false, cond, Option, Some, None, Ok, Err, refl, sym, ap, ◌∙◌, arith}
use Rattle.std.specs.Prelude.{nat_eq, nat_le, nat_lt, ◌&&◌, unwrap_or, option_map}
use Rattle.std.specs.List.{range_with_len}
use Rattle.std.specs.Option.{is_none}
use Rattle.std.proofs.lemmas.Bool.{cases_eq, cases_lt, eq-eqb, ne_eqb, le-leb, lt-leb, lt-ltb, le-ltb, and_from, and_left, and_right, cond-true, cond-false}
use Rattle.aat_bytes.specs.Faults.{fault_at}
use Rattle.aat_bytes.specs.Numbers.{be16}
use Rattle.aat_bytes.specs.declared.error.FaultKind.TheVariants.{PastEnd, UnknownFormat}
use Rattle.aat_bytes.specs.facts.Parts.{none_of, ok_parts, parts, passes}
use Rattle.aat_bytes.specs.facts.Ranges.{none_each}
use Rattle.aat_bytes.specs.declared.tags.TheConstants.{KERN}
use Rattle.aat_kerning_tables.specs.Classes.{class_in}
use Rattle.aat_lookup.specs.Keys.{at_key, first}
use Rattle.aat_read_pairs.specs.ClassTables.{class_table_at, offset_of, offset_place}
use Rattle.aat_read_pairs.specs.KernClasses.{checked_table_at, class_of, classes_of, first_odd}
use Rattle.aat_read_pairs.specs.PairLaws.{offset_in}
use Rattle.aat_read_pairs.specs.declared.class_table.ClassTable.{ClassTable}
use Rattle.aat_read_pairs.specs.declared.kern_classes.KernGrid.{KernGrid}
use Rattle.aat_read_pairs.specs.declared.kern_classes.Side.{Side}

-- the pairs of glyphs from one on
numbered : ℕ → (ℕ → ℕ) → ℕ → ℕ → List (ℕ × ℕ)
numbered start value i n = map (λ k. (start + k, value k)) (range_with_len i n)

-- a glyph among them has its pair
found :
    (start : ℕ) (value : ℕ → ℕ) (glyph i n : ℕ)
    → start + i ≤ glyph → glyph < start + i + n
    → at_key first (numbered start value i n) glyph ≡ Some (glyph, value (glyph - start))
unfolding numbered
found start value glyph i zero low high = absurd (omega arith)
found start value glyph i (suc n) low high =
    let head : ℕ × ℕ = (start + i, value i) in
    let rest : Option (ℕ × ℕ) = at_key first (numbered start value (i + 1) n) glyph in
    elim (cases_eq (start + i) glyph) [
      | inl here ↦
          let k : glyph - start ≡ i = omega arith in
          cond-true (nat_eq (start + i) glyph) (Some head) rest (eq-eqb (start + i) glyph here) ∙ rw (here, k) refl
      | inr other ↦
          cond-false (nat_eq (start + i) glyph) (Some head) rest (ne_eqb (start + i) glyph other)
          ∙ found start value glyph (i + 1) n (omega arith) (omega arith)
    ]

-- another glyph has none
not_found :
    (start : ℕ) (value : ℕ → ℕ) (glyph i n : ℕ)
    → (glyph < start + i) ⊎ (start + i + n ≤ glyph)
    → at_key first (numbered start value i n) glyph ≡ None
unfolding numbered
not_found start value glyph i zero apart = refl
not_found start value glyph i (suc n) apart =
    let head : ℕ × ℕ = (start + i, value i) in
    let rest : Option (ℕ × ℕ) = at_key first (numbered start value (i + 1) n) glyph in
    elim apart [
      | inl low ↦
          cond-false (nat_eq (start + i) glyph) (Some head) rest (ne_eqb (start + i) glyph (λ e. omega arith))
          ∙ not_found start value glyph (i + 1) n (inl (omega arith))
      | inr high ↦
          cond-false (nat_eq (start + i) glyph) (Some head) rest (ne_eqb (start + i) glyph (λ e. omega arith))
          ∙ not_found start value glyph (i + 1) n (inr (omega arith))
    ]

some_is : (o : Option ℕ) → is_none o ≡ false → o ≡ Some (unwrap_or o 0)
some_is None is = cc
some_is (Some x) is = refl

-- the offset of a glyph in a class table, and 0 where it has none
table_offset : List ℕ → ClassTable → ℕ → ℕ
table_offset bytes table glyph =
    cond (nat_le table.first glyph && nat_lt glyph (table.first + table.count)) (offset_of bytes table (glyph - table.first)) 0

module _ (bytes : List ℕ) (grid : KernGrid) (side : Side) (table : ClassTable) (none : first_odd bytes grid side table ≡ None) (zero_is : class_of grid side 0 ≡ Some 0) where
  class_at : ℕ → ℕ
  class_at k = unwrap_or (class_of grid side (offset_of bytes table k)) 0

  outside :
      (glyph : ℕ) → (glyph < table.first + 0) ⊎ (table.first + 0 + table.count ≤ glyph)
      → (nat_le table.first glyph && nat_lt glyph (table.first + table.count)) ≡ false
      → class_of grid side (table_offset bytes table glyph) ≡ Some (class_in (classes_of bytes grid side table) glyph)
  unfolding numbered class_at table_offset
  outside glyph apart not_in =
      let listed : at_key first (classes_of bytes grid side table) glyph ≡ None = not_found table.first class_at glyph 0 table.count apart in
      ap (class_of grid side) (cond-false (nat_le table.first glyph && nat_lt glyph (table.first + table.count)) (offset_of bytes table (glyph - table.first)) 0 not_in)
      ∙ zero_is
      ∙ sym (ap (λ (o : Option (ℕ × ℕ)). Some (unwrap_or (option_map (λ p. p.1) o) 0)) listed)

  inside :
      (glyph : ℕ) → table.first ≤ glyph → glyph < table.first + table.count
      → class_of grid side (table_offset bytes table glyph) ≡ Some (class_in (classes_of bytes grid side table) glyph)
  unfolding numbered class_at table_offset
  inside glyph low high =
      let is_in : (nat_le table.first glyph && nat_lt glyph (table.first + table.count)) ≡ true =
      and_from (nat_le table.first glyph) (nat_lt glyph (table.first + table.count)) (le-leb table.first glyph low) (lt-ltb glyph (table.first + table.count) high) in
      let k : ℕ = glyph - table.first in
      let listed : at_key first (classes_of bytes grid side table) glyph ≡ Some (glyph, class_at (glyph - table.first)) =
      found table.first class_at glyph 0 table.count (omega (arith, low)) (omega (arith, high)) in
      let fits : is_none (class_of grid side (offset_of bytes table (glyph - table.first))) ≡ false =
      none_each (λ k. is_none (class_of grid side (offset_of bytes table k))) 0 table.count none (glyph - table.first) (omega arith) (omega (arith, low, high)) in
      ap (class_of grid side) (cond-true (nat_le table.first glyph && nat_lt glyph (table.first + table.count)) (offset_of bytes table (glyph - table.first)) 0 is_in)
      ∙ some_is (class_of grid side (offset_of bytes table (glyph - table.first))) fits
      ∙ sym (ap (λ (o : Option (ℕ × ℕ)). Some (unwrap_or (option_map (λ p. p.1) o) 0)) listed)

  -- the class of a glyph is that of its offset
  classed : (glyph : ℕ) → class_of grid side (table_offset bytes table glyph) ≡ Some (class_in (classes_of bytes grid side table) glyph)
  classed glyph = elim (cases_lt glyph table.first) [
    | inl low ↦
        outside glyph (inl (omega (arith, low)))
        (and_left (nat_le table.first glyph) (nat_lt glyph (table.first + table.count)) (lt-leb table.first glyph low))
    | inr from ↦ elim (cases_lt glyph (table.first + table.count)) [
      | inl below ↦ inside glyph from below
      | inr past ↦
          outside glyph (inr (omega (arith, past)))
          (and_right (nat_le table.first glyph) (nat_lt glyph (table.first + table.count)) (le-ltb glyph (table.first + table.count) past))
    ]
  ]

-- the class table that is read at a place
abbrev read_table : List ℕ → ℕ → ClassTable
read_table bytes place =
    record { offsets = place + 4; first = be16 bytes place; count = min (be16 bytes (place + 2)) (65536 - be16 bytes place) }

table_is :
    (bytes : List ℕ) (place : ℕ) (table : ClassTable) → class_table_at bytes place ≡ Ok table → read_table bytes place ≡ table
unfolding class_table_at
table_is bytes place table is =
    let header = passes (nat_lt (length bytes) (place + 4)) (fault_at KERN PastEnd place) _ table is in
    let whole = passes (nat_lt (length bytes) (place + 4 + 2 * be16 bytes (place + 2))) (fault_at KERN PastEnd (place + 4)) (Ok (read_table bytes place)) table header.1 in
    ok_parts (read_table bytes place) table whole.1

same_below : (glyph a b : ℕ) → ((glyph < a → glyph < b) × (glyph < b → glyph < a)) → nat_lt glyph a ≡ nat_lt glyph b
same_below glyph a b alike = elim (cases_lt glyph a) [
  | inl below ↦ lt-ltb glyph a below ∙ sym (lt-ltb glyph b (alike.0 below))
  | inr past ↦ elim (cases_lt glyph b) [
    | inl other ↦ absurd (let lt : glyph < a = alike.1 other in omega arith)
    | inr also ↦ le-ltb glyph a past ∙ sym (le-ltb glyph b also)
  ]
]

-- its offsets are those of the bytes
offsets_are : (bytes : List ℕ) (place glyph : ℕ) → glyph < 65536 → table_offset bytes (read_table bytes place) glyph ≡ offset_in bytes place glyph
unfolding table_offset
offsets_are bytes place glyph small =
    let start : ℕ = be16 bytes place in
    let count : ℕ = be16 bytes (place + 2) in
    let value : ℕ = be16 bytes (place + 4 + 2 * (glyph - be16 bytes place)) in
    elim (cases_lt glyph (be16 bytes place)) [
      | inl low ↦
          let below : nat_le (be16 bytes place) glyph ≡ false = lt-leb (be16 bytes place) glyph low in
          cond-false _ value 0 (and_left (nat_le (be16 bytes place) glyph) (nat_lt glyph (be16 bytes place + min (be16 bytes (place + 2)) (65536 - be16 bytes place))) below)
          ∙ sym (cond-false _ value 0 (and_left (nat_le (be16 bytes place) glyph) (nat_lt glyph (be16 bytes place + be16 bytes (place + 2))) below))
      | inr from ↦
          let alike : nat_lt glyph (be16 bytes place + min (be16 bytes (place + 2)) (65536 - be16 bytes place)) ≡ nat_lt glyph (be16 bytes place + be16 bytes (place + 2)) =
          same_below glyph (be16 bytes place + min (be16 bytes (place + 2)) (65536 - be16 bytes place)) (be16 bytes place + be16 bytes (place + 2)) ((λ lt. omega arith), (λ lt. omega arith)) in
          ap (λ (b : Bool). cond (nat_le (be16 bytes place) glyph && b) value 0) alike
    ]

-- the class of a glyph in a class table that is read is that of its offset
pub read_class :
    (bytes : List ℕ) (grid : KernGrid) (side : Side) (place glyph : ℕ) (table : ClassTable)
    → glyph < 65536 → class_of grid side 0 ≡ Some 0 → checked_table_at bytes grid side place ≡ Ok table
    → class_of grid side (offset_in bytes place glyph) ≡ Some (class_in (classes_of bytes grid side table) glyph)
unfolding checked_table_at
read_class bytes grid side place glyph table small zero_is is =
    let read = parts (class_table_at bytes place) (λ t. elim (first_odd bytes grid side t) [
      | None ↦ Ok t
      | Some k ↦ Err (fault_at KERN UnknownFormat (offset_place t k))
    ]) table is in
    let none = none_of (first_odd bytes grid side read.0) (Ok read.0) (λ k. fault_at KERN UnknownFormat (offset_place read.0 k)) table read.2 in
    let same = ok_parts read.0 table none.1 in
    let odd : first_odd bytes grid side table ≡ None = ap (first_odd bytes grid side) (sym same) ∙ none.0 in
    let made : read_table bytes place ≡ table = table_is bytes place read.0 read.1 ∙ same in
    ap (class_of grid side) (sym (offsets_are bytes place glyph small) ∙ ap (λ t. table_offset bytes t glyph) made)
    ∙ classed bytes grid side table odd zero_is glyph
