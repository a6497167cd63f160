-- The value of two glyphs is that of the sum of their offsets.
use Rattle.std.proofs.Common.{◌≡◌, ℕ, ◌+◌, ◌*◌, ◌-◌, ◌≤◌, ◌/◌, ◌%◌, ◌<◌, List, length, ℤ, true, Some, None, Result, Ok, refl, sym, ap, ◌∙◌, subst, arith}
use Rattle.std.specs.Prelude.{nat_eq, nat_lt, ◌&&◌, ◌||◌}
use Rattle.std.proofs.lemmas.Bool.{and_from, cond-true, eqb-false, lt-ltb, ltb-false, or_parts}
use Rattle.std.proofs.lemmas.List.FromFn.{length-map-range_with_len}
use Rattle.aat_bytes.specs.Faults.{after, fault_at}
use Rattle.aat_bytes.specs.Numbers.{be16}
use Rattle.aat_bytes.specs.declared.error.Fault.{Fault}
use Rattle.aat_bytes.specs.declared.error.FaultKind.TheVariants.{PastEnd, ShortLength}
use Rattle.aat_bytes.specs.facts.Parts.{ok_parts, parts, passes}
use Rattle.aat_bytes.specs.declared.tags.TheConstants.{KERN}
use Rattle.aat_kerning_tables.specs.Classes.{ClassValues, class_in, kerning_by_classes}
use Rattle.aat_read_pairs.specs.KernClasses.{array_place, checked_table_at, class_of, classes_of, columns_of, grid_at, grid_value, grid_values, kern_classes_at, value_count}
use Rattle.aat_read_pairs.specs.PairLaws.{ClassValuesAreBounded, OffsetsAreAddedUp, offset_in, value_of_offsets}
use Rattle.aat_read_pairs.specs.declared.class_table.ClassTable.{ClassTable}
use Rattle.aat_read_pairs.specs.declared.kern_classes.KernGrid.{KernGrid}
use Rattle.aat_read_pairs.specs.declared.kern_classes.Side.TheVariants.{Left, Right}
use Rattle.aat_read_pairs.proofs.OffsetClasses.{read_class}
use Rattle.aat_read_pairs.proofs.OffsetSums.{of_classes}

-- the subtable that is read at a place
abbrev read_grid : List ℕ → ℕ → ℕ → KernGrid
read_grid bytes start place = record {
  start = start;
  width = be16 bytes place;
  left = be16 bytes (place + 2);
  right = be16 bytes (place + 4);
  array = be16 bytes (place + 6);
}

-- what is known of it
record IsRead (bytes : List ℕ) (start place : ℕ) (grid : KernGrid) : Type 0 where
  is : read_grid bytes start place ≡ grid
  even : grid.width ≡ 2 * columns_of grid
  wide : 0 < columns_of grid
  row : array_place grid + grid.width ≤ length bytes

grid_is : (bytes : List ℕ) (start place : ℕ) (grid : KernGrid) → grid_at bytes start place ≡ Ok grid → IsRead bytes start place grid
unfolding grid_at
grid_is bytes start place grid is =
    let made = read_grid bytes start place in
    let width : ℕ = be16 bytes place in
    let header = passes (nat_lt (length bytes) (place + 8)) (fault_at KERN PastEnd place) _ grid is in
    let rows = passes (nat_eq (be16 bytes place) 0 || nat_eq (be16 bytes place % 2) 1) (fault_at KERN ShortLength place) _ grid header.1 in
    let first = passes (nat_lt (length bytes) (array_place made + be16 bytes place)) (fault_at KERN PastEnd (array_place made)) (Ok made) grid rows.1 in
    let same = ok_parts made grid first.1 in
    let both = or_parts (nat_eq (be16 bytes place) 0) (nat_eq (be16 bytes place % 2) 1) rows.0 in
    let some : be16 bytes place ≡ 0 → ⊥ = eqb-false (be16 bytes place) 0 both.0 in
    let whole : be16 bytes place % 2 ≡ 1 → ⊥ = eqb-false (be16 bytes place % 2) 1 both.1 in
    let even : be16 bytes place ≡ 2 * (be16 bytes place / 2) = omega (arith, some, whole) in
    let wide : 0 < be16 bytes place / 2 = omega (arith, some, whole) in
    record {
      is = same;
      even = subst (λ (g : KernGrid). g.width ≡ 2 * columns_of g) same even;
      wide = subst (λ (g : KernGrid). 0 < columns_of g) same wide;
      row =
          subst (λ (g : KernGrid). array_place g + g.width ≤ length bytes) same
          (ltb-false (length bytes) (array_place made + be16 bytes place) first.0);
    }

-- the first column has the offset 0
first_column : (grid : KernGrid) → grid.width ≡ 2 * columns_of grid → 0 < columns_of grid → class_of grid Right 0 ≡ Some 0
first_column grid even wide =
    let below : nat_lt 0 grid.width ≡ true = lt-ltb 0 grid.width (omega (arith, even, wide)) in
    cond-true (nat_lt 0 grid.width && nat_eq (0 % 2) 0) (Some 0) None (and_from (nat_lt 0 grid.width) (nat_eq (0 % 2) 0) below refl)

abbrev made_of : List ℕ → KernGrid → ClassTable → ClassTable → ClassValues
made_of bytes grid left right = record {
  left = classes_of bytes grid Left left;
  right = classes_of bytes grid Right right;
  right_count = columns_of grid;
  values = grid_values bytes grid;
}

-- the pairs of two class tables
abbrev with_right : List ℕ → KernGrid → ClassTable → ClassTable → Result ClassValues Fault
with_right bytes grid l r = Ok (made_of bytes grid l r)

-- the pairs of a class table of left glyphs
abbrev with_left : List ℕ → ℕ → KernGrid → ClassTable → Result ClassValues Fault
with_left bytes start grid l = after (checked_table_at bytes grid Right (start + grid.right)) (with_right bytes grid l)

-- the pairs of a subtable
abbrev with_grid : List ℕ → ℕ → KernGrid → Result ClassValues Fault
with_grid bytes start grid = after (checked_table_at bytes grid Left (start + grid.left)) (with_left bytes start grid)

module _ (bytes : List ℕ) (start place left right : ℕ) (left_small : left < 65536) (right_small : right < 65536) where
  -- the value of the offsets of the two glyphs
  abbrev value : ℤ
  value =
      value_of_offsets bytes start
      (offset_in bytes (start + be16 bytes (place + 2)) left) (offset_in bytes (start + be16 bytes (place + 4)) right)

  -- the value of the two glyphs by a subtable that is read
  of_read :
      (grid : KernGrid) (l r : ClassTable) → IsRead bytes start place grid
      → checked_table_at bytes grid Left (start + grid.left) ≡ Ok l
      → checked_table_at bytes grid Right (start + grid.right) ≡ Ok r
      → kerning_by_classes (made_of bytes grid l r) left right ≡ value
  of_read grid l r read l_is r_is =
      let left_is = read_class bytes grid Left (start + grid.left) left l left_small refl l_is in
      let right_is = read_class bytes grid Right (start + grid.right) right r right_small (first_column grid read.even read.wide) r_is in
      let by_bytes : KernGrid → ℤ = λ k. value_of_offsets bytes k.start (offset_in bytes (start + k.left) left) (offset_in bytes (start + k.right) right) in
      of_classes bytes grid read.even read.wide (offset_in bytes (start + grid.left) left) (offset_in bytes (start + grid.right) right) (class_in (classes_of bytes grid Left l) left) (class_in (classes_of bytes grid Right r) right) left_is right_is
      ∙ ap by_bytes (sym read.is)

  by_right :
      (grid : KernGrid) (l : ClassTable) (pairs : ClassValues) → IsRead bytes start place grid
      → checked_table_at bytes grid Left (start + grid.left) ≡ Ok l → with_left bytes start grid l ≡ Ok pairs
      → kerning_by_classes pairs left right ≡ value
  by_right grid l pairs read l_is is =
      let r = parts (checked_table_at bytes grid Right (start + grid.right)) (with_right bytes grid l) pairs is in
      subst (λ (p : ClassValues). kerning_by_classes p left right ≡ value)
      (ok_parts (made_of bytes grid l r.0) pairs r.2) (of_read grid l r.0 read l_is r.1)

  by_left :
      (grid : KernGrid) (pairs : ClassValues) → IsRead bytes start place grid → with_grid bytes start grid ≡ Ok pairs
      → kerning_by_classes pairs left right ≡ value
  by_left grid pairs read is =
      let l = parts (checked_table_at bytes grid Left (start + grid.left)) (with_left bytes start grid) pairs is in
      by_right grid l.0 pairs read l.1 l.2

  by_grid : (pairs : ClassValues) → kern_classes_at bytes start place ≡ Ok pairs → kerning_by_classes pairs left right ≡ value
  unfolding kern_classes_at
  by_grid pairs is =
      let g = parts (grid_at bytes start place) (with_grid bytes start) pairs is in
      by_left g.0 pairs (grid_is bytes start place g.0 g.1) g.2

pub offsets_are_added_up : OffsetsAreAddedUp
offsets_are_added_up bytes start place left right pairs left_small right_small is =
    by_grid bytes start place left right left_small right_small pairs is

-- the values of a subtable that is read are no more than the bytes from its start on
values_bounded :
    (bytes : List ℕ) (start place : ℕ) (grid : KernGrid)
    → IsRead bytes start place grid → length (grid_values bytes grid) ≤ length bytes - start
values_bounded bytes start place grid read =
    let long : length (grid_values bytes grid) ≡ value_count bytes grid = length-map-range_with_len (grid_value bytes grid) 0 (value_count bytes grid) in
    let same : start ≡ grid.start = ap (λ (g : KernGrid). g.start) read.is in
    omega (arith, long, same, read.even, read.row)

pub class_values_are_bounded : ClassValuesAreBounded
unfolding kern_classes_at
class_values_are_bounded bytes start place pairs is =
    let g = parts (grid_at bytes start place) (with_grid bytes start) pairs is in
    let l = parts (checked_table_at bytes g.0 Left (start + g.0.left)) (with_left bytes start g.0) pairs g.2 in
    let r = parts (checked_table_at bytes g.0 Right (start + g.0.right)) (with_right bytes g.0 l.0) pairs l.2 in
    subst (λ (p : ClassValues). length p.values ≤ length bytes - start)
    (ok_parts (made_of bytes g.0 l.0 r.0) pairs r.2) (values_bounded bytes start place g.0 (grid_is bytes start place g.0 g.1))
