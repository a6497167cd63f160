-- How many pairs, classes and values of the kerning table are read: no more than the bytes have room for.
use Rattle.std.proofs.Common.{◌≡◌, ℕ, ℤ, ◌+◌, ◌-◌, ◌*◌, ◌≤◌, List, length, Ok, sym, ap, ◌∙◌, subst, zero-add, arith}
use Rattle.std.specs.Prelude.{min, nat_lt, slice_index}
use Rattle.std.proofs.Math.Nat.{div-le_self}
use Rattle.std.proofs.lemmas.Bool.{ltb-false}
use Rattle.std.proofs.lemmas.List.FromFn.{length-map-range_with_len}
use Rattle.aat_bytes.specs.Numbers.{be16}
use Rattle.aat_bytes.specs.declared.tags.TheConstants.{KERN}
use Rattle.aat_bytes.specs.facts.Parts.{none_of, ok_parts, parts, passes}
use Rattle.aat_kerning_tables.specs.Classes.{ClassValues}
use Rattle.aat_read_lookup.specs.Sizes.{pairs_size}
use Rattle.aat_read_pairs.specs.ClassTables.{class_table_at}
use Rattle.aat_read_pairs.specs.KernClasses.{checked_table_at, grid_at, grid_value, kern_classes_at, value_count}
use Rattle.aat_read_pairs.specs.KernIndexes.{index_count, indexed_value, indexes_at, kern_indexes_at, left_place, right_place}
use Rattle.aat_read_pairs.specs.KerningValues.{no_tuples}
use Rattle.aat_read_pairs.specs.ListedPairs.{kern_pairs_at}
use Rattle.aat_read_pairs.proofs.RisingPairs.{listed_few}
use Rattle.aat_read_kern.specs.Weights.{class_pairs_weight}
use Rattle.aat_read_kern.proofs.ClassSizes.{classes_size, numbered_size}

-- pairs that are listed stand in the bytes
pub pairs_fit : (bytes : List ℕ) (place : ℕ) (pairs : List (ℕ × ℕ × ℤ))
    → kern_pairs_at bytes place ≡ Ok pairs → place + 8 + 6 * length pairs ≤ length bytes
unfolding kern_pairs_at
pairs_fit bytes place pairs is =
    let header = passes (nat_lt (length bytes) (place + 8)) _ _ pairs is in
    let few = listed_few KERN bytes no_tuples (place + 8) (be16 bytes place) pairs header.1 in
    omega (arith, few.0, few.1)

-- what holds of a value holds of an equal one, and their functions are equal
holds_of : {X : Type 0} {x y : X} → x ≡ y → (P : X → Type 0) → P x → P y
holds_of same P here = subst P same here

field_of : {X Y : Type 0} {x y : X} → x ≡ y → (f : X → Y) → f x ≡ f y
field_of same f = ap f same

-- what pairs by classes weigh of so many classes and values
class_pairs_light : (pairs : ClassValues) (lefts rights values : ℕ)
    → pairs_size pairs.left ≤ 8 * lefts → pairs_size pairs.right ≤ 8 * rights → length pairs.values ≡ values
    → class_pairs_weight pairs ≤ 8 * lefts + 8 * rights + 3 * values + 1
class_pairs_light pairs lefts rights values by_left by_right long =
    let rows = div-le_self (length pairs.values) pairs.right_count in
    omega (arith, by_left, by_right, long, rows)

-- pairs by classes whose class tables and first row stand in the bytes
pub classes_light : (bytes : List ℕ) (start place : ℕ) (pairs : ClassValues) → kern_classes_at bytes start place ≡ Ok pairs
    → (place + 8 ≤ length bytes) × (class_pairs_weight pairs ≤ 11 * (length bytes - start) + 1)
unfolding kern_classes_at checked_table_at class_table_at grid_at
classes_light bytes start place pairs is =
    let grid = parts (grid_at bytes start place) _ pairs is in
    let left = parts _ _ pairs grid.2 in
    let right = parts _ _ pairs left.2 in
    let made = ok_parts _ pairs right.2 in
    let header = passes _ _ _ grid.0 grid.1 in
    let even = passes _ _ _ grid.0 header.1 in
    let whole = passes _ _ _ grid.0 even.1 in
    let same = ok_parts _ grid.0 whole.1 in
    let here : start ≡ grid.0.start = field_of same (λ k. k.start) in
    let width : be16 bytes place ≡ grid.0.width = field_of same (λ k. k.width) in
    let array : be16 bytes (place + 6) ≡ grid.0.array = field_of same (λ k. k.array) in
    let inside : place + 8 ≤ length bytes = ltb-false _ _ header.0 in
    let row : start + be16 bytes (place + 6) + be16 bytes place ≤ length bytes = ltb-false _ _ whole.0 in
    let left_at = start + grid.0.left in
    let left_table = parts (class_table_at bytes left_at) _ left.0 left.1 in
    let left_even = none_of _ _ _ left.0 left_table.2 in
    let left_count : left_table.0.count ≡ left.0.count = field_of (ok_parts _ left.0 left_even.1) (λ k. k.count) in
    let left_header = passes _ _ _ left_table.0 left_table.1 in
    let left_whole = passes _ _ _ left_table.0 left_header.1 in
    let left_offsets = be16 bytes (left_at + 2) in
    let left_made : min left_offsets (65536 - be16 bytes left_at) ≡ left_table.0.count =
    field_of (ok_parts _ left_table.0 left_whole.1) (λ k. k.count) in
    let left_inside : left_at + 4 + 2 * left_offsets ≤ length bytes = ltb-false _ _ left_whole.0 in
    let right_at = start + grid.0.right in
    let right_table = parts (class_table_at bytes right_at) _ right.0 right.1 in
    let right_even = none_of _ _ _ right.0 right_table.2 in
    let right_count : right_table.0.count ≡ right.0.count = field_of (ok_parts _ right.0 right_even.1) (λ k. k.count) in
    let right_header = passes _ _ _ right_table.0 right_table.1 in
    let right_whole = passes _ _ _ right_table.0 right_header.1 in
    let right_offsets = be16 bytes (right_at + 2) in
    let right_made : min right_offsets (65536 - be16 bytes right_at) ≡ right_table.0.count =
    field_of (ok_parts _ right_table.0 right_whole.1) (λ k. k.count) in
    let right_inside : right_at + 4 + 2 * right_offsets ≤ length bytes = ltb-false _ _ right_whole.0 in
    let lefts : pairs_size pairs.left ≤ 8 * left.0.count =
    holds_of made (λ k. pairs_size k.left ≤ 8 * left.0.count) (classes_size left.0.first _ left.0.count) in
    let rights : pairs_size pairs.right ≤ 8 * right.0.count =
    holds_of made (λ k. pairs_size k.right ≤ 8 * right.0.count) (classes_size right.0.first _ right.0.count) in
    let count = value_count bytes grid.0 in
    let values : length pairs.values ≡ count =
    holds_of made (λ k. length k.values ≡ count) (length-map-range_with_len (grid_value bytes grid.0) 0 count) in
    let light = class_pairs_light pairs left.0.count right.0.count count lefts rights values in
    (inside, omega (arith, here, width, array, row, left_count, left_made, left_inside, right_count, right_made, right_inside, light))

-- pairs by classes whose classes, values and indexes stand in the bytes
pub indexes_light : (bytes : List ℕ) (place : ℕ) (pairs : ClassValues) → kern_indexes_at bytes place ≡ Ok pairs
    → (place + 6 ≤ length bytes) × (class_pairs_weight pairs ≤ 11 * (length bytes - place) + 1)
unfolding kern_indexes_at indexes_at
indexes_light bytes place pairs is =
    let read = parts (indexes_at bytes place) _ pairs is in
    let grid = read.0 in
    let made = ok_parts _ pairs read.2 in
    let header = passes _ _ _ grid read.1 in
    let whole = passes _ _ _ grid header.1 in
    let same = ok_parts _ grid whole.1 in
    let glyphs : be16 bytes place ≡ grid.glyph_count = field_of same (λ k. k.glyph_count) in
    let indexes : slice_index bytes (place + 3) * slice_index bytes (place + 4) ≡ index_count grid =
    field_of same (λ k. index_count k) in
    let header_inside : place + 6 ≤ length bytes = ltb-false _ _ header.0 in
    let inside : place + 6 + 2 * slice_index bytes (place + 2) + be16 bytes place + be16 bytes place
    + slice_index bytes (place + 3) * slice_index bytes (place + 4) ≤ length bytes = ltb-false _ _ whole.0 in
    let lefts : pairs_size pairs.left ≤ 8 * grid.glyph_count =
    holds_of made (λ k. pairs_size k.left ≤ 8 * grid.glyph_count)
    (numbered_size 0 (λ glyph. (glyph, slice_index bytes (left_place grid + glyph))) (λ k. sym (zero-add k)) grid.glyph_count) in
    let rights : pairs_size pairs.right ≤ 8 * grid.glyph_count =
    holds_of made (λ k. pairs_size k.right ≤ 8 * grid.glyph_count)
    (numbered_size 0 (λ glyph. (glyph, slice_index bytes (right_place grid + glyph))) (λ k. sym (zero-add k)) grid.glyph_count) in
    let count = index_count grid in
    let values : length pairs.values ≡ count =
    holds_of made (λ k. length k.values ≡ count) (length-map-range_with_len (indexed_value bytes grid) 0 count) in
    let light = class_pairs_light pairs grid.glyph_count grid.glyph_count count lefts rights values in
    (header_inside, omega (arith, glyphs, indexes, inside, light))
