-- How many pairs and values of `kerx` are read: no more than the bytes have room for.
use Rattle.std.proofs.Common.{◌≡◌, ℕ, ℤ, ◌+◌, ◌-◌, ◌*◌, ◌/◌, ◌%◌, ◌≤◌, List, length, Ok, sym, ap, ◌∙◌, arith, ◌==◌}
use Rattle.std.specs.Prelude.{nat_lt, pos, unwrap_or}
use Rattle.std.proofs.Math.Nat.{min-le_right, mul-div-le}
use Rattle.std.proofs.lemmas.Bool.{ltb-false}
use Rattle.std.proofs.lemmas.List.FromFn.{length-map-range_with_len}
use Rattle.aat_bytes.specs.Faults.{fault_at}
use Rattle.aat_bytes.specs.Numbers.{be16, be32}
use Rattle.aat_bytes.specs.declared.error.FaultKind.TheVariants.{UnknownFormat}
use Rattle.aat_bytes.specs.facts.Parts.{none_of, ok_parts, parts, passes}
use Rattle.aat_bytes.specs.declared.tags.TheConstants.{KERX}
use Rattle.aat_kerning_tables.specs.Classes.{ClassValues}
use Rattle.aat_read_lookup.specs.Lookups.{lookup_at}
use Rattle.aat_read_lookup.specs.Rows.{rows_at}
use Rattle.aat_read_lookup.specs.LongLookups.{long_rows_at}
use Rattle.aat_read_pairs.specs.KerxClasses.{array_grid_at, array_value, array_values, class_grid_at, column_count_at, grid_pairs, kerx_arrays_at, kerx_classes_at}
use Rattle.aat_read_pairs.specs.ListedPairs.{kerx_pairs_at, listed_pairs}
use Rattle.aat_read_pairs.specs.LongArrays as long
use Rattle.aat_read_pairs.specs.LongArrays.{kerx_long_arrays_at, long_grid_at, long_grid_pairs, short_grid, value_count, wide_place}
use Rattle.aat_read_pairs.proofs.RisingPairs.{listed_few}
use Rattle.aat_read_pairs.specs.declared.kerx_classes.KerxGrid.{KerxGrid}
use Rattle.aat_read_pairs.specs.declared.long_arrays.LongGrid.{LongGrid}
use Rattle.aat_read_pairs.specs.declared.values.Tuples.{Tuples}

-- pairs that are listed stand in the bytes
listed_fit : (bytes : List ℕ) (tuples : Tuples) (place count : ℕ) (pairs : List (ℕ × ℕ × ℤ))
    → listed_pairs KERX bytes tuples place count ≡ Ok pairs → place + 6 * length pairs ≤ length bytes
listed_fit bytes tuples place count pairs is =
    let few = listed_few KERX bytes tuples place count pairs is in omega (arith, few.0, few.1)

pub pairs_fit : (bytes : List ℕ) (start tuple_count : ℕ) (pairs : List (ℕ × ℕ × ℤ))
    → kerx_pairs_at bytes start tuple_count ≡ Ok pairs → start + 28 + 6 * length pairs ≤ length bytes
unfolding kerx_pairs_at
pairs_fit bytes start tuple_count pairs is =
    let whole = passes (nat_lt (length bytes) (start + 28)) _ _ pairs is in
    let tuples : Tuples = record { place = start; count = tuple_count } in
    listed_fit bytes tuples (start + 28) (be32 bytes (start + 12)) pairs whole.1

-- the values of pairs by classes stand from the start of the array on
values_fit : (bytes : List ℕ) (start glyph_count : ℕ) (grid : KerxGrid) (pairs : ClassValues)
    → start ≤ grid.array → grid_pairs bytes glyph_count grid ≡ Ok pairs
    → 2 * length pairs.values ≤ length bytes - start
unfolding grid_pairs
values_fit bytes start glyph_count grid pairs behind is =
    let one = parts (rows_at KERX bytes grid.rows glyph_count grid.column_count) _ pairs is in
    let two = parts (lookup_at KERX bytes grid.columns glyph_count) _ pairs one.2 in
    let made : ClassValues = record {
      left = one.0;
      right = two.0;
      right_count = grid.column_count;
      values = array_values bytes grid;
    } in
    let same : made ≡ pairs = ok_parts made pairs two.2 in
    let count : ℕ = (length bytes - grid.array) / 2 in
    let long : length pairs.values ≡ count =
    sym (ap (λ (k : ClassValues). length k.values) same)
    ∙ length-map-range_with_len (array_value bytes grid) 0 count in
    let fit : 2 * count ≤ length bytes - grid.array = mul-div-le (length bytes - grid.array) 2 in
    omega (arith, behind, long, fit)

pub classes_fit : (bytes : List ℕ) (start glyph_count tuple_count : ℕ) (pairs : ClassValues)
    → kerx_classes_at bytes start glyph_count tuple_count ≡ Ok pairs
    → (start + 28 ≤ length bytes) × (2 * length pairs.values ≤ length bytes - start)
unfolding class_grid_at
classes_fit bytes start glyph_count tuple_count pairs is =
    let grid = parts (class_grid_at bytes start tuple_count) _ pairs is in
    let whole = passes (nat_lt (length bytes) (start + 28)) _ _ grid.0 grid.1 in
    let columns = parts (column_count_at (start + 12) (be32 bytes (start + 12) / 2)) _ grid.0 whole.1 in
    let array : start + be32 bytes (start + 24) ≡ grid.0.array =
    ap (λ (g : KerxGrid). g.array) (ok_parts _ grid.0 columns.2) in (
      ltb-false (length bytes) (start + 28) whole.0,
      values_fit bytes start glyph_count grid.0 pairs (omega (arith, array)) grid.2,
    )

pub arrays_fit : (bytes : List ℕ) (start glyph_count tuple_count : ℕ) (pairs : ClassValues)
    → kerx_arrays_at bytes start glyph_count tuple_count ≡ Ok pairs
    → (start + 28 ≤ length bytes) × (2 * length pairs.values ≤ length bytes - start)
unfolding array_grid_at
arrays_fit bytes start glyph_count tuple_count pairs is =
    let grid = parts (array_grid_at bytes start tuple_count) _ pairs is in
    let whole = passes (nat_lt (length bytes) (start + 36)) _ _ grid.0 grid.1 in
    let short = passes (be32 bytes (start + 12) % 2 == 1) _ _ grid.0 whole.1 in
    let columns = parts (column_count_at (start + 18) (be16 bytes (start + 18))) _ grid.0 short.1 in
    let array : start + be32 bytes (start + 28) ≡ grid.0.array =
    ap (λ (g : KerxGrid). g.array) (ok_parts _ grid.0 columns.2) in
    let header = ltb-false (length bytes) (start + 36) whole.0 in (
      omega (arith, header),
      values_fit bytes start glyph_count grid.0 pairs (omega (arith, array)) grid.2,
    )

-- the values of 32 bits stand from the start of the array on
long_values_fit : (bytes : List ℕ) (start glyph_count : ℕ) (grid : LongGrid) (pairs : ClassValues)
    → start ≤ grid.array → long_grid_pairs bytes glyph_count grid ≡ Ok pairs
    → 4 * length pairs.values ≤ length bytes - start
unfolding long_grid_pairs
long_values_fit bytes start glyph_count grid pairs behind is =
    let one = parts (long_rows_at KERX bytes grid.rows glyph_count grid.column_count) _ pairs is in
    let two = parts (long_rows_at KERX bytes grid.columns glyph_count 1) _ pairs one.2 in
    let made : ClassValues = record {
      left = one.0;
      right = two.0;
      right_count = grid.column_count;
      values = long.array_values bytes grid;
    } in
    let same : made ≡ pairs = ok_parts made pairs two.2 in
    let value : ℕ → ℤ = λ i. unwrap_or (long.array_value bytes grid i) (pos 0) in
    let long : length pairs.values ≡ value_count bytes grid =
    sym (ap (λ (k : ClassValues). length k.values) same)
    ∙ length-map-range_with_len value 0 (value_count bytes grid) in
    let few : value_count bytes grid ≤ (length bytes - grid.array) / 4 =
    min-le_right (grid.row_count * grid.column_count) ((length bytes - grid.array) / 4) in
    let fit : 4 * ((length bytes - grid.array) / 4) ≤ length bytes - grid.array =
    mul-div-le (length bytes - grid.array) 4 in
    omega (arith, behind, long, few, fit)

pub long_arrays_fit : (bytes : List ℕ) (start glyph_count tuple_count : ℕ) (pairs : ClassValues)
    → kerx_long_arrays_at bytes start glyph_count tuple_count ≡ Ok pairs
    → (start + 28 ≤ length bytes) × (2 * length pairs.values ≤ length bytes - start)
unfolding long_grid_at
long_arrays_fit bytes start glyph_count tuple_count pairs is =
    let grid = parts (long_grid_at bytes start tuple_count) _ pairs is in
    let short = parts (short_grid bytes grid.0) _ pairs grid.2 in
    let none = none_of (wide_place bytes grid.0) (Ok grid.0) (fault_at KERX UnknownFormat) short.0 short.1 in
    let one : grid.0 ≡ short.0 = ok_parts grid.0 short.0 none.1 in
    let whole = passes (nat_lt (length bytes) (start + 36)) _ _ grid.0 grid.1 in
    let columns = parts (column_count_at (start + 18) (be16 bytes (start + 18))) _ grid.0 whole.1 in
    let array : start + be32 bytes (start + 28) ≡ short.0.array =
    ap (λ (g : LongGrid). g.array) (ok_parts _ grid.0 columns.2 ∙ one) in
    let header = ltb-false (length bytes) (start + 36) whole.0 in
    let fit = long_values_fit bytes start glyph_count short.0 pairs (omega (arith, array)) short.2 in
    (omega (arith, header), omega (arith, fit))
