-- Pairs by classes that are written are read again.
use Rattle.std.proofs.Common.{◌≡◌, ℕ, ℤ, zero, suc, ◌+◌, ◌-◌, ◌*◌, ◌/◌, ◌<◌, ◌≤◌, List, [], ◌∷◌, ◌++◌, length, get_or, map, Bool, true, false, Option, Some, None, Result, Ok, Err, All, cond, refl, sym, ap, ◌∙◌, subst, append_assoc, arith}
use Rattle.std.specs.Prelude.{pos, ◌==◌}
use Rattle.std.specs.List.{flat_map, range_with_len}
use Rattle.std.proofs.Math.Nat.{mul-div_cancel}
use Rattle.std.proofs.lemmas.Bool.{le-ltb}
use Rattle.std.proofs.lemmas.Bool.Decides.{nat_tests}
use Rattle.std.proofs.lemmas.List.{append-nil, length-append}
use Rattle.aat_bytes.specs.Faults.{after}
use Rattle.aat_bytes.specs.Numbers.{be16, be32, signed16}
use Rattle.aat_bytes.specs.declared.error.Fault.{Fault}
use Rattle.aat_bytes.specs.declared.tags.TheConstants.{KERX}
use Rattle.aat_kerning_tables.specs.Classes.{ClassValues}
use Rattle.aat_read_lookup.specs.Lookups.{lookup_at}
use Rattle.aat_read_lookup.specs.Rows.{in_row}
use Rattle.aat_read_pairs.specs.KerxClasses.{array_grid_at, class_grid_at, grid_pairs, kerx_classes_at}
use Rattle.aat_write_machine.specs.LookupLaws.{IsPair, WrittenLookupsAreRead}
use Rattle.aat_write_machine.specs.Lookups.{lookup_written}
use Rattle.aat_write_machine.specs.Words.{word_bytes}
use Rattle.aat_write_machine.specs.facts.LongPlaces.{length_longs, long_at}
use Rattle.aat_write_machine.specs.facts.WordPlaces.{AreWords}
use Rattle.aat_write_machine.proofs.ClassTables.{lookup_is_short}
use Rattle.aat_write_kerx.specs.AnkrBytes.{unsigned16}
use Rattle.aat_write_kerx.specs.AnkrLaws.{IsSigned}
use Rattle.aat_write_kerx.specs.KerxLaws.{IsByClasses}
use Rattle.aat_write_kerx.specs.KerxWriteErrors.{after_written, of_pairs}
use Rattle.aat_write_kerx.specs.PairBytes.{classes_header, classes_written, first_far, grid_bytes, left_written, part_offsets, unless_far, value_bytes, with_offset}
use Rattle.aat_write_kerx.specs.declared.subtable_error.SubtableWriteError.{SubtableWriteError}
use Rattle.aat_write_kerx.specs.declared.subtable_error.SubtableWriteError.TheVariants.{NoColumns}
use Rattle.aat_write_kerx.proofs.ListAgain.{length_bytes, list_again}
use Rattle.aat_write_kerx.proofs.NoneFar.{row_is_near}
use Rattle.aat_write_kerx.proofs.PairsAgain.{of_pairs_is}
use Rattle.aat_write_kerx.proofs.Signed.{signed_again, signed_is_word}

-- a value is one number
abbrev value_words : ℤ → List ℕ
value_words value = unsigned16 value ∷ []

abbrev value_at : List ℕ → ℕ → ℤ
value_at bytes place = signed16 (be16 bytes place)

value_is_words : (v : ℤ) → IsSigned v → AreWords (value_words v)
value_is_words v small = (signed_is_word v small, tt)

value_reads :
    (v : ℤ) (bytes : List ℕ) (place : ℕ) → IsSigned v
    → ((k : ℕ) → k < length (value_words v) → be16 bytes (place + 2 * k) ≡ get_or (value_words v) k 0) → value_at bytes place ≡ v
value_reads v bytes place small each =
    let first : place ≡ place + 2 * 0 = omega arith in
    ap (λ (n : ℕ). signed16 (be16 bytes n)) first ∙ ap signed16 (each 0 (omega arith)) ∙ signed_again v small

as_words : (values : List ℤ) → map unsigned16 values ≡ flat_map value_words values
as_words [] = refl
as_words (v ∷ values) = ap (λ ws. unsigned16 v ∷ ws) (as_words values)

pub length_values : (values : List ℤ) → length (value_bytes values) ≡ 2 * length values
length_values values =
    ap (λ ws. length (word_bytes ws)) (as_words values)
    ∙ length_bytes value_words 2 value_at IsSigned (pos 0) (λ p. refl) value_is_words value_reads values

-- the values at the end of some bytes
pub values_again :
    (values : List ℤ) (front : List ℕ) (place : ℕ) → All IsSigned values → length front ≡ place
    → map (λ i. signed16 (be16 (front ++ value_bytes values) (place + 2 * i))) (range_with_len 0 ((length (front ++ value_bytes values) - place) / 2)) ≡ values
values_again values front place small at =
    let bytes : List ℕ = front ++ value_bytes values in
    let words : List ℕ = word_bytes (flat_map value_words values) in
    let long : length bytes ≡ place + 2 * length values = length-append front (value_bytes values) ∙ omega (arith, length_values values, at) in
    let count : (length bytes - place) / 2 ≡ length values = omega (arith, long) in
    let split : bytes ≡ front ++ (words ++ []) =
    ap (λ ws. front ++ word_bytes ws) (as_words values) ∙ ap (λ (ys : List ℕ). front ++ ys) (sym (append-nil words)) in
    ap (λ n. map (λ i. signed16 (be16 bytes (place + 2 * i))) (range_with_len 0 n)) count
    ∙ ap (λ (xs : List ℕ). map (λ i. signed16 (be16 xs (place + 2 * i))) (range_with_len 0 (length values))) split
    ∙ list_again value_words 2 value_at IsSigned (pos 0) (λ p. refl) value_is_words value_reads values front [] place (length values) small at refl

-- offsets of rows are classes again
classes_again : (width : ℕ) (pairs : List (ℕ × ℕ)) → 0 < width → map (in_row width) (map (with_offset width) pairs) ≡ pairs
classes_again width [] some = refl
classes_again width (p ∷ pairs) some =
    ap (λ (n : ℕ). (p.0, n) ∷ map (in_row width) (map (with_offset width) pairs)) (mul-div_cancel p.1 some)
    ∙ ap (λ (ps : List (ℕ × ℕ)). p ∷ ps) (classes_again width pairs some)

offsets_small :
    (width : ℕ) (pairs : List (ℕ × ℕ)) → All IsPair pairs
    → ((k : ℕ) (d : ℕ × ℕ) → k < length pairs → (get_or pairs k d).1 * width ≤ 65535) → All IsPair (map (with_offset width) pairs)
offsets_small width [] small near k d below = absurd (omega arith)
offsets_small width (p ∷ pairs) small near zero d below = ((small 0 p (omega arith)).0, omega (arith, near 0 p (omega arith)))
offsets_small width (p ∷ pairs) small near (suc k) d below =
    offsets_small width pairs (λ i e lt. small (suc i) e (omega arith)) (λ i e lt. near (suc i) e (omega arith)) k d (omega arith)

-- what is known where the classes of left glyphs are written
pub record IsLeft (t : ClassValues) (left : List ℕ) : Type 0 where
  pub some : 0 < t.right_count
  pub none : first_far t.right_count t.left ≡ None
  pub written : lookup_written (map (with_offset t.right_count) t.left) ≡ Ok left

left_by :
    (t : ClassValues) (left : List ℕ) (zero_columns : Bool) (far : Option ℕ)
    → (t.right_count == 0) ≡ zero_columns → first_far t.right_count t.left ≡ far
    → ◌≡◌ {A = Result (List ℕ) SubtableWriteError} (cond zero_columns (Err NoColumns) (unless_far t.right_count t.left far)) (Ok left) → IsLeft t left
left_by t left true far test at is = absurd (let wrong : ⊥ = cc in wrong)
left_by t left false (Some place) test at is = absurd (let wrong : ⊥ = cc in wrong)
left_by t left false None test at is = record {
  some = positive t.right_count test;
  none = at;
  written = of_pairs_is (lookup_written (map (with_offset t.right_count) t.left)) left is;
}
  where
    positive : (n : ℕ) → (n == 0) ≡ false → 0 < n
    positive n is = grind (arith, nat_tests)

pub is_left : (t : ClassValues) (left : List ℕ) → left_written t ≡ Ok left → IsLeft t left
is_left t left is = left_by t left (t.right_count == 0) (first_far t.right_count t.left) refl refl is

-- a grid whose parts are read
grid_by :
    (bytes : List ℕ) (glyph_count rows columns count array tuples : ℕ) (left offsets right : List (ℕ × ℕ)) (values : List ℤ)
    → lookup_at KERX bytes rows glyph_count ≡ Ok offsets → map (in_row count) offsets ≡ left
    → lookup_at KERX bytes columns glyph_count ≡ Ok right
    → map (λ i. signed16 (be16 bytes (array + 2 * i))) (range_with_len 0 ((length bytes - array) / 2)) ≡ values
    → grid_pairs bytes glyph_count (record {
      rows = rows;
      columns = columns;
      column_count = count;
      array = array;
      tuples = record { place = tuples; count = 0 };
    }) ≡ Ok (record { left = left; right = right; right_count = count; values = values })
unfolding grid_pairs
grid_by bytes glyph_count rows columns count array tuples left offsets right values at_rows classes at_columns at_array =
    let of_parts : List (ℕ × ℕ) → List (ℕ × ℕ) → List ℤ → Result ClassValues Fault =
    λ ls rs vs. Ok (record { left = ls; right = rs; right_count = count; values = vs }) in
    let raw : List ℤ = map (λ i. signed16 (be16 bytes (array + 2 * i))) (range_with_len 0 ((length bytes - array) / 2)) in
    ap (λ (r : Result (List (ℕ × ℕ)) Fault). after (after r (λ pairs. Ok (map (in_row count) pairs))) (λ ls.
    after (lookup_at KERX bytes columns glyph_count) (λ rs. of_parts ls rs raw))) at_rows
    ∙ ap (λ (ls : List (ℕ × ℕ)). after (lookup_at KERX bytes columns glyph_count) (λ rs. of_parts ls rs raw)) classes
    ∙ ap (λ (r : Result (List (ℕ × ℕ)) Fault). after r (λ rs. of_parts left rs raw)) at_columns
    ∙ ap (λ (vs : List ℤ). of_parts left right vs) at_array

pub grid_is_read :
    WrittenLookupsAreRead → (t : ClassValues) (left right front : List ℕ) (rows start glyph_count : ℕ)
    → IsByClasses t → IsLeft t left → lookup_written t.right ≡ Ok right → length front ≡ rows
    → grid_pairs (front ++ (left ++ (right ++ value_bytes t.values))) glyph_count (record {
      rows = rows;
      columns = rows + length left;
      column_count = t.right_count;
      array = rows + length left + length right;
      tuples = record { place = start; count = 0 };
    }) ≡ Ok t
grid_is_read law t left right front rows start glyph_count small is written at =
    let values : List ℕ = value_bytes t.values in
    let bytes : List ℕ = front ++ (left ++ (right ++ values)) in
    let offsets : List (ℕ × ℕ) = map (with_offset t.right_count) t.left in
    let few : All IsPair offsets = offsets_small t.right_count t.left small.1 (λ k d below. row_is_near t.right_count t.left k d is.none below) in
    let at_right : bytes ≡ (front ++ left) ++ (right ++ values) = sym (append_assoc front left (right ++ values)) in
    let at_values : bytes ≡ ((front ++ left) ++ right) ++ values = at_right ∙ sym (append_assoc (front ++ left) right values) in
    let right_place : length (front ++ left) ≡ rows + length left = length-append front left ∙ ap (λ n. n + length left) at in
    let value_place : length ((front ++ left) ++ right) ≡ rows + length left + length right =
    length-append (front ++ left) right ∙ ap (λ n. n + length right) right_place in
    let first : lookup_at KERX bytes rows glyph_count ≡ Ok offsets =
    ap (λ n. lookup_at KERX bytes n glyph_count) (sym at) ∙ law KERX offsets left front (right ++ values) glyph_count few is.written in
    let second : lookup_at KERX bytes (rows + length left) glyph_count ≡ Ok t.right =
    ap (λ n. lookup_at KERX bytes n glyph_count) (sym right_place)
    ∙ ap (λ xs. lookup_at KERX xs (length (front ++ left)) glyph_count) at_right
    ∙ law KERX t.right right (front ++ left) values glyph_count small.2 written in
    let place : ℕ = rows + length left + length right in
    let array : map (λ i. signed16 (be16 bytes (place + 2 * i))) (range_with_len 0 ((length bytes - place) / 2)) ≡ t.values =
    ap (λ (xs : List ℕ). map (λ i. signed16 (be16 xs (place + 2 * i))) (range_with_len 0 ((length xs - place) / 2))) at_values
    ∙ values_again t.values ((front ++ left) ++ right) place small.3 value_place in
    grid_by bytes glyph_count rows (rows + length left) t.right_count place start t.left offsets t.right t.values
    first (classes_again t.right_count t.left is.some) second array

not_zero : (count : ℕ) → 0 < count → (count == 0) ≡ false
not_zero count some = grind (arith, nat_tests)

-- the header of format 2
class_grid_by :
    (bytes : List ℕ) (start count rows columns array : ℕ)
    → start + 28 ≤ length bytes → be32 bytes (start + 12) / 2 ≡ count → 0 < count → count < 65536
    → start + be32 bytes (start + 16) ≡ rows → start + be32 bytes (start + 20) ≡ columns → start + be32 bytes (start + 24) ≡ array
    → class_grid_at bytes start 0 ≡ Ok (record { rows = rows; columns = columns; column_count = count; array = array; tuples = record { place = start; count = 0 } })
unfolding class_grid_at
class_grid_by bytes start count rows columns array inside counted some few at_rows at_columns at_array =
    rw (le-ltb (length bytes) (start + 28) inside) (rw counted (rw (not_zero count some) (rw (le-ltb 65535 count (omega arith))
    (rw at_rows (rw at_columns (rw at_array refl))))))

-- the header of format 6
pub array_grid_by :
    (bytes : List ℕ) (start count rows columns array : ℕ)
    → start + 36 ≤ length bytes → be32 bytes (start + 12) ≡ 0 → be16 bytes (start + 18) ≡ count → 0 < count → count < 65536
    → start + be32 bytes (start + 20) ≡ rows → start + be32 bytes (start + 24) ≡ columns → start + be32 bytes (start + 28) ≡ array
    → array_grid_at bytes start 0 ≡ Ok (record {
      rows = rows;
      columns = columns;
      column_count = count;
      array = array;
      tuples = record { place = start + be32 bytes (start + 32); count = 0 };
    })
unfolding array_grid_at
array_grid_by bytes start count rows columns array inside flags counted some few at_rows at_columns at_array =
    rw (le-ltb (length bytes) (start + 36) inside) (rw flags (rw counted (rw (not_zero count some) (rw (le-ltb 65535 count (omega arith))
    (rw at_rows (rw at_columns (rw at_array refl)))))))

-- numbers of 32 bits
pub one_more : (n : ℕ) (ns : List ℕ) → n < 4294967296 → All (λ m. m < 4294967296) ns → All (λ m. m < 4294967296) (n ∷ ns)
one_more n ns low all zero d below = low
one_more n ns low all (suc k) d below = all k d (omega arith)

pub no_longs : All (λ m. m < 4294967296) []
no_longs k d below = absurd (omega arith)

-- what is known where a grid is written
pub grid_parts :
    (header : List ℕ → List ℕ → ClassValues → List ℕ) (t : ClassValues) (body : List ℕ)
    (left : Result (List ℕ) SubtableWriteError) (right : Result (List ℕ) SubtableWriteError)
    → ◌≡◌ {A = Result (List ℕ) SubtableWriteError} (after_written left (λ l. after_written right (λ r. Ok (grid_bytes (header l r t) l r t.values)))) (Ok body)
    → (l : List ℕ) × (r : List ℕ) × (left ≡ Ok l) × (right ≡ Ok r) × (grid_bytes (header l r t) l r t.values ≡ body)
grid_parts header t body (Err e) right is = absurd (let wrong : ⊥ = cc in wrong)
grid_parts header t body (Ok l) (Err e) is = absurd (let wrong : ⊥ = cc in wrong)
grid_parts header t body (Ok l) (Ok r) is = (l, r, refl, refl, cc)

classes_are_read :
    WrittenLookupsAreRead → (t : ClassValues) (left right front : List ℕ) (start glyph_count : ℕ)
    → IsByClasses t → IsLeft t left → lookup_written t.right ≡ Ok right → length front ≡ start + 12
    → kerx_classes_at (front ++ grid_bytes (classes_header left right t) left right t.values) start glyph_count 0 ≡ Ok t
classes_are_read law t left right front start glyph_count small is written at =
    let longs : List ℕ = 2 * t.right_count ∷ part_offsets 28 left right in
    let header : List ℕ = classes_header left right t in
    let header_long : length header ≡ 16 = length_longs longs in
    let later : List ℕ = left ++ (right ++ value_bytes t.values) in
    let bytes : List ℕ = front ++ (header ++ later) in
    let short_left = lookup_is_short (map (with_offset t.right_count) t.left) left is.written in
    let short_right = lookup_is_short t.right right written in
    let all : All (λ m. m < 4294967296) longs =
    one_more (2 * t.right_count) (part_offsets 28 left right) (omega (arith, small.0))
    (one_more 28 ((28 + length left) ∷ (28 + length left + length right) ∷ []) (omega arith)
    (one_more (28 + length left) ((28 + length left + length right) ∷ []) (omega (arith, short_left))
    (one_more (28 + length left + length right) [] (omega (arith, short_left, short_right)) no_longs))) in
    let counted : be32 bytes (start + 12) ≡ 2 * t.right_count = long_at longs front later (start + 12) 0 (omega arith) all (omega (arith, at)) in
    let rows : be32 bytes (start + 16) ≡ 28 = long_at longs front later (start + 16) 1 (omega arith) all (omega (arith, at)) in
    let columns : be32 bytes (start + 20) ≡ 28 + length left = long_at longs front later (start + 20) 2 (omega arith) all (omega (arith, at)) in
    let array : be32 bytes (start + 24) ≡ 28 + length left + length right = long_at longs front later (start + 24) 3 (omega arith) all (omega (arith, at)) in
    let long : length bytes ≡ start + 28 + length later = length-append front (header ++ later) ∙ omega (arith, length-append header later, header_long, at) in
    let split : bytes ≡ (front ++ header) ++ later = sym (append_assoc front header later) in
    let place : length (front ++ header) ≡ start + 28 = length-append front header ∙ omega (arith, header_long, at) in
    let grid = class_grid_by bytes start t.right_count (start + 28) (start + 28 + length left) (start + 28 + length left + length right)
    (omega (arith, long)) (omega (arith, counted)) is.some (omega (arith, small.0))
    (omega (arith, rows)) (omega (arith, columns)) (omega (arith, array)) in
    ap (λ (r : Result _ Fault). after r (grid_pairs bytes glyph_count)) grid
    ∙ subst (λ (xs : List ℕ). grid_pairs xs glyph_count (record {
      rows = start + 28;
      columns = start + 28 + length left;
      column_count = t.right_count;
      array = start + 28 + length left + length right;
      tuples = record { place = start; count = 0 };
    }) ≡ Ok t) (sym split) (grid_is_read law t left right (front ++ header) (start + 28) start glyph_count small is written place)

-- format 2
pub written_classes_are_read :
    WrittenLookupsAreRead → (t : ClassValues) (body front : List ℕ) (start glyph_count : ℕ)
    → IsByClasses t → classes_written t ≡ Ok body → length front ≡ start + 12
    → kerx_classes_at (front ++ body) start glyph_count 0 ≡ Ok t
written_classes_are_read law t body front start glyph_count small is at =
    let parts = grid_parts classes_header t body (left_written t) (of_pairs (lookup_written t.right)) is in
    subst (λ (b : List ℕ). kerx_classes_at (front ++ b) start glyph_count 0 ≡ Ok t) parts.4
    (classes_are_read law t parts.0 parts.1 front start glyph_count small (is_left t parts.0 parts.2) (of_pairs_is (lookup_written t.right) parts.1 parts.3) at)
