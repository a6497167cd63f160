-- Pairs by classes of format 6 that are written are read again.
use Rattle.std.proofs.Common.{◌≡◌, ℕ, ◌+◌, ◌<◌, ◌≤◌, List, [], ◌∷◌, ◌++◌, length, map, Result, Ok, All, sym, ap, ◌∙◌, subst, append_assoc, arith}
use Rattle.std.proofs.lemmas.Bool.{le-leb}
use Rattle.std.proofs.lemmas.List.{length-append}
use Rattle.aat_bytes.specs.Faults.{after}
use Rattle.aat_bytes.specs.Numbers.{be16, be32}
use Rattle.aat_bytes.specs.declared.error.Fault.{Fault}
use Rattle.aat_kerning_tables.specs.Classes.{ClassValues}
use Rattle.aat_kerning_tables.specs.declared.kerx.KerxFormat.TheVariants.{Format6Classes}
use Rattle.aat_read_extended.specs.kerx.Formats.{arrays_format_at, as_format}
use Rattle.aat_read_pairs.specs.KerxClasses.{grid_pairs, kerx_arrays_at}
use Rattle.aat_write_machine.specs.LookupLaws.{WrittenLookupsAreRead}
use Rattle.aat_write_machine.specs.Lookups.{lookup_written}
use Rattle.aat_write_machine.specs.Words.{long_bytes, word_bytes}
use Rattle.aat_write_machine.specs.facts.LongPlaces.{length_longs, long_at}
use Rattle.aat_write_machine.specs.facts.WordPlaces.{length_words, word_at}
use Rattle.aat_write_machine.proofs.ClassTables.{lookup_is_short}
use Rattle.aat_write_kerx.specs.KerxLaws.{IsByClasses}
use Rattle.aat_write_kerx.specs.KerxWriteErrors.{of_pairs}
use Rattle.aat_write_kerx.specs.PairBytes.{arrays_header, arrays_written, grid_bytes, left_written, part_offsets, row_count, value_bytes, with_offset}
use Rattle.aat_write_kerx.proofs.ClassesAgain.{IsLeft, array_grid_by, grid_is_read, grid_parts, is_left, no_longs, one_more}
use Rattle.aat_write_kerx.proofs.PairsAgain.{of_pairs_is}

-- format 6 with values of 16 bits
arrays_by :
    (bytes : List ℕ) (start glyph_count : ℕ) (t : ClassValues)
    → start + 16 ≤ length bytes → be32 bytes (start + 12) ≡ 0 → kerx_arrays_at bytes start glyph_count 0 ≡ Ok t
    → arrays_format_at bytes start glyph_count 0 ≡ as_format Format6Classes (Ok t)
unfolding arrays_format_at
arrays_by bytes start glyph_count t inside flags read =
    rw (le-leb (start + 16) (length bytes) inside) (rw flags (ap (as_format Format6Classes) read))

arrays_are_read :
    WrittenLookupsAreRead → (t : ClassValues) (left right front : List ℕ) (start glyph_count : ℕ)
    → IsByClasses t → IsLeft t left → lookup_written t.right ≡ Ok right → length front ≡ start + 12
    → arrays_format_at (front ++ grid_bytes (arrays_header left right t) left right t.values) start glyph_count 0 ≡ as_format Format6Classes (Ok t)
arrays_are_read law t left right front start glyph_count small is written at =
    let flags : List ℕ = long_bytes (0 ∷ []) in
    let counts : List ℕ = word_bytes (row_count t ∷ t.right_count ∷ []) in
    let places : List ℕ = part_offsets 36 left right in
    let offsets : List ℕ = long_bytes places in
    let none : List ℕ = long_bytes (0 ∷ []) in
    let header : List ℕ = arrays_header left right t in
    let later : List ℕ = left ++ (right ++ value_bytes t.values) in
    let bytes : List ℕ = front ++ (header ++ later) in
    let short_left = lookup_is_short (map (with_offset t.right_count) t.left) left is.written in
    let short_right = lookup_is_short t.right right written in
    let all : All (λ m. m < 4294967296) places =
    one_more 36 ((36 + length left) ∷ (36 + length left + length right) ∷ []) (omega arith)
    (one_more (36 + length left) ((36 + length left + length right) ∷ []) (omega (arith, short_left))
    (one_more (36 + length left + length right) [] (omega (arith, short_left, short_right)) no_longs)) in
    let flags_long : length flags ≡ 4 = length_longs (0 ∷ []) in
    let counts_long : length counts ≡ 4 = length_words (row_count t ∷ t.right_count ∷ []) in
    let offsets_long : length offsets ≡ 12 = length_longs places in
    let none_long : length none ≡ 4 = length_longs (0 ∷ []) in
    let header_long : length header ≡ 24 =
    omega (arith, length-append flags (counts ++ (offsets ++ none)), length-append counts (offsets ++ none), length-append offsets none, flags_long, counts_long, offsets_long, none_long) in
    let behind_flags : List ℕ = (counts ++ (offsets ++ none)) ++ later in
    let at_flags : bytes ≡ front ++ (flags ++ behind_flags) = ap (λ (ys : List ℕ). front ++ ys) (append_assoc flags (counts ++ (offsets ++ none)) later) in
    let at_counts : bytes ≡ (front ++ flags) ++ (counts ++ ((offsets ++ none) ++ later)) =
    at_flags ∙ sym (append_assoc front flags behind_flags)
    ∙ ap (λ (ys : List ℕ). (front ++ flags) ++ ys) (append_assoc counts (offsets ++ none) later) in
    let at_offsets : bytes ≡ ((front ++ flags) ++ counts) ++ (offsets ++ (none ++ later)) =
    at_counts ∙ sym (append_assoc (front ++ flags) counts ((offsets ++ none) ++ later))
    ∙ ap (λ (ys : List ℕ). ((front ++ flags) ++ counts) ++ ys) (append_assoc offsets none later) in
    let counts_place : length (front ++ flags) ≡ start + 16 = length-append front flags ∙ omega (arith, flags_long, at) in
    let offsets_place : length ((front ++ flags) ++ counts) ≡ start + 20 = length-append (front ++ flags) counts ∙ omega (arith, counts_long, counts_place) in
    let flag : be32 bytes (start + 12) ≡ 0 =
    ap (λ xs. be32 xs (start + 12)) at_flags
    ∙ long_at (0 ∷ []) front behind_flags (start + 12) 0 (omega arith) (one_more 0 [] (omega arith) no_longs) (omega (arith, at)) in
    let few_rows : row_count t < 65536 = omega arith in
    let counted : be16 bytes (start + 18) ≡ t.right_count =
    ap (λ xs. be16 xs (start + 18)) at_counts
    ∙ word_at (row_count t ∷ t.right_count ∷ []) (front ++ flags) ((offsets ++ none) ++ later) (start + 18) 1 (omega arith)
    (few_rows, (omega (arith, small.0), tt)) (omega (arith, counts_place)) in
    let rows : be32 bytes (start + 20) ≡ 36 =
    ap (λ xs. be32 xs (start + 20)) at_offsets
    ∙ long_at places ((front ++ flags) ++ counts) (none ++ later) (start + 20) 0 (omega arith) all (omega (arith, offsets_place)) in
    let columns : be32 bytes (start + 24) ≡ 36 + length left =
    ap (λ xs. be32 xs (start + 24)) at_offsets
    ∙ long_at places ((front ++ flags) ++ counts) (none ++ later) (start + 24) 1 (omega arith) all (omega (arith, offsets_place)) in
    let array : be32 bytes (start + 28) ≡ 36 + length left + length right =
    ap (λ xs. be32 xs (start + 28)) at_offsets
    ∙ long_at places ((front ++ flags) ++ counts) (none ++ later) (start + 28) 2 (omega arith) all (omega (arith, offsets_place)) in
    let long : length bytes ≡ start + 36 + length later = length-append front (header ++ later) ∙ omega (arith, length-append header later, header_long, at) in
    let split : bytes ≡ (front ++ header) ++ later = sym (append_assoc front header later) in
    let place : length (front ++ header) ≡ start + 36 = length-append front header ∙ omega (arith, header_long, at) in
    let tuples : ℕ = start + be32 bytes (start + 32) in
    let grid = array_grid_by bytes start t.right_count (start + 36) (start + 36 + length left) (start + 36 + length left + length right)
    (omega (arith, long)) flag counted is.some (omega (arith, small.0))
    (omega (arith, rows)) (omega (arith, columns)) (omega (arith, array)) in
    arrays_by bytes start glyph_count t (omega (arith, long)) flag
    (ap (λ (r : Result _ Fault). after r (grid_pairs bytes glyph_count)) grid
    ∙ subst (λ (xs : List ℕ). grid_pairs xs glyph_count (record {
      rows = start + 36;
      columns = start + 36 + length left;
      column_count = t.right_count;
      array = start + 36 + length left + length right;
      tuples = record { place = tuples; count = 0 };
    }) ≡ Ok t) (sym split) (grid_is_read law t left right (front ++ header) (start + 36) tuples glyph_count small is written place))

-- format 6
pub written_arrays_are_read :
    WrittenLookupsAreRead → (t : ClassValues) (body front : List ℕ) (start glyph_count : ℕ)
    → IsByClasses t → arrays_written t ≡ Ok body → length front ≡ start + 12
    → arrays_format_at (front ++ body) start glyph_count 0 ≡ as_format Format6Classes (Ok t)
written_arrays_are_read law t body front start glyph_count small is at =
    let parts = grid_parts arrays_header t body (left_written t) (of_pairs (lookup_written t.right)) is in
    subst (λ (b : List ℕ). arrays_format_at (front ++ b) start glyph_count 0 ≡ as_format Format6Classes (Ok t)) parts.4
    (arrays_are_read law t parts.0 parts.1 front start glyph_count small (is_left t parts.0 parts.2) (of_pairs_is (lookup_written t.right) parts.1 parts.3) at)
