-- A table of anchor points that is written is read again.
use Rattle.std.proofs.Common.{◌≡◌, ℕ, ℤ, zero, suc, ◌+◌, ◌*◌, ◌<◌, ◌≤◌, List, [], ◌∷◌, ◌++◌, length, get_or, map, Option, Some, None, Result, Ok, Err, All, refl, sym, ap, ◌∙◌, subst, append_assoc, arith}
use Rattle.std.specs.Prelude.{pos}
use Rattle.std.specs.List.{flat_map, range_with_len}
use Rattle.std.proofs.lemmas.Bool.{le-ltb}
use Rattle.std.proofs.lemmas.List.{length-append}
use Rattle.aat_bytes.specs.Faults.{after}
use Rattle.aat_bytes.specs.Numbers.{be16, be32, signed16}
use Rattle.aat_bytes.specs.declared.error.Fault.{Fault}
use Rattle.aat_bytes.specs.declared.tags.TheConstants.{ANKR}
use Rattle.aat_kerning_tables.specs.AnchorPoints.{Points}
use Rattle.aat_kerning_tables.specs.declared.ankr.Point.{Point}
use Rattle.aat_read_lookup.specs.Lookups.{lookup_at}
use Rattle.aat_read_extended.specs.kerx.Anchors.{ankr_of, point_at, points_at, points_within, row_size, rows_within}
use Rattle.aat_write_machine.specs.LookupLaws.{IsPair, WrittenLookupsAreRead}
use Rattle.aat_write_machine.specs.Lookups.{lookup_written}
use Rattle.aat_write_machine.specs.Words.{long_bytes, word_bytes}
use Rattle.aat_write_machine.specs.declared.write_error.WriteError.{WriteError}
use Rattle.aat_write_machine.specs.facts.LongPlaces.{length_longs, long_at}
use Rattle.aat_write_machine.specs.facts.WordPlaces.{AreWords}
use Rattle.aat_write_machine.proofs.ClassTables.{lookup_is_short}
use Rattle.aat_write_kerx.specs.AnkrBytes.{HasFewPoints, ankr_bytes, offsets_from, point_words, points_bytes, points_size, refusal_from, with_lookup}
use Rattle.aat_write_kerx.specs.AnkrLaws.{IsPoint, IsRow, WrittenPointsAreRead}
use Rattle.aat_write_kerx.specs.declared.ankr_error.AnkrWriteError.{AnkrWriteError}
use Rattle.aat_write_kerx.proofs.AnkrRows.{few_rows, first_row}
use Rattle.aat_write_kerx.proofs.ListAgain.{length_bytes, list_again}
use Rattle.aat_write_kerx.proofs.Signed.{signed_again, signed_is_word}

point_is_words : (p : Point) → IsPoint p → AreWords (point_words p)
point_is_words p small = (signed_is_word p.x small.0, (signed_is_word p.y small.1, tt))

point_reads :
    (p : Point) (bytes : List ℕ) (place : ℕ) → IsPoint p
    → ((k : ℕ) → k < length (point_words p) → be16 bytes (place + 2 * k) ≡ get_or (point_words p) k 0) → point_at bytes place ≡ p
point_reads p bytes place small each =
    let first : place ≡ place + 2 * 0 = omega arith in
    let x : signed16 (be16 bytes place) ≡ p.x =
    ap (λ (n : ℕ). signed16 (be16 bytes n)) first ∙ ap signed16 (each 0 (omega arith)) ∙ signed_again p.x small.0 in
    let y : signed16 (be16 bytes (place + 2)) ≡ p.y =
    ap signed16 (each 1 (omega arith)) ∙ signed_again p.y small.1 in
    let of_x : ℤ → Point = λ n. record { x = n; y = signed16 (be16 bytes (place + 2)) } in
    let of_y : ℤ → Point = λ n. record { x = p.x; y = n } in
    ap of_x x ∙ ap of_y y

abbrev origin : Point
origin = record { x = pos 0; y = pos 0 }

points_again :
    (points : List Point) (front rest : List ℕ) (place : ℕ) → All IsPoint points → length front ≡ place
    → map (λ i. point_at (front ++ (word_bytes (flat_map point_words points) ++ rest)) (place + 4 * i)) (range_with_len 0 (length points)) ≡ points
points_again points front rest place small at =
    list_again point_words 4 point_at IsPoint origin (λ p. refl) point_is_words point_reads points front rest place (length points) small at refl

length_points : (points : List Point) → length (word_bytes (flat_map point_words points)) ≡ 4 * length points
length_points points = length_bytes point_words 4 point_at IsPoint origin (λ p. refl) point_is_words point_reads points

length_row : (points : List Point) → length (points_bytes points) ≡ points_size points
length_row points =
    length-append (long_bytes (length points ∷ [])) (word_bytes (flat_map point_words points))
    ∙ omega (arith, length_longs (length points ∷ []), length_points points)

-- points that stand inside, and have room, are read
points_by :
    (bytes : List ℕ) (used place : ℕ) (points : List Point)
    → place + 4 + 4 * be32 bytes place ≤ length bytes → used + row_size (be32 bytes place) ≤ 24 * length bytes
    → points_at bytes place ≡ points → points_within bytes used place ≡ Ok points
unfolding points_within
points_by bytes used place points inside room is =
    rw (le-ltb (length bytes) (place + 4) (omega (arith, inside)))
    (rw (le-ltb (length bytes) (place + 4 + 4 * be32 bytes place) inside)
    (rw (le-ltb (24 * length bytes) (used + row_size (be32 bytes place)) room) (ap Ok is)))

-- the points of a row behind a front
row_is_read :
    (points : List Point) (front rest : List ℕ) (used : ℕ)
    → All IsPoint points → length points ≤ 65536 → used ≤ 8 * length front
    → points_within (front ++ (points_bytes points ++ rest)) used (length front) ≡ Ok points
row_is_read points front rest used small few room =
    let place : ℕ = length front in
    let count : List ℕ = long_bytes (length points ∷ []) in
    let words : List ℕ = word_bytes (flat_map point_words points) in
    let bytes : List ℕ = front ++ (points_bytes points ++ rest) in
    let at_count : bytes ≡ front ++ (count ++ (words ++ rest)) = ap (λ xs. front ++ xs) (append_assoc count words rest) in
    let at_words : bytes ≡ (front ++ count) ++ (words ++ rest) = at_count ∙ sym (append_assoc front count (words ++ rest)) in
    let counted : be32 bytes place ≡ length points =
    ap (λ xs. be32 xs place) at_count
    ∙ long_at (length points ∷ []) front (words ++ rest) place 0 (omega arith) (one_long (length points) (omega (arith, few))) (omega arith) in
    let count_long : length (front ++ count) ≡ place + 4 = length-append front count ∙ omega (arith, length_longs (length points ∷ [])) in
    let long : length bytes ≡ place + points_size points + length rest =
    length-append front (points_bytes points ++ rest) ∙ omega (arith, length-append (points_bytes points) rest, length_row points) in
    let again : points_at bytes place ≡ points =
    ap (λ (n : ℕ). map (λ i. point_at bytes (place + 4 + 4 * i)) (range_with_len 0 n)) counted
    ∙ ap (λ (xs : List ℕ). map (λ i. point_at xs (place + 4 + 4 * i)) (range_with_len 0 (length points))) at_words
    ∙ points_again points (front ++ count) rest (place + 4) small count_long in
    points_by bytes used place points (omega (arith, counted, long)) (omega (arith, counted, long, room)) again
  where
    one_long : (n : ℕ) → n < 4294967296 → All (λ m. m < 4294967296) (n ∷ [])
    one_long n small zero d below = small
    one_long n small (suc k) d below = absurd (omega arith)

-- what comes of a row and of the rows behind it
rows_by :
    (bytes : List ℕ) (used glyph : ℕ) (points : List Point) (offset : ℕ) (glyphs : List (ℕ × ℕ)) (rows : Points)
    → points_within bytes used (be32 bytes 8 + offset) ≡ Ok points
    → rows_within bytes (used + row_size (length points)) glyphs ≡ Ok rows
    → rows_within bytes used ((glyph, offset) ∷ glyphs) ≡ Ok ((glyph, points) ∷ rows)
rows_by bytes used glyph points offset glyphs rows first more =
    ap (λ (r : Result (List Point) Fault). after r (λ ps. after (rows_within bytes (used + row_size (length ps)) glyphs) (λ rs. Ok ((glyph, ps) ∷ rs)))) first
    ∙ ap (λ (r : Result Points Fault). after r (λ rs. Ok ((glyph, points) ∷ rs))) more

abbrev row_bytes : Points → List ℕ
row_bytes rows = flat_map (λ row. points_bytes row.1) rows

rows_are_read :
    (rows : Points) (front bytes : List ℕ) (offset used : ℕ)
    → All IsRow rows → All HasFewPoints rows
    → bytes ≡ front ++ row_bytes rows → be32 bytes 8 + offset ≡ length front → used ≤ 8 * offset
    → rows_within bytes used (offsets_from offset rows) ≡ Ok rows
rows_are_read [] front bytes offset used small few split at room = refl
rows_are_read (row ∷ rows) front bytes offset used small few split at room =
    let points : List Point = row.1 in
    let here : List ℕ = points_bytes points in
    let later : List ℕ = row_bytes rows in
    let first : points_within bytes used (be32 bytes 8 + offset) ≡ Ok points =
    ap (points_within bytes used) at
    ∙ ap (λ xs. points_within xs used (length front)) split
    ∙ row_is_read points front later used (small 0 row (omega arith)).1 (few 0 row (omega arith)) (omega (arith, at, room)) in
    let longer : length (front ++ here) ≡ length front + points_size points = length-append front here ∙ ap (λ n. length front + n) (length_row points) in
    rows_by bytes used row.0 points offset (offsets_from (offset + points_size points) rows) rows first
    (rows_are_read rows (front ++ here) bytes (offset + points_size points) (used + row_size (length points))
    (λ k d lt. small (suc k) d (omega arith)) (λ k d lt. few (suc k) d (omega arith))
    (split ∙ sym (append_assoc front here later)) (omega (arith, at, longer)) (omega (arith, room)))

-- glyphs and offsets have 16 bits
offsets_are_pairs :
    (place offset : ℕ) (rows : Points) → All IsRow rows → refusal_from place offset rows ≡ None → All IsPair (offsets_from offset rows)
offsets_are_pairs place offset [] small is k d below = absurd (omega arith)
offsets_are_pairs place offset (row ∷ rows) small is zero d below =
    ((small 0 row (omega arith)).0, omega (arith, (first_row place offset row rows is).0))
offsets_are_pairs place offset (row ∷ rows) small is (suc k) d below =
    offsets_are_pairs (place + 1) (offset + points_size row.1) rows (λ j e lt. small (suc j) e (omega arith))
    (first_row place offset row rows is).2 k d (omega arith)

-- a table whose parts are read
ankr_by :
    (bytes : List ℕ) (glyph_count : ℕ) (offsets : List (ℕ × ℕ)) (points : Points)
    → 12 ≤ length bytes → be16 bytes 0 ≡ 0 → lookup_at ANKR bytes (be32 bytes 4) glyph_count ≡ Ok offsets
    → rows_within bytes 0 offsets ≡ Ok points → ankr_of bytes glyph_count ≡ Ok points
unfolding ankr_of
ankr_by bytes glyph_count offsets points long version lookup rows =
    rw (le-ltb (length bytes) 12 long) (rw version
    (ap (λ (r : Result (List (ℕ × ℕ)) Fault). after r (rows_within bytes 0)) lookup ∙ rows))

three_longs : (a b c : ℕ) → a < 4294967296 → b < 4294967296 → c < 4294967296 → All (λ n. n < 4294967296) (a ∷ b ∷ c ∷ [])
three_longs a b c first second third zero d below = first
three_longs a b c first second third (suc zero) d below = second
three_longs a b c first second third (suc (suc zero)) d below = third
three_longs a b c first second third (suc (suc (suc k))) d below = absurd (omega arith)

table_is_read :
    WrittenLookupsAreRead → (points : Points) (lookup : List ℕ) (glyph_count : ℕ)
    → All IsRow points → refusal_from 0 0 points ≡ None → lookup_written (offsets_from 0 points) ≡ Ok lookup
    → ankr_of (ankr_bytes lookup points) glyph_count ≡ Ok points
table_is_read law points lookup glyph_count small none written =
    let longs : List ℕ = 0 ∷ 12 ∷ (12 + length lookup) ∷ [] in
    let header : List ℕ = long_bytes longs in
    let rows : List ℕ = row_bytes points in
    let bytes : List ℕ = ankr_bytes lookup points in
    let short : length lookup < 1048576 = lookup_is_short (offsets_from 0 points) lookup written in
    let header_long : length header ≡ 12 = length_longs longs in
    let third : be32 bytes 8 ≡ 12 + length lookup =
    long_at longs [] (lookup ++ rows) 8 2 (omega arith) (three_longs 0 12 (12 + length lookup) (omega arith) (omega arith) (omega (arith, short))) (omega arith) in
    let found : lookup_at ANKR bytes (be32 bytes 4) glyph_count ≡ Ok (offsets_from 0 points) =
    law ANKR (offsets_from 0 points) lookup header rows glyph_count (offsets_are_pairs 0 0 points small none) written in
    let split : bytes ≡ (header ++ lookup) ++ rows = sym (append_assoc header lookup rows) in
    let front_long : length (header ++ lookup) ≡ 12 + length lookup = length-append header lookup ∙ omega (arith, header_long) in
    ankr_by bytes glyph_count (offsets_from 0 points) points
    (omega (arith, length-append header (lookup ++ rows), header_long)) refl found
    (rows_are_read points (header ++ lookup) bytes 0 0 small (few_rows points none) split (omega (arith, third, front_long)) (omega arith))

-- what is known where a table is written
written_parts :
    (rows : Points) (bytes : List ℕ) (refusal : Option AnkrWriteError) (written : Result (List ℕ) WriteError)
    → ◌≡◌ {A = Result (List ℕ) AnkrWriteError} (elim refusal [ None ↦ with_lookup written rows | Some e ↦ Err e ]) (Ok bytes)
    → (lookup : List ℕ) × (refusal ≡ None) × (written ≡ Ok lookup) × (ankr_bytes lookup rows ≡ bytes)
written_parts rows bytes (Some e) written is = absurd (let wrong : ⊥ = cc in wrong)
written_parts rows bytes None (Err e) is = absurd (let wrong : ⊥ = cc in wrong)
written_parts rows bytes None (Ok lookup) is = (lookup, refl, refl, cc)

-- the law
pub written_points_are_read : WrittenLookupsAreRead → WrittenPointsAreRead
written_points_are_read law points bytes glyph_count small is =
    let parts = written_parts points bytes (refusal_from 0 0 points) (lookup_written (offsets_from 0 points)) is in
    subst (λ (b : List ℕ). ankr_of b glyph_count ≡ Ok points) parts.3
    (table_is_read law points parts.0 glyph_count small parts.1 parts.2)
