-- A tracking table that is written is read again.
use Rattle.std.proofs.Common.{◌≡◌, ◌∙◌, ap, refl, subst, ℕ, ◌+◌, ◌*◌, ◌<◌, ◌≤◌, ◌==◌, Bool, true, false, cond, List, [], ◌++◌, length, get_or, Option, Some, None, Result, Ok, Err, append_assoc, arith, length-append}
use Rattle.std.specs.Prelude.{◌||◌, nat_lt}
use Rattle.std.specs.Option.{option_or}
use Rattle.std.proofs.lemmas.Bool.{ltb-false}
use Rattle.std.proofs.lemmas.Bool.Decides.{nat_tests}
use Rattle.std.proofs.lemmas.List.{append-nil}
use Rattle.aat_bytes.specs.Faults.{fault_at}
use Rattle.aat_bytes.specs.Numbers.{be16}
use Rattle.aat_bytes.specs.declared.error.Fault.{Fault}
use Rattle.aat_bytes.specs.declared.error.FaultKind.TheVariants.{UnknownFormat}
use Rattle.aat_bytes.specs.declared.tags.TheConstants.{TRAK}
use Rattle.aat_glyph.specs.placement.Tracks.{TrackTable, TrackingTable}
use Rattle.aat_read_metrics.specs.Trak as reader
use Rattle.aat_write_machine.specs.Words.{word_bytes}
use Rattle.aat_write_machine.specs.facts.WordPlaces.{AreWords, length_words, word_at}
use Rattle.aat_write_sfnt.specs.declared.trak.error.TrakWriteError.{TrakWriteError}
use Rattle.aat_write_sfnt.specs.declared.trak.error.TrakWriteError.TheVariants.{TooMany, RowValues, ColumnsTooFar, ColumnValues}
use Rattle.aat_write_sfnt.specs.TrakBytes.{columns_offset, data_words, offset_of, part_bytes, part_far, part_size, part_too_many, rows_offset, trak_bytes, trak_header}
use Rattle.aat_write_sfnt.specs.TrakLaws.{IsPart, WrittenTracksAreRead}
use Rattle.aat_write_sfnt.proofs.TrackDataAgain.{counted, data_read, neither, no_fault}
use Rattle.aat_write_sfnt.proofs.TrackWords.{words_long}

-- what holds where a table is written
written_is :
    (many : Bool) (rows columns : Option ℕ) (far : Bool) (made bytes : List ℕ)
    → ◌≡◌ {A = Result (List ℕ) TrakWriteError}
    (cond many (Err TooMany) (elim rows [
      | None ↦ cond far (Err ColumnsTooFar) (elim columns [ None ↦ Ok made | Some k ↦ Err (ColumnValues k) ])
      | Some k ↦ Err (RowValues k)
    ]))
    (Ok bytes)
    → (many ≡ false) × (rows ≡ None) × (far ≡ false) × (columns ≡ None) × (made ≡ bytes)
written_is true rows columns far made bytes is = cc
written_is false (Some k) columns far made bytes is = cc
written_is false None columns true made bytes is = cc
written_is false None (Some k) false made bytes is = cc
written_is false None None false made bytes is = (refl, refl, refl, refl, cc)

-- the tracks of a direction, or none
part_read :
    (at : ℕ) (part : Option TrackTable) (front rest : List ℕ)
    → 0 < at
    → length front ≡ at
    → IsPart part
    → part_too_many part ≡ false
    → part_far (offset_of at part) part ≡ None
    → offset_of at part < 65536
    → (reader.part_fault (front ++ (part_bytes (offset_of at part) part ++ rest)) (offset_of at part) ≡ None)
    × (reader.part_at (front ++ (part_bytes (offset_of at part) part ++ rest)) (offset_of at part) ≡ part)
part_read at None front rest some long is few near low = (refl, refl)
part_read at (Some t) front rest some long is few near low =
    let bytes = front ++ (word_bytes (data_words at t) ++ rest) in
    let there : (at == 0) ≡ false = grind (arith, nat_tests, some) in (
      ap (λ (b : Bool). cond b None (reader.data_fault bytes at)) there ∙ no_fault at t front rest long is few near low,
      ap (λ (b : Bool). cond b None (Some (reader.data_at bytes at))) there ∙ ap Some (data_read at t front rest long is few near low),
    )

-- how many bytes the tracks of a direction take
part_long :
    (at : ℕ) (part : Option TrackTable) (front rest : List ℕ)
    → length front ≡ at
    → IsPart part
    → part_too_many part ≡ false
    → part_far (offset_of at part) part ≡ None
    → offset_of at part < 65536
    → length (part_bytes (offset_of at part) part) ≡ part_size part
part_long at None front rest long is few near low = refl
part_long at (Some t) front rest long is few near low =
    omega (arith, length_words (data_words at t), words_long at t, counted at t front rest long is few near low)

-- a header of version 1 and format 0
header_is :
    (bytes : List ℕ) → 12 ≤ length bytes → be16 bytes 0 ≡ 1 → be16 bytes 4 ≡ 0 → reader.header_fault bytes ≡ None
header_is bytes long version format =
    let whole : nat_lt (length bytes) 12 ≡ false = grind (arith, nat_tests, long) in
    let first : (be16 bytes 0 == 1) ≡ true = grind (arith, nat_tests, version) in
    let second : (be16 bytes 4 == 0) ≡ true = grind (arith, nat_tests, format) in
    by (nat_lt (length bytes) 12) (be16 bytes 0 == 1) (be16 bytes 4 == 0) (reader.past 0) (fault_at TRAK UnknownFormat 4)
    (fault_at TRAK UnknownFormat 0) whole first second
  where
    by : {X : Type 0} (a b c : Bool) (x y z : X) → a ≡ false → b ≡ true → c ≡ true
        → cond a (Some x) (cond b (cond c None (Some y)) (Some z)) ≡ None
    by a b c x y z one two three = rw (one, two, three) refl

-- a table, or its fault
abbrev table_or : TrackingTable → Option Fault → Result TrackingTable Fault
table_or read o = elim o [ None ↦ Ok read | Some fault ↦ Err fault ]

module _ (t : TrackingTable) (rows : IsPart t.rows) (columns : IsPart t.columns)
    (few_rows : part_too_many t.rows ≡ false) (few_columns : part_too_many t.columns ≡ false)
    (near_rows : part_far (rows_offset t) t.rows ≡ None) (low : columns_offset t < 65536)
    (near_columns : part_far (columns_offset t) t.columns ≡ None) where
  abbrev header : List ℕ
  header = word_bytes (trak_header t)

  abbrev first : List ℕ
  first = part_bytes (rows_offset t) t.rows

  abbrev second : List ℕ
  second = part_bytes (columns_offset t) t.columns

  abbrev bytes : List ℕ
  bytes = trak_bytes t

  header_long : length header ≡ 12
  header_long = length_words (trak_header t)

  rows_low : (part : Option TrackTable) → offset_of 12 part < 65536
  rows_low None = omega arith
  rows_low (Some d) = omega arith

  rows_read : (reader.part_fault bytes (rows_offset t) ≡ None) × (reader.part_at bytes (rows_offset t) ≡ t.rows)
  rows_read = part_read 12 t.rows header second (omega arith) header_long rows few_rows near_rows (rows_low t.rows)

  front_long : length (header ++ first) ≡ 12 + part_size t.rows
  front_long =
      omega (
        arith,
        length-append header first,
        header_long,
        part_long 12 t.rows header second header_long rows few_rows near_rows (rows_low t.rows),
      )

  same_bytes : (header ++ first) ++ (second ++ []) ≡ bytes
  same_bytes = append_assoc header first (second ++ []) ∙ ap (λ xs. header ++ (first ++ xs)) (append-nil second)

  columns_read :
      (reader.part_fault bytes (columns_offset t) ≡ None) × (reader.part_at bytes (columns_offset t) ≡ t.columns)
  columns_read =
      subst (λ (b : List ℕ). (reader.part_fault b (columns_offset t) ≡ None) × (reader.part_at b (columns_offset t) ≡ t.columns))
      same_bytes
      (part_read (12 + part_size t.rows) t.columns (header ++ first) [] (omega arith) front_long columns few_columns near_columns low)

  header_words : AreWords (trak_header t)
  header_words = (omega arith, (omega arith, (omega arith, (rows_low t.rows, (low, (omega arith, tt))))))

  at : (i place : ℕ) → i < 6 → 2 * i ≡ place → be16 bytes place ≡ get_or (trak_header t) i 0
  at i place below is = word_at (trak_header t) [] (first ++ second) place i below header_words (omega (arith, is))

  long : 12 ≤ length bytes
  long = omega (arith, length-append header (first ++ second), header_long)

  none : reader.trak_fault bytes ≡ None
  none =
      let one = header_is bytes long (at 0 0 (omega arith) refl) (at 2 4 (omega arith) refl) in
      let two = ap (reader.part_fault bytes) (at 3 6 (omega arith) refl) ∙ rows_read.0 in
      let three = ap (reader.part_fault bytes) (at 4 8 (omega arith) refl) ∙ columns_read.0 in
      ap (λ (o : Option Fault). option_or o (option_or (reader.part_fault bytes (be16 bytes 6)) (reader.part_fault bytes (be16 bytes 8)))) one
      ∙ ap (λ (o : Option Fault). option_or o (reader.part_fault bytes (be16 bytes 8))) two
      ∙ three

  pub table_read : reader.trak_of bytes ≡ Ok t
  table_read =
      let read : TrackingTable = record { rows = reader.part_at bytes (be16 bytes 6); columns = reader.part_at bytes (be16 bytes 8) } in
      let of_rows : Option TrackTable → Result TrackingTable Fault = λ r. Ok (record { rows = r; columns = reader.part_at bytes (be16 bytes 8) }) in
      let of_columns : Option TrackTable → Result TrackingTable Fault = λ c. Ok (record { rows = t.rows; columns = c }) in
      ap (table_or read) none
      ∙ ap of_rows (ap (reader.part_at bytes) (at 3 6 (omega arith) refl) ∙ rows_read.1)
      ∙ ap of_columns (ap (reader.part_at bytes) (at 4 8 (omega arith) refl) ∙ columns_read.1)

-- the law
pub written_tracks_are_read : WrittenTracksAreRead
written_tracks_are_read t bytes rows columns is =
    let made =
    written_is (part_too_many t.rows || part_too_many t.columns) (part_far (rows_offset t) t.rows)
    (part_far (columns_offset t) t.columns) (nat_lt 65535 (columns_offset t)) (trak_bytes t) bytes is in
    let few = neither (part_too_many t.rows) (part_too_many t.columns) made.0 in
    let offset : columns_offset t ≤ 65535 = ltb-false 65535 (columns_offset t) made.2 in
    let read = table_read t rows columns few.0 few.1 made.1 (omega (arith, offset)) made.3 in
    subst (λ (b : List ℕ). reader.trak_of b ≡ Ok t) made.4 read
