-- A machine that is written is read again.
use Rattle.std.proofs.Common.{◌≡◌, ℕ, zero, suc, ◌+◌, ◌*◌, ◌/◌, ◌%◌, ◌<◌, ◌≤◌, List, [], ◌∷◌, ◌++◌, length, get_or, false, Result, Ok, All, refl, sym, ap, ◌∙◌, subst, append_assoc, zero-add, arith}
use Rattle.std.specs.Prelude.{nat_lt}
use Rattle.std.specs.List.{flat_map, range_with_len}
use Rattle.std.proofs.lemmas.Bool.{le-ltb}
use Rattle.std.proofs.lemmas.List.{drop_at, length-append}
use Rattle.std.proofs.lemmas.List.FromFn.{fill_by_all, get_or-range_with_len, length-range_with_len}
use Rattle.aat_bytes.specs.Faults.{after}
use Rattle.aat_bytes.specs.Numbers.{be16, be32}
use Rattle.aat_bytes.specs.declared.error.Fault.{Fault}
use Rattle.aat_bytes.specs.declared.tag.Tag.{Tag}
use Rattle.aat_machine_tables.specs.Table.{Rule, TableValue, table_value}
use Rattle.aat_machine_tables.specs.declared.state_table.GenericStateEntry.{GenericStateEntry}
use Rattle.aat_read_lookup.specs.Lookups.{lookup_at}
use Rattle.aat_read_machine.specs.Entries.{entry_at}
use Rattle.aat_read_machine.specs.Machine.{machine_at, with_classes}
use Rattle.aat_read_machine.specs.StateArray.{StateArray, cells_of, class_place, entry_place, header_at, rule_of, rules_of, state_array_at}
use Rattle.aat_write_machine.specs.LookupLaws.{WrittenLookupsAreRead}
use Rattle.aat_write_machine.specs.Lookups.{lookup_written}
use Rattle.aat_write_machine.specs.Words.{long_bytes, word_bytes}
use Rattle.aat_write_machine.specs.EntryLaws.{HasSize, ReadsAgain}
use Rattle.aat_write_machine.specs.EntryWords.{rule_words}
use Rattle.aat_write_machine.specs.MachineLaws.{IsLong, IsMachine, IsWord, MachinesAreRead}
use Rattle.aat_write_machine.specs.Machines.{class_offset, entry_offset, header_longs, machine_bytes, state_offset}
use Rattle.aat_write_machine.proofs.ClassTables.{HasLength, is_made, lookup_has_length}
use Rattle.aat_write_machine.proofs.Counted.{HasCells, cells_are, place_is}
use Rattle.aat_write_machine.proofs.EntryPlaces.{entry_bytes, entry_stands, length_entries}
use Rattle.aat_write_machine.specs.facts.LongPlaces.{length_longs, long_at}
use Rattle.aat_write_machine.specs.facts.WordPlaces.{length_words}
use Rattle.aat_write_machine.proofs.Places.{word_at}
use Rattle.aat_write_machine.proofs.RowFacts.{AreRows, are_rows}

-- numbers below one of 16 bits
below_words : (a n : ℕ) → a + n ≤ 65536 → All IsWord (range_with_len a n)
below_words a zero few k d lt = absurd (omega arith)
below_words a (suc n) few zero d lt = omega arith
below_words a (suc n) few (suc k) d lt = below_words (a + 1) n (omega arith) k d (omega arith)

-- one more list in front of numbers of 32 bits
pub one_more_long : (n : ℕ) (longs : List ℕ) → IsLong n → All IsLong longs → All IsLong (n ∷ longs)
one_more_long n longs small each zero d lt = small
one_more_long n longs small each (suc k) d lt = each k d (omega arith)

-- the numbers of a header have 32 bits
pub header_are_longs :
    (further classes : List ℕ) (class_count cells : ℕ)
    → class_count < 65536 → All IsLong further → length further < 4 → length classes < 1048576 → cells ≤ 65536
    → All IsLong (header_longs further class_count classes cells)
header_are_longs further classes class_count cells narrow longs few short many =
    let count : IsLong class_count = omega arith in
    let table : IsLong (class_offset further) = omega arith in
    let array : IsLong (state_offset further classes) = omega arith in
    let entry : IsLong (entry_offset further classes cells) = omega arith in
    let with_entry : All IsLong (entry_offset further classes cells ∷ further) = one_more_long (entry_offset further classes cells) further entry longs in
    let with_array : All IsLong (state_offset further classes ∷ entry_offset further classes cells ∷ further) =
    one_more_long (state_offset further classes) (entry_offset further classes cells ∷ further) array with_entry in
    let with_table : All IsLong (class_offset further ∷ state_offset further classes ∷ entry_offset further classes cells ∷ further) =
    one_more_long (class_offset further) (state_offset further classes ∷ entry_offset further classes cells ∷ further) table with_array in
    one_more_long class_count (class_offset further ∷ state_offset further classes ∷ entry_offset further classes cells ∷ further) count with_table

-- parts of a key
key_parts :
    (w cell state class : ℕ) → 4 ≤ w → w < 65536 → class < 65536
    → state * 65536 + class ≡ cell / w * 65536 + cell % w → (state ≡ cell / w) × (class ≡ cell % w)
key_parts w cell state class wide narrow small same =
    let low : cell % w < w = omega arith in (omega arith, omega arith)

-- a rule is its three parts
triple : {E : Type 0} (r : Rule E) (a b : ℕ) (e : E) → r.0 ≡ a → r.1 ≡ b → r.2 ≡ e → r ≡ (a, b, e)
triple r a b e state class entry =
    let of_state : ℕ → Rule _ = λ i. (i, r.1, r.2) in
    let of_class : ℕ → Rule _ = λ i. (a, i, r.2) in
    let of_entry : _ → Rule _ = λ i. (a, b, i) in
    ap of_state state ∙ ap of_class class ∙ ap of_entry entry

-- a header whose numbers are known
header_by :
    (table : Tag) (place size : ℕ) (bytes : List ℕ) (count classes states entries : ℕ)
    → be32 bytes 0 ≡ count → be32 bytes 4 ≡ classes → be32 bytes 8 ≡ states → be32 bytes 12 ≡ entries
    → nat_lt count 4 ≡ false → nat_lt 65535 count ≡ false
    → header_at table place size bytes ≡ Ok (record {
      table = table;
      place = place;
      bytes = bytes;
      class_count = count;
      classes = classes;
      states = states;
      entries = entries;
      entry_size = 4 + size;
    })
unfolding header_at
header_by table place size bytes count classes states entries at_0 at_4 at_8 at_12 wide narrow =
    rw (at_0, wide, narrow, at_4, at_8, at_12) refl

module _ {T : Type 0} (size : ℕ) (extra_at : List ℕ → ℕ → T) (words_of : T → List ℕ)
    (has_size : HasSize size words_of) (reads_again : ReadsAgain extra_at words_of)
    (further classes rest : List ℕ) (t : TableValue (GenericStateEntry T)) (d : Rule (GenericStateEntry T))
    (small : IsMachine words_of t) (longs : All IsLong further) (few_longs : length further < 4)
    (lookup : HasLength t.classes classes)
    (rows : AreRows t.class_count t.rules) where
  abbrev cells : ℕ
  cells = length t.rules

  abbrev header : List ℕ
  header = long_bytes (header_longs further t.class_count classes cells)

  abbrev indexes : List ℕ
  indexes = word_bytes (range_with_len 0 cells)

  abbrev entries : List ℕ
  entries = entry_bytes size extra_at words_of has_size reads_again t.rules

  abbrev whole : List ℕ
  whole = header ++ (classes ++ (indexes ++ (entries ++ rest)))

  header_long : length header ≡ class_offset further
  header_long = length_longs (header_longs further t.class_count classes cells) ∙ omega arith

  front_long : length (header ++ classes) ≡ state_offset further classes
  front_long = length-append header classes ∙ ap (λ n. n + length classes) header_long

  indexes_long : length indexes ≡ 2 * cells
  indexes_long = length_words (range_with_len 0 cells) ∙ ap (λ n. 2 * n) (length-range_with_len 0 cells)

  before_entries_long : length ((header ++ classes) ++ indexes) ≡ entry_offset further classes cells
  before_entries_long = omega (arith, length-append (header ++ classes) indexes, front_long, indexes_long)

  entries_long : length entries ≡ (4 + size) * cells
  entries_long = length_entries size extra_at words_of has_size reads_again t.rules

  -- the bytes with the class table in front, and with the indexes in front
  at_indexes : whole ≡ (header ++ classes) ++ (indexes ++ (entries ++ rest))
  at_indexes = sym (append_assoc header classes (indexes ++ (entries ++ rest)))

  at_entries : whole ≡ ((header ++ classes) ++ indexes) ++ (entries ++ rest)
  at_entries = at_indexes ∙ sym (append_assoc (header ++ classes) indexes (entries ++ rest))

  whole_long : length whole ≡ entry_offset further classes cells + (4 + size) * cells + length rest
  whole_long =
      ap length at_entries
      ∙ omega (arith, length-append ((header ++ classes) ++ indexes) (entries ++ rest), length-append entries rest, before_entries_long, entries_long)

  all_longs : All IsLong (header_longs further t.class_count classes cells)
  all_longs = header_are_longs further classes t.class_count cells (omega (arith, small.0)) longs few_longs (omega (arith, lookup.few, lookup.long)) rows.few

  header_number : (i place : ℕ) → i < 4 + length further → 4 * i ≡ place → be32 whole place ≡ get_or (header_longs further t.class_count classes cells) i 0
  header_number i place below at =
      long_at (header_longs further t.class_count classes cells) [] (classes ++ (indexes ++ (entries ++ rest))) place i (omega arith) all_longs (omega arith)

  abbrev array_at : Tag → ℕ → StateArray
  array_at table place = record {
    table = table;
    place = place;
    bytes = whole;
    class_count = t.class_count;
    classes = class_offset further;
    states = state_offset further classes;
    entries = entry_offset further classes cells;
    entry_size = 4 + size;
  }

  has_cells : (table : Tag) (place : ℕ) → HasCells size extra_at t.rules (array_at table place)
  has_cells table place = record {
    entry_size = refl;
    indexed = omega (arith, whole_long);
    whole = omega (arith, whole_long);
    index = λ cell below.
        ap (λ xs. be16 xs (state_offset further classes + 2 * cell)) at_indexes
        ∙ word_at (range_with_len 0 cells) (header ++ classes) (entries ++ rest) (state_offset further classes + 2 * cell) cell
        (omega (arith, length-range_with_len 0 cells)) (below_words 0 cells (omega (arith, rows.few))) (ap (λ n. n + 2 * cell) front_long)
        ∙ get_or-range_with_len 0 cells cell 0 below ∙ zero-add cell;
    entry = λ cell e below.
        ap (λ xs. entry_at extra_at xs (entry_offset further classes cells + (4 + size) * cell)) at_entries
        ∙ entry_stands size extra_at words_of has_size reads_again t.rules ((header ++ classes) ++ indexes) rest
        (entry_offset further classes cells + (4 + size) * cell) cell e below small.2 (ap (λ n. n + (4 + size) * cell) before_entries_long);
  }

  header_read : (table : Tag) (place : ℕ) → header_at table place size whole ≡ Ok (array_at table place)
  header_read table place =
      header_by table place size whole t.class_count (class_offset further) (state_offset further classes) (entry_offset further classes cells)
      (header_number 0 0 (omega arith) refl) (header_number 1 4 (omega arith) refl)
      (header_number 2 8 (omega arith) refl) (header_number 3 12 (omega arith) refl)
      (le-ltb t.class_count 4 rows.wide) (le-ltb 65535 t.class_count (omega (arith, small.0)))

  array_read : (table : Tag) (before : List ℕ) → state_array_at table (before ++ whole) (length before) size ≡ Ok (array_at table (length before))
  unfolding state_array_at
  array_read table before =
      let inside : nat_lt (length (before ++ whole)) (length before + 16) ≡ false =
      le-ltb (length (before ++ whole)) (length before + 16) (omega (arith, length-append before whole, whole_long)) in
      rw inside (ap (header_at table (length before) size) (drop_at before whole (length before) refl) ∙ header_read table (length before))

  rule_is : (table : Tag) (place cell : ℕ) → cell < cells → get_or t.rules cell d ≡ rule_of extra_at (array_at table place) cell
  rule_is table place cell below =
      let m : StateArray = array_at table place in
      let r : Rule (GenericStateEntry T) = get_or t.rules cell d in
      let parts = key_parts t.class_count cell r.0 r.1 rows.wide (omega (arith, small.0)) (omega (arith, (small.2 cell d below).0)) (rows.keys cell d below) in
      let entry : entry_at extra_at whole (entry_place m cell) ≡ r.2 =
      ap (entry_at extra_at whole) (place_is size extra_at t.rules d m (has_cells table place) rows cell below) ∙ (has_cells table place).entry cell d below in
      triple r (cell / t.class_count) (cell % t.class_count) (entry_at extra_at whole (entry_place m cell)) parts.0 parts.1 (sym entry)

  rules_read : (table : Tag) (place : ℕ) → rules_of extra_at (array_at table place) cells ≡ t.rules
  rules_read table place =
      sym (fill_by_all (rule_of extra_at (array_at table place)) t.rules cells d refl (λ cell below. rule_is table place cell below))

  module _ (law : WrittenLookupsAreRead) (written : lookup_written t.classes ≡ Ok classes) where
    classes_read :
        (table : Tag) (before : List ℕ) (glyph_count : ℕ)
        → lookup_at table (before ++ whole) (length before + class_offset further) glyph_count ≡ Ok t.classes
    classes_read table before glyph_count =
        let behind : List ℕ = classes ++ (indexes ++ (entries ++ rest)) in
        let place : length (before ++ header) ≡ length before + class_offset further =
        length-append before header ∙ ap (λ n. length before + n) header_long in
        ap (λ xs. lookup_at table xs (length before + class_offset further) glyph_count) (sym (append_assoc before header behind))
        ∙ ap (λ n. lookup_at table ((before ++ header) ++ behind) n glyph_count) (sym place)
        ∙ law table t.classes classes (before ++ header) (indexes ++ (entries ++ rest)) glyph_count small.1 written

    joined : (table : Tag) (place : ℕ) → with_classes extra_at (array_at table place) cells (Ok t.classes) ≡ Ok t
    unfolding with_classes
    joined table place = ap (λ rules. Ok (table_value t.class_count t.classes rules)) (rules_read table place)

    pub machine_is_read :
        (table : Tag) (before : List ℕ) (glyph_count : ℕ)
        → machine_at size extra_at table (before ++ whole) (length before) glyph_count ≡ Ok t
    unfolding machine_at
    machine_is_read table before glyph_count =
        let bytes : List ℕ = before ++ whole in
        let m : StateArray = array_at table (length before) in
        ap (λ (r : Result StateArray Fault). after r (λ m. after (cells_of m) (λ cells. with_classes extra_at m cells (lookup_at table bytes (class_place m) glyph_count))))
        (array_read table before)
        ∙ ap (λ (r : Result ℕ Fault). after r (λ cells. with_classes extra_at m cells (lookup_at table bytes (class_place m) glyph_count)))
        (cells_are size extra_at t.rules d m (has_cells table (length before)) rows)
        ∙ ap (with_classes extra_at m cells) (classes_read table before glyph_count)
        ∙ joined table (length before)

pub shifted : (h c i e r : List ℕ) → (h ++ (c ++ (i ++ e))) ++ r ≡ h ++ (c ++ (i ++ (e ++ r)))
shifted h c i e r =
    append_assoc h (c ++ (i ++ e)) r
    ∙ ap (λ xs. h ++ xs) (append_assoc c (i ++ e) r)
    ∙ ap (λ xs. h ++ (c ++ xs)) (append_assoc i e r)

first_of : {X : Type 0} (xs : List X) → 1 ≤ length xs → X
first_of [] some = absurd (omega arith)
first_of (x ∷ xs) some = x

-- the law
pub machines_are_read :
    {T : Type 0} (size : ℕ) (extra_at : List ℕ → ℕ → T) (words_of : T → List ℕ)
    → HasSize size words_of → ReadsAgain extra_at words_of → WrittenLookupsAreRead → MachinesAreRead size extra_at words_of
machines_are_read size extra_at words_of has_size reads_again law table further t bytes before after glyph_count small longs few is =
    let made = is_made words_of further t bytes is in
    let rows = are_rows t.class_count t.rules made.refusal in
    let d = first_of t.rules rows.filled in
    let lookup = lookup_has_length t.classes made.classes made.lookup in
    let read = machine_is_read size extra_at words_of has_size reads_again further made.classes after t d small longs few lookup rows law made.lookup table before glyph_count in
    let header = long_bytes (header_longs further t.class_count made.classes (length t.rules)) in
    let indexes = word_bytes (range_with_len 0 (length t.rules)) in
    let entries = word_bytes (flat_map (rule_words words_of) t.rules) in
    let whole : machine_at size extra_at table (before ++ (machine_bytes words_of further t.class_count made.classes t.rules ++ after)) (length before) glyph_count ≡ Ok t =
    ap (λ xs. machine_at size extra_at table (before ++ xs) (length before) glyph_count) (shifted header made.classes indexes entries after) ∙ read in
    subst (λ (b : List ℕ). machine_at size extra_at table (before ++ (b ++ after)) (length before) glyph_count ≡ Ok t) made.made whole
