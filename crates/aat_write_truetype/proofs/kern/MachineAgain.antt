-- A machine that is written is read again.
use Rattle.std.proofs.Common.{◌≡◌, ℕ, ℤ, zero, suc, ◌+◌, ◌*◌, ◌-◌, ◌/◌, ◌%◌, ◌<◌, ◌≤◌, List, [], ◌∷◌, ◌++◌, length, get_or, map, min, false, Ok, refl, sym, ap, ◌∙◌, append_assoc, zero-add, arith}
use Rattle.std.specs.Prelude.{bit_and, nat_lt, pos, slice_index}
use Rattle.std.specs.List.{flat_map, range_with_len}
use Rattle.std.proofs.Math.ListN.{get_or-append}
use Rattle.std.proofs.Math.Nat.{div-add-mod, mul-div-le, mul-div_cancel, mul-le-mul_right}
use Rattle.std.proofs.lemmas.Bool.{le-ltb}
use Rattle.std.proofs.lemmas.Bool.Decides.{nat_tests}
use Rattle.std.proofs.lemmas.List.{get_or-append-add, get_or-map, length-append, length-map}
use Rattle.std.proofs.lemmas.List.FromFn.{fill_by_all, get_or-range_with_len, length-range_with_len}
use Rattle.aat_bytes.specs.Numbers.{be16, signed16}
use Rattle.aat_kerning_tables.specs.KerningTables.{KernMachineTables}
use Rattle.aat_machine_tables.specs.Table.{table_value}
use Rattle.aat_machine_tables.specs.declared.entries.KernEntryData.{KernEntryData}
use Rattle.aat_machine_tables.specs.declared.state_table.GenericStateEntry.{GenericStateEntry}
use Rattle.aat_read_kern.specs.ByteMachines.{byte_machine_at, cell_count, entry_place, state_named}
use Rattle.aat_read_kern.specs.ByteStates.{entry_of_cell, rows_of, rule_of, rules_of, value_named, whole_rows}
use Rattle.aat_read_kern.specs.KernMachines.{byte_classes_at, classes_of, kern_machine_at, tables_of, values_of}
use Rattle.aat_write_machine.specs.Words.{word_bytes}
use Rattle.aat_write_machine.specs.facts.WordPlaces.{AreWords, length_words, word_at, words_joined}
use Rattle.aat_write_truetype.specs.kern.DenseClasses.{first_glyph}
use Rattle.aat_write_truetype.specs.kern.KernLaws.{IsKernMachine}
use Rattle.aat_write_truetype.specs.kern.MachineBytes.{KernRule, entry_offset, entry_words, flags_word, header_words, machine_bytes, row_offset, value_offset}
use Rattle.aat_write_truetype.specs.kern.PairBytes.{value_word}
use Rattle.aat_write_truetype.proofs.kern.Chunks.{chunk, chunks_are_words, chunks_long}
use Rattle.aat_write_truetype.proofs.kern.DenseFacts.{glyph_is, glyphs_fit}
use Rattle.aat_write_truetype.proofs.kern.FlagsAgain.{IsFlags, flags_again}
use Rattle.aat_write_truetype.proofs.kern.Readers.{ByteClasses, ByteMachine}
use Rattle.aat_write_truetype.proofs.kern.RuleFacts.{AreWhole, each_rule, reached_below, row_is_near}
use Rattle.aat_write_truetype.proofs.kern.StatesAgain.{HasCells, entry_is, named_is, offset_is, rows_are_read, rows_from}
use Rattle.aat_write_truetype.proofs.kern.Values.{value_again, values_are_words}
use Rattle.aat_write_truetype.proofs.kern.Opened.{after_is}

-- a header whose numbers are known
header_by :
    (bytes : List ℕ) (place count classes states entries values : ℕ)
    → be16 bytes place ≡ count → be16 bytes (place + 2) ≡ classes → be16 bytes (place + 4) ≡ states
    → be16 bytes (place + 6) ≡ entries → be16 bytes (place + 8) ≡ values
    → nat_lt (length bytes) (place + 10) ≡ false → nat_lt count 4 ≡ false
    → byte_machine_at bytes place
    ≡ Ok (record { place = place; class_count = count; classes = classes; states = states; entries = entries; values = values })
unfolding byte_machine_at
header_by bytes place count classes states entries values at_0 at_2 at_4 at_6 at_8 inside wide =
    rw (inside, at_0, wide, at_2, at_4, at_6, at_8) refl

-- a class table whose numbers are known
table_by :
    (bytes : List ℕ) (place first count : ℕ)
    → be16 bytes place ≡ first → be16 bytes (place + 2) ≡ count
    → place + 4 + count ≤ length bytes → first + count ≤ 65536
    → byte_classes_at bytes place ≡ Ok (record { place = place + 4; first = first; count = count })
unfolding byte_classes_at
table_by bytes place first count is_first is_count inside fits =
    let header : place + 4 ≤ length bytes = omega (arith, inside) in
    let all : min count (65536 - first) ≡ count = grind (arith, nat_tests, fits) in
    let table : ℕ → ByteClasses = λ n. record { place = place + 4; first = first; count = n } in
    rw (le-ltb (length bytes) (place + 4) header)
    (rw is_count (rw (le-ltb (length bytes) (place + 4 + count) inside) (rw is_first (ap (λ n. Ok (table n)) all))))

-- parts of a key
key_parts :
    (w cell state class : ℕ) → 0 < w → w < 65536 → class < 65536
    → state * 65536 + class ≡ cell / w * 65536 + cell % w → (state ≡ cell / w) × (class ≡ cell % w)
key_parts w cell state class some narrow small same =
    let low : cell % w < w = omega arith in (omega arith, omega arith)

-- a rule is its parts
rule_is_parts : (r : KernRule) (a b : ℕ) (e : GenericStateEntry KernEntryData) → r.0 ≡ a → r.1 ≡ b → e ≡ r.2 → r ≡ (a, b, e)
rule_is_parts r a b e state class entry =
    let of_state : ℕ → KernRule = λ i. (i, r.1, r.2) in
    let of_class : ℕ → KernRule = λ i. (a, i, r.2) in
    let of_entry : GenericStateEntry KernEntryData → KernRule = λ i. (a, b, i) in
    ap of_state state ∙ ap of_class class ∙ ap of_entry (sym entry)

-- an entry is its parts
entry_is_parts :
    (e : GenericStateEntry KernEntryData) (state flags : ℕ) (extra : KernEntryData)
    → state ≡ e.new_state → flags ≡ e.flags → extra ≡ e.extra
    → ◌≡◌ {A = GenericStateEntry KernEntryData} (record { new_state = state; flags = flags; extra = extra }) e
entry_is_parts e state flags extra is_state is_flags is_extra =
    let of_state : ℕ → GenericStateEntry KernEntryData = λ n. record { new_state = n; flags = flags; extra = extra } in
    let of_flags : ℕ → GenericStateEntry KernEntryData = λ n. record { new_state = e.new_state; flags = n; extra = extra } in
    let of_extra : KernEntryData → GenericStateEntry KernEntryData = λ x. record { new_state = e.new_state; flags = e.flags; extra = x } in
    ap of_state is_state ∙ ap of_flags is_flags ∙ ap of_extra is_extra

whole_rows_of : (n w : ℕ) → 0 < w → 0 < n → n % w ≡ 0 → (n ≡ n / w * w) × (0 < n / w)
whole_rows_of n w wide some even =
    let all = div-add-mod n w in
    let turned : w * (n / w) ≡ n / w * w = omega arith in
    let whole : n ≡ n / w * w = omega (arith, all, turned, even) in
    (whole, some_row (n / w) n w whole some)
  where
    some_row : (q n w : ℕ) → n ≡ q * w → 0 < n → 0 < q
    some_row zero n w is some = absurd (omega arith)
    some_row (suc q) n w is some = omega arith

-- how many bytes there are
pub bytes_long :
    (t : KernMachineTables)
    → length (machine_bytes t)
    ≡ 14 + length t.state_table.classes + 5 * length t.state_table.rules + 2 * length t.values
bytes_long t =
    let w = t.state_table.class_count in
    let glyphs = length t.state_table.classes in
    let cells = length t.state_table.rules in
    let header : List ℕ = word_bytes (header_words t) in
    let classes : List ℕ = map (λ pair. pair.1) t.state_table.classes in
    let indexes : List ℕ = range_with_len 0 cells in
    let rules : List ℕ = flat_map (entry_words w (row_offset glyphs) (value_offset glyphs cells)) t.state_table.rules in
    let values : List ℕ = map value_word t.values in
    let last : List ℕ = word_bytes (rules ++ values) in
    omega (arith, length-append header (classes ++ (indexes ++ last)), length-append classes (indexes ++ last), length-append indexes last, length_words (header_words t), length-map t.state_table.classes (λ pair. pair.1), length-range_with_len 0 cells, length_words (rules ++ values), length-append rules values, chunks_long (entry_words w (row_offset glyphs) (value_offset glyphs cells)) 2 (λ r. refl) t.state_table.rules, length-map t.values value_word)

module _ (t : KernMachineTables) (front : List ℕ) (small : IsKernMachine t)
    (fit : AreWhole t.state_table.class_count t.state_table.classes t.state_table.rules (length t.values)) where
  abbrev w : ℕ
  w = t.state_table.class_count

  abbrev glyphs : ℕ
  glyphs = length t.state_table.classes

  abbrev cells : ℕ
  cells = length t.state_table.rules

  abbrev states : ℕ
  states = cells / w

  abbrev rows : ℕ
  rows = row_offset glyphs

  abbrev values : ℕ
  values = value_offset glyphs cells

  abbrev place : ℕ
  place = length front

  abbrev header : List ℕ
  header = word_bytes (header_words t)

  abbrev classes : List ℕ
  classes = map (λ pair. pair.1) t.state_table.classes

  abbrev indexes : List ℕ
  indexes = range_with_len 0 cells

  abbrev rule_words : List ℕ
  rule_words = flat_map (entry_words w rows values) t.state_table.rules

  abbrev value_words : List ℕ
  value_words = map value_word t.values

  abbrev last : List ℕ
  last = word_bytes (rule_words ++ value_words) ++ []

  abbrev whole : List ℕ
  whole = front ++ (header ++ (classes ++ (indexes ++ last)))

  wide : 0 < w
  wide = let four = fit.wide in omega (arith, four)

  fill : (cells ≡ states * w) × (0 < states)
  fill = whole_rows_of cells w wide fit.some fit.even

  classes_fit : (first_glyph t.state_table.classes < 65536) × (first_glyph t.state_table.classes + glyphs ≤ 65536)
  classes_fit = glyphs_fit 256 t.state_table.classes fit.classes (λ k d lt. (small.1 k d lt).0)

  abbrev m : ByteMachine
  m = record { place = place; class_count = w; classes = 10; states = rows; entries = entry_offset glyphs cells; values = values }

  rule_flags : (k : ℕ) (d : KernRule) → k < cells → IsFlags m (flags_word values (get_or t.state_table.rules k d).2) (get_or t.state_table.rules k d).2
  rule_flags k d below =
      flags_again m (get_or t.state_table.rules k d).2 (omega arith)
      (each_rule w states values 0 0 t.state_table.rules fit.rules k d below).2

  header_small : AreWords (header_words t)
  header_small =
      let near = fit.near in
      (small.0, (omega arith, (omega (arith, near), (omega (arith, near), (omega (arith, near), (classes_fit.0, (omega (arith, near), tt)))))))

  rules_small : AreWords rule_words
  rules_small =
      chunks_are_words (entry_words w rows values) 2 (λ r. refl) t.state_table.rules
      (λ k d lt. (row_is_near w t.state_table.classes t.state_table.rules (length t.values) fit k d lt, ((rule_flags k d lt).small, tt)))

  last_small : AreWords (rule_words ++ value_words)
  last_small = words_joined rule_words value_words rules_small (values_are_words t.values small.3)

  header_long : length header ≡ 14
  header_long = length_words (header_words t)

  classes_long : length classes ≡ glyphs
  classes_long = length-map t.state_table.classes (λ pair. pair.1)

  indexes_long : length indexes ≡ cells
  indexes_long = length-range_with_len 0 cells

  rules_long : length rule_words ≡ 2 * cells
  rules_long = chunks_long (entry_words w rows values) 2 (λ r. refl) t.state_table.rules

  words_long : length (rule_words ++ value_words) ≡ 2 * cells + length t.values
  words_long = omega (arith, length-append rule_words value_words, rules_long, length-map t.values value_word)

  at_classes : whole ≡ (front ++ header) ++ (classes ++ (indexes ++ last))
  at_classes = sym (append_assoc front header (classes ++ (indexes ++ last)))

  at_indexes : whole ≡ ((front ++ header) ++ classes) ++ (indexes ++ last)
  at_indexes = at_classes ∙ sym (append_assoc (front ++ header) classes (indexes ++ last))

  at_last : whole ≡ (((front ++ header) ++ classes) ++ indexes) ++ last
  at_last = at_indexes ∙ sym (append_assoc ((front ++ header) ++ classes) indexes last)

  long_classes : length (front ++ header) ≡ place + 14
  long_classes = omega (arith, length-append front header, header_long)

  long_indexes : length ((front ++ header) ++ classes) ≡ place + rows
  long_indexes = omega (arith, length-append (front ++ header) classes, long_classes, classes_long)

  long_last : length (((front ++ header) ++ classes) ++ indexes) ≡ place + entry_offset glyphs cells
  long_last = omega (arith, length-append ((front ++ header) ++ classes) indexes, long_indexes, indexes_long)

  whole_long : length whole ≡ place + values + 2 * length t.values
  whole_long =
      ap length at_last
      ∙ omega (arith, length-append (((front ++ header) ++ classes) ++ indexes) last, length-append (word_bytes (rule_words ++ value_words)) [], length_words (rule_words ++ value_words), words_long, long_last)

  number : (i p : ℕ) → i < 7 → place + 2 * i ≡ p → be16 whole p ≡ get_or (header_words t) i 0
  number i p below at = word_at (header_words t) front (classes ++ (indexes ++ last)) p i below header_small at

  class_at : (k p : ℕ) → k < glyphs → place + 14 + k ≡ p → slice_index whole p ≡ (get_or t.state_table.classes k (0, 0)).1
  class_at k p below at =
      let there : length (front ++ header) + k ≡ p = omega (arith, long_classes, at) in
      ap (λ (b : List ℕ). slice_index b p) at_classes
      ∙ ap (λ n. slice_index ((front ++ header) ++ (classes ++ (indexes ++ last))) n) (sym there)
      ∙ get_or-append-add (front ++ header) (classes ++ (indexes ++ last)) k 0
      ∙ get_or-append classes (indexes ++ last) 0 k (omega (arith, classes_long))
      ∙ get_or-map (λ pair. pair.1) t.state_table.classes k (0, 0) 0 below

  index_at : (cell p : ℕ) → cell < cells → place + rows + cell ≡ p → slice_index whole p ≡ cell
  index_at cell p below at =
      let there : length ((front ++ header) ++ classes) + cell ≡ p = omega (arith, long_indexes, at) in
      ap (λ (b : List ℕ). slice_index b p) at_indexes
      ∙ ap (λ n. slice_index (((front ++ header) ++ classes) ++ (indexes ++ last)) n) (sym there)
      ∙ get_or-append-add ((front ++ header) ++ classes) (indexes ++ last) cell 0
      ∙ get_or-append indexes last 0 cell (omega (arith, indexes_long))
      ∙ get_or-range_with_len 0 cells cell 0 below ∙ zero-add cell

  word_of : (i p : ℕ) → i < 2 * cells + length t.values → place + entry_offset glyphs cells + 2 * i ≡ p → be16 whole p ≡ get_or (rule_words ++ value_words) i 0
  word_of i p below at =
      ap (λ (b : List ℕ). be16 b p) at_last
      ∙ word_at (rule_words ++ value_words) (((front ++ header) ++ classes) ++ indexes) [] p i (omega (arith, words_long)) last_small (omega (arith, long_last, at))

  entry_word :
      (cell j p : ℕ) (d : KernRule) → cell < cells → j < 2 → place + entry_offset glyphs cells + 4 * cell + 2 * j ≡ p
      → be16 whole p ≡ get_or (entry_words w rows values (get_or t.state_table.rules cell d)) j 0
  entry_word cell j p d below within at =
      word_of (2 * cell + j) p (omega arith) (omega (arith, at))
      ∙ get_or-append rule_words value_words 0 (2 * cell + j) (omega (arith, rules_long))
      ∙ chunk (entry_words w rows values) 2 (λ r. refl) t.state_table.rules cell j d below within

  value_word_at : (i p : ℕ) → i < length t.values → place + values + 2 * i ≡ p → be16 whole p ≡ value_word (get_or t.values i (pos 0))
  value_word_at i p below at =
      let there : length rule_words + i ≡ 2 * cells + i = omega (arith, rules_long) in
      word_of (2 * cells + i) p (omega arith) (omega (arith, at))
      ∙ ap (λ n. get_or (rule_words ++ value_words) n 0) (sym there)
      ∙ get_or-append-add rule_words value_words i 0
      ∙ get_or-map value_word t.values i (pos 0) 0 below

  module _ (d : KernRule) where
    abbrev named : ℕ → ℕ
    named cell = (get_or t.state_table.rules cell d).2.new_state

    has_cells : HasCells whole m states named
    has_cells =
        let count = fill.0 in
        let few = fit.few in
        let fewer = mul-div-le cells w in
        record {
          wide = wide;
          some = fill.1;
          few = few_states states w cells wide (omega (arith, count)) few;
          indexed = omega (arith, whole_long, count);
          whole = omega (arith, whole_long, count);
          index = λ cell below. index_at cell (place + rows + cell) (omega (arith, below, count)) refl;
          state = λ cell below.
              entry_word cell 0 (place + entry_offset glyphs cells + 4 * cell) d (omega (arith, below, count)) (omega arith) (omega arith);
          below = λ cell below. (each_rule w states values 0 0 t.state_table.rules fit.rules cell d (omega (arith, below, count))).1;
          reached = λ state some more each.
              let le : state + 1 ≤ states = omega (arith, more) in
              let lower : (state + 1) * w ≤ states * w = mul-le-mul_right w le in
              let inside : state * w < cells = omega (arith, lower, count, wide) in
              let under = reached_below w states values 0 0 t.state_table.rules fit.rules (state * w) state inside some
              (λ j e lt. let same = each j lt in omega (arith, same, other_default j e (omega (arith, lt, inside)))) in
              let plain : 0 + state * w ≡ state * w = omega arith in
              let is : (0 + state * w) / w ≡ state = ap (λ n. n / w) plain ∙ mul-div_cancel state wide in
              omega (arith, under, is);
        }
      where
        few_states : (s w n : ℕ) → 0 < w → s * w ≡ n → n ≤ 256 → s ≤ 256
        few_states s zero n wide is few = absurd (omega arith)
        few_states s (suc v) n wide is few = omega (arith, is, few)

        other_default : (j : ℕ) (e : KernRule) → j < cells → (get_or t.state_table.rules j e).2.new_state ≡ named j
        other_default j e lt = ap (λ (r : KernRule). r.2.new_state) (same_default t.state_table.rules j lt e d)
          where
            same_default : (xs : List KernRule) (j : ℕ) → j < length xs → (e d : KernRule) → get_or xs j e ≡ get_or xs j d
            same_default [] j lt e d = absurd (omega arith)
            same_default (x ∷ xs) zero lt e d = refl
            same_default (x ∷ xs) (suc j) lt e d = same_default xs j (omega arith) e d

    entry_read : (cell : ℕ) → cell < cells → entry_of_cell whole m (rows_from states) cell ≡ (get_or t.state_table.rules cell d).2
    entry_read cell below =
        let count = fill.0 in
        let inside : cell < states * w = omega (arith, below, count) in
        let le : states ≤ states = omega arith in
        let is = rule_flags cell d below in
        let at : entry_place whole m (rows_from states) cell ≡ place + entry_offset glyphs cells + 4 * cell = entry_is whole m states named has_cells states cell le inside in
        let flags : be16 whole (entry_place whole m (rows_from states) cell + 2) ≡ flags_word values (get_or t.state_table.rules cell d).2 =
        entry_word cell 1 (entry_place whole m (rows_from states) cell + 2) d below (omega arith) (omega (arith, at)) in
        entry_is_parts (get_or t.state_table.rules cell d).2 _ _ _
        (ap (state_named m (rows_from states)) (offset_is whole m states named has_cells states cell le inside) ∙ named_is whole m states named has_cells states (named cell))
        (ap (λ n. bit_and n 49152) flags ∙ is.acts)
        (ap (value_named m) flags ∙ is.value)

    rule_read : (cell : ℕ) → cell < cells → get_or t.state_table.rules cell d ≡ rule_of whole m (rows_from states) cell
    rule_read cell below =
        let r : KernRule = get_or t.state_table.rules cell d in
        let key = (each_rule w states values 0 0 t.state_table.rules fit.rules cell d below).0 in
        let plain : 0 + cell ≡ cell = omega arith in
        let parts = key_parts w cell r.0 r.1 wide small.0 (small.2 cell d below) (key ∙ ap (λ n. n / w * 65536 + n % w) plain) in
        rule_is_parts r (cell / w) (cell % w) (entry_of_cell whole m (rows_from states) cell) parts.0 parts.1 (entry_read cell below)

    rules_read : rules_of whole m (rows_from states) ≡ t.state_table.rules
    rules_read =
        let count : cell_count m (rows_from states) ≡ cells =
        let plain : states + 0 ≡ states = omega arith in ap (λ n. n * w) plain ∙ sym fill.0 in
        sym (fill_by_all (rule_of whole m (rows_from states)) t.state_table.rules (cell_count m (rows_from states)) d (sym count)
        (λ cell below. rule_read cell (omega (arith, below, count))))

  abbrev class_table : ByteClasses
  class_table = record { place = place + 10 + 4; first = first_glyph t.state_table.classes; count = glyphs }

  both_parts : (p : ℕ × ℕ) (a b : ℕ) → p.0 ≡ a → b ≡ p.1 → p ≡ (a, b)
  both_parts p a b left right =
      let of_left : ℕ → ℕ × ℕ = λ i. (i, p.1) in
      let of_right : ℕ → ℕ × ℕ = λ i. (a, i) in
      ap of_left left ∙ ap of_right (sym right)

  classes_read : classes_of whole class_table ≡ t.state_table.classes
  classes_read =
      sym (fill_by_all (λ k. (first_glyph t.state_table.classes + k, slice_index whole (place + 10 + 4 + k))) t.state_table.classes glyphs (0, 0) refl
      (λ k below. both_parts (get_or t.state_table.classes k (0, 0)) (first_glyph t.state_table.classes + k) (slice_index whole (place + 10 + 4 + k))
      (glyph_is 256 t.state_table.classes fit.classes k (0, 0) below) (class_at k (place + 10 + 4 + k) below (omega arith))))

  values_read : values_of whole m ≡ t.values
  values_read =
      let most = fit.count in
      let all : (length whole - (place + values)) / 2 ≡ length t.values = omega (arith, whole_long) in
      let count : min 16384 ((length whole - (place + values)) / 2) ≡ length t.values = grind (arith, nat_tests, most, all) in
      sym (fill_by_all (λ i. signed16 (be16 whole (place + values + 2 * i))) t.values (min 16384 ((length whole - (place + values)) / 2)) (pos 0) (sym count)
      (λ i below. let inside : i < length t.values = omega (arith, below, count) in
      sym (value_again (get_or t.values i (pos 0)) (small.3 i (pos 0) inside))
      ∙ ap signed16 (sym (value_word_at i (place + values + 2 * i) inside refl))))

  header_read : byte_machine_at whole place ≡ Ok m
  header_read =
      header_by whole place w 10 rows (entry_offset glyphs cells) values
      (number 0 place (omega arith) (omega arith)) (number 1 (place + 2) (omega arith) (omega arith))
      (number 2 (place + 4) (omega arith) (omega arith)) (number 3 (place + 6) (omega arith) (omega arith))
      (number 4 (place + 8) (omega arith) (omega arith))
      (le-ltb (length whole) (place + 10) (omega (arith, whole_long))) (le-ltb w 4 fit.wide)

  table_read : byte_classes_at whole (place + 10) ≡ Ok class_table
  table_read =
      table_by whole (place + 10) (first_glyph t.state_table.classes) glyphs
      (number 5 (place + 10) (omega arith) (omega arith)) (number 6 (place + 10 + 2) (omega arith) (omega arith))
      (omega (arith, whole_long)) classes_fit.1

  tables_read : (d : KernRule) → tables_of whole m (rows_from states) (classes_of whole class_table) ≡ t
  tables_read d =
      let of_classes : List (ℕ × ℕ) → KernMachineTables = λ cs. record { state_table = table_value w cs (rules_of whole m (rows_from states)); values = values_of whole m } in
      let of_rules : List KernRule → KernMachineTables = λ rs. record { state_table = table_value w t.state_table.classes rs; values = values_of whole m } in
      let of_values : List ℤ → KernMachineTables = λ vs. record { state_table = table_value w t.state_table.classes t.state_table.rules; values = vs } in
      ap of_classes classes_read ∙ ap of_rules (rules_read d) ∙ ap of_values values_read

  first_of : (rules : List KernRule) → 0 < length rules → KernRule
  first_of [] some = absurd (omega arith)
  first_of (r ∷ rules) some = r

  pub machine_is_read : kern_machine_at whole place ≡ Ok t
  unfolding kern_machine_at
  machine_is_read =
      let d = first_of t.state_table.rules fit.some in
      after_is (byte_machine_at whole place) m _ (Ok t) header_read
      (after_is (whole_rows whole m (rows_of whole m)) (rows_from states) _ (Ok t) (rows_are_read whole m states (named d) (has_cells d))
      (after_is (byte_classes_at whole (place + 10)) class_table _ (Ok t) table_read (ap Ok (tables_read d))))
