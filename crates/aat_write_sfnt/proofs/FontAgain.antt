-- Tables that are written are found.
use Rattle.std.proofs.Common.{◌≡◌, ◌∙◌, sym, ap, refl, subst, cond, ℕ, zero, suc, ◌+◌, ◌*◌, ◌<◌, ◌≤◌, Bool, true, false, List, [], ◌∷◌, ◌++◌, length, get_or, drop, replicate, All, Option, None, Some, Result, Ok, Err, append_assoc, arith}
use Rattle.std.specs.List.{find, flat_map, range_with_len}
use Rattle.std.specs.Prelude.{nat_lt, ◌||◌, ◌==◌}
use Rattle.std.proofs.lemmas.Bool.{le-ltb, ltb-false}
use Rattle.std.proofs.lemmas.Bool.Decides.{nat_tests}
use Rattle.std.proofs.lemmas.List.{get_or-append-add, length-append}
use Rattle.aat_bytes.specs.Numbers.{be16, be32}
use Rattle.aat_bytes.specs.Faults.{fault_at}
use Rattle.aat_bytes.specs.declared.error.Fault.{Fault}
use Rattle.aat_bytes.specs.declared.error.FaultKind.TheVariants.{Missing, PastEnd}
use Rattle.aat_bytes.specs.declared.tag.Tag.{Tag}
use Rattle.aat_lookup.specs.Keys.{at_key, first_fall}
use Rattle.aat_lookup.specs.facts.Falls.{rising}
use Rattle.aat_read_sfnt.specs.Directory.{Directory, bytes_of_record, directory_at, directory_of, directory_place, is_font_version, record_of, table_of}
use Rattle.aat_bytes.specs.facts.Ranges.{found_first, none_found}
use Rattle.aat_write_sfnt.specs.FontLaws.{HasTag, WrittenTablesAreFound, whole_file}
use Rattle.aat_write_sfnt.specs.Fonts.{SfntTable, directory_words, file_end, padded, padding, record_words, table_bytes, tag_number}
use Rattle.aat_write_sfnt.specs.Records.{records}
use Rattle.aat_write_sfnt.proofs.RecordPlaces.{index_8, part_at, part_within, place_of, record_word, records_long, slice_is}
use Rattle.aat_write_machine.specs.Words.{word_bytes}
use Rattle.aat_bytes.specs.facts.Longs.{long_is}
use Rattle.aat_write_machine.specs.facts.WordPlaces.{AreWords, length_words, long_again, word_at, words_joined}
use Rattle.aat_write_machine.specs.facts.Written.{written_is}

-- the directory of a file that has its records
directory_is :
    (file : List ℕ) (n : ℕ)
    → 12 + 16 * n ≤ length file
    → be32 file 0 ≡ 65536
    → be16 file 4 ≡ n
    → directory_of file 0 ≡ Ok (whole_file file)
unfolding directory_place directory_at
directory_is file n long version count =
    let four : nat_lt (length file) 4 ≡ false = le-ltb (length file) 4 (omega arith) in
    let twelve : nat_lt (length file) 12 ≡ false = le-ltb (length file) 12 (omega arith) in
    let whole : nat_lt (length file) (12 + 16 * n) ≡ false = le-ltb (length file) (12 + 16 * n) (omega arith) in
    let known : is_font_version (be32 file 0) ≡ true = ap is_font_version version in
    rw (four, version, twelve, known, count, whole) refl

module _ (directory : Directory) (tag : Tag) where
  -- what comes of the bytes of a record, and of a record
  abbrev of_bytes : Option (List ℕ) → Result (List ℕ) Fault
  of_bytes bytes = elim bytes [ None ↦ Err (fault_at tag PastEnd 0) | Some content ↦ Ok content ]

  abbrev of_record : Option ℕ → Result (List ℕ) Fault
  of_record at = elim at [
    | None ↦ Err (fault_at tag Missing 0)
    | Some i ↦ of_bytes (bytes_of_record directory i)
  ]

  -- a table that is found
  table_is :
      (k : ℕ) (content : List ℕ)
      → record_of directory tag.0 ≡ Some k
      → bytes_of_record directory k ≡ Some content
      → table_of directory tag ≡ Ok content
  table_is k content found here = ap of_record found ∙ ap of_bytes here

-- a choice that is none was not the first
opened :
    (b : Bool) (table : SfntTable) (other : Option SfntTable)
    → cond b (Some table) other ≡ None → (b ≡ false) × (other ≡ None)
opened true table other none = absurd (let wrong : ⊥ = cc in wrong)
opened false table other none = (refl, none)

-- where no table has a number, each has another
each_other :
    (tables : List SfntTable) (number i : ℕ) (d : SfntTable)
    → at_key tag_number tables number ≡ None
    → i < length tables
    → (tag_number (get_or tables i d) == number) ≡ false
each_other [] number i d none below = absurd (omega arith)
each_other (table ∷ tables) number zero d none below =
    (opened (tag_number table == number) table (at_key tag_number tables number) none).0
each_other (table ∷ tables) number (suc i) d none below =
    each_other tables number i d
    (opened (tag_number table == number) table (at_key tag_number tables number) none).1 (omega arith)

some_table : SfntTable
some_table = record { tag = record { 0 = 0 }; content = [] }

-- neither holds
pub neither : (a b : Bool) → (a || b) ≡ false → (a ≡ false) × (b ≡ false)
neither true b h = absurd (let wrong : ⊥ = cc in wrong)
neither false b h = (refl, h)

-- the words of a directory
records_small :
    (place : ℕ) (tables : List SfntTable)
    → All HasTag tables
    → place + length (table_bytes tables) < 4294967296
    → AreWords (records padded record_words place tables)
records_small place [] small below = tt
records_small place (table ∷ tables) small below =
    let tag : table.tag.0 < 4294967296 = small 0 table (omega arith) in
    let next = place + length (padded table) in
    let long = length-append (padded table) (table_bytes tables) in
    let zeros : List ℕ = replicate (padding (length table.content)) 0 in
    let size : length table.content < 4294967296 = omega (arith, below, long, length-append table.content zeros) in
    let here : AreWords (record_words place table) =
    (omega (arith, tag), (omega arith, (omega arith, (omega arith, (omega (arith, below), (omega arith, (omega (arith, size), (omega arith, tt)))))))) in
    words_joined (record_words place table) (records padded record_words next tables) here
    (records_small next tables (λ k d lt. small (suc k) d (omega arith)) (omega (arith, below, long)))

module _ (tables : List SfntTable) (small : All HasTag tables) (few : length tables ≤ 65535) (within : file_end tables < 4294967296) (rises : first_fall tag_number tables ≡ None) where
  abbrev n : ℕ
  n = length tables

  abbrev start : ℕ
  start = 12 + 16 * n

  abbrev words : List ℕ
  words = directory_words tables

  abbrev file : List ℕ
  file = word_bytes words ++ table_bytes tables

  words_long : length words ≡ 6 + 8 * n
  words_long = omega (arith, records_long padded record_words 8 (λ place table. refl) start tables, index_8 n)

  words_small : AreWords words
  words_small =
      let all : AreWords (records padded record_words start tables) = records_small start tables small (omega (arith, within)) in
      (omega arith, (omega arith, (omega (arith, few), (omega arith, (omega arith, (omega arith, all))))))

  front_long : length (word_bytes words) ≡ start
  front_long = omega (arith, length_words words, words_long)

  file_long : length file ≡ file_end tables
  file_long = omega (arith, length-append (word_bytes words) (table_bytes tables), front_long)

  at : (i place : ℕ) → i < 6 + 8 * n → 2 * i ≡ place → be16 file place ≡ get_or words i 0
  at i place below is = word_at words [] (table_bytes tables) place i (omega (arith, below, words_long)) words_small (omega (arith, is))

  -- a word of the record of table i
  word : (i k : ℕ) (d : SfntTable) → i < n → k < 8
      → get_or words (6 + (8 * i + k)) 0 ≡ get_or (record_words (place_of padded record_words start tables i) (get_or tables i d)) k 0
  word i k d below inside =
      get_or-append-add (1 ∷ 0 ∷ n ∷ 0 ∷ 0 ∷ 0 ∷ []) (records padded record_words start tables) (8 * i + k) 0
      ∙ ap (λ (j : ℕ). get_or (records padded record_words start tables) (j + k) 0) (sym (index_8 i))
      ∙ record_word padded record_words 8 (λ place table. refl) start tables i k d below inside

  -- a number of 32 bits of it, of two words
  long_at :
      (i k place : ℕ) (d : SfntTable)
      → i < n
      → k < 7
      → 12 + 16 * i + 2 * k ≡ place
      → let record_i = record_words (place_of padded record_words start tables i) (get_or tables i d) in
      be32 file place ≡ 65536 * get_or record_i k 0 + get_or record_i (k + 1) 0
  long_at i k place d below inside is =
      let high = at (6 + (8 * i + k)) place (omega arith) (omega (arith, is)) ∙ word i k d below (omega arith) in
      let low = at (6 + (8 * i + (k + 1))) (place + 2) (omega arith) (omega (arith, is)) ∙ word i (k + 1) d below (omega arith) in
      long_is file place ∙ omega (arith, high, low)

  tag_at : (i : ℕ) (d : SfntTable) → i < n → be32 file (12 + 16 * i) ≡ (get_or tables i d).tag.0
  tag_at i d below = long_at i 0 (12 + 16 * i) d below (omega arith) (omega arith) ∙ long_again (get_or tables i d).tag.0

  place_at : (i : ℕ) (d : SfntTable) → i < n → be32 file (12 + 16 * i + 8) ≡ place_of padded record_words start tables i
  place_at i d below = long_at i 4 (12 + 16 * i + 8) d below (omega arith) (omega arith) ∙ long_again (place_of padded record_words start tables i)

  size_at : (i : ℕ) (d : SfntTable) → i < n → be32 file (12 + 16 * i + 12) ≡ length (get_or tables i d).content
  size_at i d below = long_at i 6 (12 + 16 * i + 12) d below (omega arith) (omega arith) ∙ long_again (length (get_or tables i d).content)

  count_read : be16 file 4 ≡ n
  count_read = at 2 4 (omega arith) refl

  read : directory_of file 0 ≡ Ok (whole_file file)
  read =
      let version : be32 file 0 ≡ 65536 = long_is file 0 ∙ omega (arith, at 0 0 (omega arith) refl, at 1 2 (omega arith) refl) in
      directory_is file n (omega (arith, file_long)) version count_read

  other_tag :
      (i k : ℕ) (d : SfntTable)
      → i < k → k < n → (be32 file (12 + 16 * i) == (get_or tables k d).tag.0) ≡ false
  other_tag i k d lt below =
      let is = tag_at i d (omega arith) in
      let above = rising tag_number tables rises i k d lt below in
      grind (arith, nat_tests)

  found : (k : ℕ) (d : SfntTable) → k < n → record_of (whole_file file) (get_or tables k d).tag.0 ≡ Some k
  found k d below =
      let tag : ℕ = (get_or tables k d).tag.0 in
      let same : (be32 file (12 + 16 * k) == tag) ≡ true = let is = tag_at k d below in grind (arith, nat_tests) in
      let other : (i : ℕ) → 0 ≤ i → i < k → (be32 file (12 + 16 * i) == tag) ≡ false =
      λ i from lt. other_tag i k d lt below in
      ap (λ (m : ℕ). find (λ i. be32 file (12 + 16 * i) == tag) (range_with_len 0 m)) count_read
      ∙ found_first (λ i. be32 file (12 + 16 * i) == tag) 0 n k (omega arith) (omega arith) other same

  bytes_read : (k : ℕ) (d : SfntTable) → k < n → bytes_of_record (whole_file file) k ≡ Some (get_or tables k d).content
  bytes_read k d below =
      let table = get_or tables k d in
      let zeros : List ℕ = replicate (padding (length table.content)) 0 in
      let rest : List ℕ = flat_map padded (drop (suc k) tables) in
      let place : ℕ = place_of padded record_words start tables k in
      let offset : be32 file (12 + 16 * k + 8) ≡ place = place_at k d below in
      let size : be32 file (12 + 16 * k + 12) ≡ length table.content = size_at k d below in
      let here : drop place file ≡ table.content ++ (zeros ++ rest) =
      ap (λ (m : ℕ). drop (place_of padded record_words m tables k) file) (sym front_long)
      ∙ part_at padded record_words (word_bytes words) tables k d below
      ∙ append_assoc table.content zeros rest in
      let ends = part_within padded record_words start tables k d below in
      let inside : place + length table.content ≤ length file =
      omega (arith, ends, file_long, length-append table.content zeros) in
      rw (offset, size) (slice_is file table.content (zeros ++ rest) place (length table.content) here refl inside)

  not_found : (number : ℕ) → at_key tag_number tables number ≡ None → record_of (whole_file file) number ≡ None
  not_found number none =
      let other : (i : ℕ) → 0 ≤ i → i < 0 + n → (be32 file (12 + 16 * i) == number) ≡ false =
      λ i from below. ap (λ (m : ℕ). m == number) (tag_at i some_table (omega arith)) ∙ each_other tables number i some_table none (omega arith) in
      ap (λ (m : ℕ). find (λ i. be32 file (12 + 16 * i) == number) (range_with_len 0 m)) count_read
      ∙ none_found (λ i. be32 file (12 + 16 * i) == number) 0 n other

  pub tables_are_found :
      (directory_of file 0 ≡ Ok (whole_file file))
      × All (λ table. table_of (whole_file file) table.tag ≡ Ok table.content) tables
      × ((tag : Tag)
      → at_key tag_number tables tag.0 ≡ None
      → table_of (whole_file file) tag ≡ Err (fault_at tag Missing 0))
  tables_are_found =
      let there = λ (k : ℕ) (d : SfntTable) (below : k < n).
      table_is (whole_file file) (get_or tables k d).tag k (get_or tables k d).content (found k d below) (bytes_read k d below) in
      let missing = λ (tag : Tag) (none : at_key tag_number tables tag.0 ≡ None).
      ap (of_record (whole_file file) tag) (not_found tag.0 none) in
      (read, there, missing)

pub written_tables_are_found : WrittenTablesAreFound
written_tables_are_found tables file small is =
    let many : Bool = nat_lt 65535 (length tables) || nat_lt 4294967295 (file_end tables) in
    let made = written_is (first_fall tag_number tables) many (word_bytes (directory_words tables) ++ table_bytes tables) file is in
    let both = neither (nat_lt 65535 (length tables)) (nat_lt 4294967295 (file_end tables)) made.1 in
    let few : length tables ≤ 65535 = ltb-false 65535 (length tables) both.0 in
    let within : file_end tables ≤ 4294967295 = ltb-false 4294967295 (file_end tables) both.1 in
    subst (λ (b : List ℕ). (directory_of b 0 ≡ Ok (whole_file b)) × All (λ table. table_of (whole_file b) table.tag ≡ Ok table.content) tables × ((tag : Tag) → at_key tag_number tables tag.0 ≡ None → table_of (whole_file b) tag ≡ Err (fault_at tag Missing 0))) made.2
    (tables_are_found tables small few (omega (arith, within)) made.0)
