-- English names that are written are found.
use Rattle.std.proofs.Common.{◌≡◌, ◌∙◌, sym, ap, refl, subst, ℕ, suc, ◌+◌, ◌*◌, ◌<◌, ◌≤◌, Bool, true, false, List, [], ◌∷◌, ◌++◌, length, get_or, drop, All, None, Some, Ok, arith}
use Rattle.std.specs.List.{find, flat_map, range_with_len}
use Rattle.std.specs.Prelude.{nat_lt, ◌||◌, ◌==◌, option_and_then}
use Rattle.std.proofs.lemmas.Bool.{le-ltb, ltb-false}
use Rattle.std.proofs.lemmas.Bool.Decides.{nat_tests}
use Rattle.std.proofs.lemmas.List.{get_or-append-add, length-append}
use Rattle.aat_bytes.specs.Numbers.{be16, slice}
use Rattle.aat_lookup.specs.Keys.{first_fall}
use Rattle.aat_lookup.specs.facts.Falls.{rising}
use Rattle.aat_read_sfnt.specs.Names.{has_key, has_pair, name_record, names_of, text_of, text_of_record}
use Rattle.aat_bytes.specs.facts.Ranges.{found_first}
use Rattle.aat_write_sfnt.specs.NameLaws.{HasNumber, WrittenNamesAreFound, english}
use Rattle.aat_write_sfnt.specs.NameTables.{SfntName, name_record_words, name_words, number_of, text_bytes, text_of_name}
use Rattle.aat_write_sfnt.specs.Records.{records}
use Rattle.aat_write_sfnt.proofs.FontAgain.{neither}
use Rattle.aat_write_sfnt.proofs.RecordPlaces.{index_6, part_at, part_within, place_of, place_shift, record_word, records_long, slice_is}
use Rattle.aat_write_machine.specs.Words.{word_bytes}
use Rattle.aat_write_machine.specs.facts.WordPlaces.{AreWords, length_words, word_at, words_joined}
use Rattle.aat_write_machine.specs.facts.Written.{written_is}

-- a table that has its records
names_are :
    (bytes : List ℕ) (n : ℕ)
    → 6 + 12 * n ≤ length bytes → be16 bytes 0 ≡ 0 → be16 bytes 2 ≡ n → names_of bytes ≡ Ok bytes
unfolding names_of
names_are bytes n long version count =
    let six : nat_lt (length bytes) 6 ≡ false = le-ltb (length bytes) 6 (omega arith) in
    let whole : nat_lt (length bytes) (6 + 12 * n) ≡ false = le-ltb (length bytes) (6 + 12 * n) (omega arith) in
    rw (six, version, count, whole) refl

-- whether an English record has the key of an English name
has_english :
    (bytes : List ℕ) (i number name : ℕ)
    → be16 bytes (6 + 12 * i) ≡ 3
    → be16 bytes (6 + 12 * i + 2) ≡ 1
    → be16 bytes (10 + 12 * i) ≡ 0x409
    → be16 bytes (10 + 12 * i + 2) ≡ number
    → has_key bytes (english name) i ≡ (number == name)
unfolding has_key has_pair
has_english bytes i number name platform encoding language is = rw (platform, encoding, language, is) refl

-- the words of records
records_small :
    (place : ℕ) (names : List SfntName)
    → All HasNumber names
    → place + length (text_bytes names) ≤ 65535
    → AreWords (records text_of_name name_record_words place names)
records_small place [] small below = tt
records_small place (name ∷ names) small below =
    let number : name.name < 65536 = small 0 name (omega arith) in
    let next = place + length name.text in
    let long = length-append name.text (text_bytes names) in
    let here : AreWords (name_record_words place name) =
    (omega arith, (omega arith, (omega arith, (number, (omega (arith, below, long), (omega (arith, below), tt)))))) in
    words_joined (name_record_words place name) (records text_of_name name_record_words next names) here
    (records_small next names (λ k d lt. small (suc k) d (omega arith)) (omega (arith, below, long)))

module _ (names : List SfntName) (small : All HasNumber names) (few : length names ≤ 5460) (short : length (text_bytes names) ≤ 65535) (rises : first_fall number_of names ≡ None) where
  abbrev n : ℕ
  n = length names

  abbrev words : List ℕ
  words = name_words names

  abbrev bytes : List ℕ
  bytes = word_bytes words ++ text_bytes names

  words_long : length words ≡ 3 + 6 * n
  words_long = omega (arith, records_long text_of_name name_record_words 6 (λ place name. refl) 0 names, index_6 n)

  words_small : AreWords words
  words_small =
      let all : AreWords (records text_of_name name_record_words 0 names) = records_small 0 names small (omega (arith, short)) in
      (omega arith, (omega (arith, few), (omega (arith, few), all)))

  front_long : length (word_bytes words) ≡ 6 + 12 * n
  front_long = omega (arith, length_words words, words_long)

  bytes_long : length bytes ≡ 6 + 12 * n + length (text_bytes names)
  bytes_long = omega (arith, length-append (word_bytes words) (text_bytes names), front_long)

  at : (i place : ℕ) → i < 3 + 6 * n → 2 * i ≡ place → be16 bytes place ≡ get_or words i 0
  at i place below is = word_at words [] (text_bytes names) place i (omega (arith, below, words_long)) words_small (omega (arith, is))

  -- a word of the record of name i
  word_here :
      (i k place : ℕ) (d : SfntName)
      → i < n
      → k < 6
      → 6 + 12 * i + 2 * k ≡ place
      → be16 bytes place ≡ get_or (name_record_words (place_of text_of_name name_record_words 0 names i) (get_or names i d)) k 0
  word_here i k place d below inside is =
      at (3 + (6 * i + k)) place (omega arith) (omega (arith, is))
      ∙ get_or-append-add (0 ∷ n ∷ (6 + 12 * n) ∷ []) (records text_of_name name_record_words 0 names) (6 * i + k) 0
      ∙ ap (λ (j : ℕ). get_or (records text_of_name name_record_words 0 names) (j + k) 0) (sym (index_6 i))
      ∙ record_word text_of_name name_record_words 6 (λ place name. refl) 0 names i k d below inside

  has_here : (i name : ℕ) (d : SfntName) → i < n → has_key bytes (english name) i ≡ ((get_or names i d).name == name)
  has_here i name d below =
      has_english bytes i (get_or names i d).name name (word_here i 0 (6 + 12 * i) d below (omega arith) (omega arith))
      (word_here i 1 (6 + 12 * i + 2) d below (omega arith) (omega arith))
      (word_here i 2 (10 + 12 * i) d below (omega arith) (omega arith))
      (word_here i 3 (10 + 12 * i + 2) d below (omega arith) (omega arith))

  count_read : be16 bytes 2 ≡ n
  count_read = at 1 2 (omega arith) refl

  other_name :
      (i k : ℕ) (d : SfntName)
      → i < k → k < n → has_key bytes (english (get_or names k d).name) i ≡ false
  other_name i k d lt below =
      let above = rising number_of names rises i k d lt below in
      let differs : ((get_or names i d).name == (get_or names k d).name) ≡ false = grind (arith, nat_tests) in
      has_here i (get_or names k d).name d (omega arith) ∙ differs

  found : (k : ℕ) (d : SfntName) → k < n → name_record bytes (english (get_or names k d).name) ≡ Some k
  found k d below =
      let name : ℕ = (get_or names k d).name in
      let same : (name == name) ≡ true = grind (arith, nat_tests) in
      let other : (i : ℕ) → 0 ≤ i → i < k → has_key bytes (english name) i ≡ false =
      λ i from lt. other_name i k d lt below in
      ap (λ (m : ℕ). find (has_key bytes (english name)) (range_with_len 0 m)) count_read
      ∙ found_first (has_key bytes (english name)) 0 n k (omega arith) (omega arith) other (has_here k name d below ∙ same)

  text_read : (k : ℕ) (d : SfntName) → k < n → text_of_record bytes k ≡ Some (get_or names k d).text
  text_read k d below =
      let text : List ℕ = (get_or names k d).text in
      let rest : List ℕ = flat_map text_of_name (drop (suc k) names) in
      let place : ℕ = place_of text_of_name name_record_words 0 names k in
      let start : be16 bytes 4 ≡ 6 + 12 * n = at 2 4 (omega arith) refl in
      let offset : be16 bytes (16 + 12 * k) ≡ place = word_here k 5 (16 + 12 * k) d below (omega arith) (omega arith) in
      let size : be16 bytes (14 + 12 * k) ≡ length text = word_here k 4 (14 + 12 * k) d below (omega arith) (omega arith) in
      let front : length (word_bytes words) ≡ 6 + 12 * n + 0 = omega (arith, front_long) in
      let shifted : place_of text_of_name name_record_words (length (word_bytes words)) names k ≡ 6 + 12 * n + place =
      ap (λ (m : ℕ). place_of text_of_name name_record_words m names k) front
      ∙ place_shift text_of_name name_record_words (6 + 12 * n) 0 names k in
      let here : drop (6 + 12 * n + place) bytes ≡ text ++ rest =
      ap (λ (m : ℕ). drop m bytes) (sym shifted) ∙ part_at text_of_name name_record_words (word_bytes words) names k d below in
      let ends = part_within text_of_name name_record_words 0 names k d below in
      let inside : 6 + 12 * n + place + length text ≤ length bytes = omega (arith, ends, bytes_long) in
      ap (λ (m : ℕ). slice bytes (m + be16 bytes (16 + 12 * k)) (be16 bytes (14 + 12 * k))) start
      ∙ ap (λ (m : ℕ). slice bytes (6 + 12 * n + m) (be16 bytes (14 + 12 * k))) offset
      ∙ ap (λ (m : ℕ). slice bytes (6 + 12 * n + place) m) size
      ∙ slice_is bytes text rest (6 + 12 * n + place) (length text) here refl inside

  pub names_are_found :
      (names_of bytes ≡ Ok bytes) × All (λ name. text_of bytes (english name.name) ≡ Some name.text) names
  names_are_found =
      let version : be16 bytes 0 ≡ 0 = at 0 0 (omega arith) refl in
      (names_are bytes n (omega (arith, bytes_long)) version count_read, λ k d below. ap (option_and_then (text_of_record bytes)) (found k d below) ∙ text_read k d below)

pub written_names_are_found : WrittenNamesAreFound
written_names_are_found names bytes small is =
    let many : Bool = nat_lt 5460 (length names) || nat_lt 65535 (length (text_bytes names)) in
    let made = written_is (first_fall number_of names) many (word_bytes (name_words names) ++ text_bytes names) bytes is in
    let both = neither (nat_lt 5460 (length names)) (nat_lt 65535 (length (text_bytes names))) made.1 in
    let few : length names ≤ 5460 = ltb-false 5460 (length names) both.0 in
    let short : length (text_bytes names) ≤ 65535 = ltb-false 65535 (length (text_bytes names)) both.1 in
    subst (λ (b : List ℕ). (names_of b ≡ Ok b) × All (λ name. text_of b (english name.name) ≡ Some name.text) names) made.2
    (names_are_found names small few short made.0)
