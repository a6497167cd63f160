-- Glyphs of characters that are written are read again.
use Rattle.std.proofs.Common.{◌≡◌, ◌∙◌, sym, ap, refl, subst, ℕ, suc, ◌+◌, ◌*◌, ◌-◌, ◌/◌, ◌%◌, ◌<◌, ◌≤◌, Bool, true, false, List, [], ◌∷◌, length, get_or, drop, take, All, Option, None, Some, Result, Ok, Err, cond, arith}
use Rattle.std.specs.List.{find, flat_map, range_with_len}
use Rattle.std.specs.Option.{option_or}
use Rattle.std.specs.Prelude.{nat_le, nat_lt, ◌&&◌, ◌==◌, option_and_then}
use Rattle.std.proofs.lemmas.Bool.{le-ltb, ltb-false}
use Rattle.std.proofs.lemmas.Bool.Decides.{nat_tests}
use Rattle.std.proofs.lemmas.List.{get_or-append-add, length-take-le}
use Rattle.std.proofs.lemmas.List.Concat.{get_or-flat_map}
use Rattle.aat_bytes.specs.Bisection.{bisect}
use Rattle.aat_bytes.specs.Numbers.{be16, be32, slice_from}
use Rattle.aat_bytes.specs.Faults.{after, fault_at}
use Rattle.aat_bytes.specs.declared.error.Fault.{Fault}
use Rattle.aat_bytes.specs.declared.error.FaultKind.TheVariants.{Missing, PastEnd}
use Rattle.aat_lookup.specs.Keys.{at_key, first_fall}
use Rattle.aat_lookup.specs.facts.Falls.{rising}
use Rattle.aat_read_sfnt.specs.Characters.{best_encoding, cmap_of, encodings, first_encoding, map_of, record_with, sound_encoding, subtable_at, subtable_of, subtable_with}
use Rattle.aat_read_sfnt.specs.SegmentedCoverage.{end_char, glyph_in_group, group_glyph, groups_at, known_glyph, start_char, start_glyph}
use Rattle.aat_read_sfnt.specs.declared.cmap.Cmap.{Cmap}
use Rattle.aat_read_sfnt.specs.declared.cmap.Cmap.TheVariants.{SegmentedCoverage}
use Rattle.aat_read_sfnt.specs.declared.cmap.character_set.CharacterSet.TheVariants.{Unicode}
use Rattle.aat_write_sfnt.specs.CharacterLaws.{IsMapping, WrittenCharactersAreRead}
use Rattle.aat_write_sfnt.specs.CharacterMaps.{character_of, cmap_words, group_words, subtable_words}
use Rattle.aat_write_sfnt.specs.declared.cmap.Mapping.{Mapping}
use Rattle.aat_write_sfnt.proofs.RisingRows.{rising_rows}
use Rattle.aat_write_sfnt.proofs.TablesAgain.{word_of}
use Rattle.aat_write_machine.specs.Words.{word_bytes}
use Rattle.aat_bytes.specs.facts.Longs.{long_is}
use Rattle.aat_bytes.specs.declared.tags.TheConstants.{CMAP}
use Rattle.aat_write_machine.specs.facts.WordPlaces.{AreWords, length_words, long_again}
use Rattle.aat_write_machine.specs.facts.Written.{written_is}

-- the record of all of Unicode is there, none of symbols is, and its subtable has no fault
first_is :
    (bytes : List ℕ) → be16 bytes 2 ≡ 1 → be32 bytes 4 ≡ 0x3000A → record_with bytes 0x3000A ≡ Some 0
unfolding record_with
first_is bytes count encoding = rw (count, encoding) refl

no_symbols :
    (bytes : List ℕ) → be16 bytes 2 ≡ 1 → be32 bytes 4 ≡ 0x3000A → record_with bytes 0x30000 ≡ None
unfolding record_with
no_symbols bytes count encoding = rw (count, encoding) refl

none_is : (bytes : List ℕ) → subtable_of bytes None ≡ Err (fault_at CMAP Missing 4)
unfolding subtable_of
none_is bytes = refl

sound_is :
    (bytes : List ℕ) (map : Cmap)
    → record_with bytes 0x30000 ≡ None
    → subtable_with bytes 0x3000A ≡ Ok map
    → sound_encoding bytes encodings ≡ Some 0x3000A
unfolding sound_encoding
sound_is bytes map none first = rw (none, none_is bytes, first) refl

-- a subtable of format 12
groups_are :
    (bytes : List ℕ) (n place : ℕ)
    → 16 + 12 * n ≤ length bytes
    → be32 bytes 12 ≡ n
    → groups_at bytes place ≡ Ok bytes
unfolding groups_at
groups_are bytes n place long count =
    let header : nat_lt (length bytes) 16 ≡ false = le-ltb (length bytes) 16 (omega arith) in
    let whole : nat_lt (length bytes) (16 + 12 * n) ≡ false = le-ltb (length bytes) (16 + 12 * n) (omega arith) in
    rw (header, count, whole) refl

-- a subtable of such groups
subtable_is :
    (bytes : List ℕ)
    → 2 ≤ length bytes
    → be16 bytes 0 ≡ 12
    → groups_at bytes 12 ≡ Ok bytes
    → subtable_at bytes 12 ≡ Ok (SegmentedCoverage bytes)
unfolding subtable_at
subtable_is bytes long format groups =
    let two : nat_lt (length bytes) 2 ≡ false = le-ltb (length bytes) 2 (omega arith) in
    rw (two, format, groups) refl

-- what comes of the bytes from the place of a subtable on
abbrev subtable_in : ℕ → Option (List ℕ) → Result Cmap Fault
subtable_in place rest = elim rest [
  | None ↦ Err (fault_at CMAP PastEnd place)
  | Some subtable ↦ subtable_at subtable place
]

rest_is : (bytes : List ℕ) → 12 ≤ length bytes → slice_from bytes 12 ≡ Some (drop 12 bytes)
unfolding slice_from
rest_is bytes long =
    let inside : nat_le 12 (length bytes) ≡ true = grind (arith, nat_tests) in
    rw inside refl

found_is :
    (bytes : List ℕ) (map : Result Cmap Fault)
    → 12 ≤ length bytes
    → be32 bytes 8 ≡ 12
    → subtable_at (drop 12 bytes) 12 ≡ map
    → subtable_of bytes (Some 0) ≡ map
unfolding subtable_of
found_is bytes map long offset subtable =
    ap (λ (place : ℕ). subtable_in place (slice_from bytes place)) offset
    ∙ ap (subtable_in 12) (rest_is bytes long)
    ∙ subtable

-- the table of such a subtable
map_is :
    (bytes : List ℕ) (map : Cmap)
    → 12 ≤ length bytes
    → be16 bytes 0 ≡ 0
    → be16 bytes 2 ≡ 1
    → record_with bytes 0x30000 ≡ None
    → subtable_with bytes 0x3000A ≡ Ok map
    → cmap_of bytes ≡ Ok (record { subtable = map; character_set = Unicode })
unfolding cmap_of
map_is bytes map long version count none subtable =
    let header : nat_lt (length bytes) 4 ≡ false = le-ltb (length bytes) 4 (omega arith) in
    let records : nat_lt (length bytes) 12 ≡ false = le-ltb (length bytes) 12 (omega arith) in
    rw (header, version) (
    ap (λ (k : ℕ). cond (nat_lt (length bytes) (4 + 8 * k)) (Err (fault_at CMAP PastEnd 4)) (map_of bytes (best_encoding bytes))) count
    ∙ ap (λ (b : Bool). cond b (Err (fault_at CMAP PastEnd 4)) (map_of bytes (best_encoding bytes))) records
    ∙ ap (λ (sound : Option ℕ). map_of bytes (option_or sound (first_encoding bytes encodings))) (sound_is bytes map none subtable)
    ∙ ap (λ (read : Result Cmap Fault). after read (λ subtable. Ok (record { subtable = subtable; character_set = Unicode }))) subtable)

-- a search over the places of a list leads to the same as one over its elements, where what is found does
module _ {X Y : Type 0} (p : X → Bool) (q : ℕ → Bool) (F : ℕ → Option Y) (G : X → Option Y) where
  one_same :
      (b c : Bool) (k : ℕ) (x : X) (ks : Option ℕ) (xs : Option X)
      → b ≡ c
      → (c ≡ true → F k ≡ G x)
      → option_and_then F ks ≡ option_and_then G xs
      → option_and_then F (cond b (Some k) ks) ≡ option_and_then G (cond c (Some x) xs)
  one_same true true k x ks xs same here rest = here refl
  one_same false false k x ks xs same here rest = rest
  one_same true false k x ks xs same here rest = absurd (let wrong : ⊥ = cc in wrong)
  one_same false true k x ks xs same here rest = absurd (let wrong : ⊥ = cc in wrong)

  found_same :
      (xs : List X) (a : ℕ) (d : X)
      → ((i k : ℕ) → i < length xs → a + i ≡ k → (q k ≡ p (get_or xs i d)) × (p (get_or xs i d) ≡ true → F k ≡ G (get_or xs i d)))
      → option_and_then F (find q (range_with_len a (length xs))) ≡ option_and_then G (find p xs)
  found_same [] a d each = refl
  found_same (x ∷ xs) a d each =
      let here = each 0 a (omega arith) (omega arith) in
      let rest = found_same xs (a + 1) d (λ i k below is. each (suc i) k (omega arith) (omega arith)) in
      one_same (q a) (p x) a x (find q (range_with_len (a + 1) (length xs))) (find p xs) here.0 here.1 rest

-- the test of a group of a single character
single : (first last character k : ℕ) → first ≡ k → last ≡ k → (nat_le first character && nat_le character last) ≡ (k == character)
single first last character k start end = grind (arith, nat_tests)

same_character : (k character : ℕ) → (k == character) ≡ true → k ≡ character
same_character k character same = grind (arith, nat_tests)

module _ (bytes : List ℕ) (character : ℕ) where
  -- groups of single characters that rise give what the mappings do
  groups_give :
      (mappings : List Mapping) (d : Mapping)
      → first_fall character_of mappings ≡ None
      → ((i : ℕ) → i < length mappings → start_char bytes i ≡ (get_or mappings i d).character)
      → ((i : ℕ) → i < length mappings → end_char bytes i ≡ (get_or mappings i d).character)
      → ((i : ℕ) → i < length mappings → start_glyph bytes i ≡ (get_or mappings i d).glyph)
      → be32 bytes 12 ≡ length mappings
      → group_glyph bytes character ≡ option_and_then (λ mapping. known_glyph mapping.glyph) (at_key character_of mappings character)
  groups_give mappings d rises starts finishes glyphs count =
      let whole : (i : ℕ) → i < length mappings → start_char bytes i ≤ end_char bytes i =
      λ i below. omega (arith, starts i below, finishes i below) in
      let above : (i j : ℕ) → i < j → j < length mappings → end_char bytes i < start_char bytes j =
      λ i j lt below.
      let up : character_of (get_or mappings i d) < character_of (get_or mappings j d) = rising character_of mappings rises i j d lt below in
      omega (arith, finishes i (omega arith), starts j below, up) in
      let has : ℕ → Bool = λ i. nat_le (start_char bytes i) character && nat_le character (end_char bytes i) in
      let is_it : Mapping → Bool = λ m. m.character == character in
      let each : (i k : ℕ) → i < length mappings → 0 + i ≡ k
      → (has k ≡ is_it (get_or mappings i d))
      × (is_it (get_or mappings i d) ≡ true → glyph_in_group bytes character k ≡ known_glyph (get_or mappings i d).glyph) =
      λ i k below is.
      let same : k ≡ i = omega (arith, is) in
      let start : start_char bytes k ≡ (get_or mappings i d).character = ap (start_char bytes) same ∙ starts i below in
      let finish : end_char bytes k ≡ (get_or mappings i d).character = ap (end_char bytes) same ∙ finishes i below in
      let glyph : start_glyph bytes k ≡ (get_or mappings i d).glyph = ap (start_glyph bytes) same ∙ glyphs i below in (
        single (start_char bytes k) (end_char bytes k) character (get_or mappings i d).character start finish,
        λ here.
            let it = same_character (get_or mappings i d).character character here in
            let number : start_glyph bytes k + (character - start_char bytes k) ≡ (get_or mappings i d).glyph = omega (arith, start, glyph, it) in
            ap known_glyph number,
      ) in
      ap (λ n. option_and_then (glyph_in_group bytes character) (bisect (start_char bytes) (end_char bytes) n 0 n character)) count
      ∙ ap (option_and_then (glyph_in_group bytes character)) (rising_rows (start_char bytes) (end_char bytes) (length mappings) character whole above)
      ∙ found_same is_it has (glyph_in_group bytes character) (λ mapping. known_glyph mapping.glyph) mappings 0 d each

-- groups as words
groups_long : (mappings : List Mapping) → length (flat_map group_words mappings) ≡ 6 * length mappings
groups_long [] = refl
groups_long (m ∷ mappings) = omega (arith, groups_long mappings)

groups_small : (mappings : List Mapping) → All IsMapping mappings → AreWords (flat_map group_words mappings)
groups_small [] small = tt
groups_small (m ∷ mappings) small =
    let here : IsMapping m = small 0 m (omega arith) in
    let high : m.character / 65536 < 65536 = omega (arith, here.0) in
    let low : m.character % 65536 < 65536 = omega arith in
    (high, (low, (high, (low, (omega arith, (here.1, groups_small mappings (λ k d lt. small (suc k) d (omega arith))))))))

module _ (mappings : List Mapping) (small : All IsMapping mappings) (few : length mappings ≤ 357913939) (rises : first_fall character_of mappings ≡ None) where
  abbrev n : ℕ
  n = length mappings

  abbrev words : List ℕ
  words = subtable_words mappings

  abbrev sub : List ℕ
  sub = word_bytes words

  words_long : length words ≡ 8 + 6 * n
  words_long = omega (arith, groups_long mappings)

  words_small : AreWords words
  words_small =
      (omega arith, (omega arith, (omega (arith, few), (omega arith, (omega arith, (omega arith, (omega (arith, few), (omega arith, groups_small mappings small))))))))

  sub_long : length sub ≡ 16 + 12 * n
  sub_long = omega (arith, length_words words, words_long)

  at : (i place : ℕ) → i < 8 + 6 * n → 2 * i ≡ place → be16 sub place ≡ get_or words i 0
  at i place below is = word_of words place i (omega (arith, below, words_long)) words_small is

  count_read : be32 sub 12 ≡ n
  count_read =
      long_is sub 12 ∙ omega (arith, at 6 12 (omega arith) refl, at 7 14 (omega arith) refl, long_again n)

  -- a word of a group
  word_here :
      (i k : ℕ) (d : Mapping)
      → i < n → k < 6 → get_or words (8 + (6 * i + k)) 0 ≡ get_or (group_words (get_or mappings i d)) k 0
  word_here i k d below inside =
      let whole : length (take i mappings) ≡ i = length-take-le i mappings (omega arith) in
      let front : length (flat_map group_words (take i mappings)) ≡ 6 * i = groups_long (take i mappings) ∙ ap (λ k. 6 * k) whole in
      let six : k < length (group_words (get_or mappings i d)) = omega arith in
      get_or-append-add (12 ∷ 0 ∷ ((16 + 12 * n) / 65536) ∷ ((16 + 12 * n) % 65536) ∷ 0 ∷ 0 ∷ (n / 65536) ∷ (n % 65536) ∷ []) (flat_map group_words mappings) (6 * i + k) 0
      ∙ ap (λ (j : ℕ). get_or (flat_map group_words mappings) (j + k) 0) (sym front)
      ∙ get_or-flat_map group_words mappings i k d 0 below six

  long_here :
      (i k place : ℕ) (d : Mapping)
      → i < n
      → k < 5
      → 16 + 12 * i + 2 * k ≡ place
      → let group = group_words (get_or mappings i d) in
      be32 sub place ≡ 65536 * get_or group k 0 + get_or group (k + 1) 0
  long_here i k place d below inside is =
      let high = at (8 + (6 * i + k)) place (omega arith) (omega (arith, is)) ∙ word_here i k d below (omega arith) in
      let low = at (8 + (6 * i + (k + 1))) (place + 2) (omega arith) (omega (arith, is)) ∙ word_here i (k + 1) d below (omega arith) in
      long_is sub place ∙ omega (arith, high, low)

  start_here : (i : ℕ) (d : Mapping) → i < n → start_char sub i ≡ (get_or mappings i d).character
  start_here i d below = long_here i 0 (16 + 12 * i) d below (omega arith) (omega arith) ∙ long_again (get_or mappings i d).character

  end_here : (i : ℕ) (d : Mapping) → i < n → end_char sub i ≡ (get_or mappings i d).character
  end_here i d below = long_here i 2 (20 + 12 * i) d below (omega arith) (omega arith) ∙ long_again (get_or mappings i d).character

  glyph_here : (i : ℕ) (d : Mapping) → i < n → start_glyph sub i ≡ (get_or mappings i d).glyph
  glyph_here i d below = long_here i 4 (24 + 12 * i) d below (omega arith) (omega arith) ∙ omega arith

  some_mapping : Mapping
  some_mapping = record { character = 0; glyph = 0 }

  pub characters_are_read :
      (cmap_of (word_bytes (cmap_words mappings)) ≡ Ok (record { subtable = SegmentedCoverage sub; character_set = Unicode }))
      × ((character : ℕ)
      → group_glyph sub character
      ≡ option_and_then (λ mapping. known_glyph mapping.glyph) (at_key character_of mappings character))
  characters_are_read =
      let groups = groups_are sub n 12 (omega (arith, sub_long)) count_read in
      let whole : List ℕ = word_bytes (cmap_words mappings) in
      let long : 12 ≤ length whole = omega (arith, sub_long) in
      let subtable = subtable_is sub (omega (arith, sub_long)) refl groups in
      let found = found_is whole (Ok (SegmentedCoverage sub)) long refl subtable in
      let recorded = ap (subtable_of whole) (first_is whole refl refl) in
      let map = map_is whole (SegmentedCoverage sub) long refl refl (no_symbols whole refl refl) (recorded ∙ found) in (
        map,
        λ character.
            groups_give sub character mappings some_mapping rises
            (λ i below. start_here i some_mapping below) (λ i below. end_here i some_mapping below)
            (λ i below. glyph_here i some_mapping below) count_read,
      )

pub written_characters_are_read : WrittenCharactersAreRead
written_characters_are_read mappings bytes small is =
    let made = written_is (first_fall character_of mappings) (nat_lt 357913939 (length mappings)) (word_bytes (cmap_words mappings)) bytes is in
    let few : length mappings ≤ 357913939 = ltb-false 357913939 (length mappings) made.1 in
    subst (λ (b : List ℕ). (cmap_of b ≡ Ok (record { subtable = SegmentedCoverage (drop 12 b); character_set = Unicode })) × ((character : ℕ) → group_glyph (drop 12 b) character ≡ option_and_then (λ mapping. known_glyph mapping.glyph) (at_key character_of mappings character))) made.2
    (characters_are_read mappings small few made.0)
