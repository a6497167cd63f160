-- A lookup that is written is read again.
use Rattle.std.proofs.Common.{◌≡◌, ℕ, zero, suc, ◌+◌, ◌*◌, ◌<◌, ◌≤◌, List, [], ◌∷◌, ◌++◌, length, get_or, false, None, Ok, All, refl, ap, ◌∙◌, subst, arith}
use Rattle.std.specs.Prelude.{nat_lt}
use Rattle.std.specs.List.{flat_map}
use Rattle.std.proofs.lemmas.Bool.{ltb-false}
use Rattle.std.proofs.lemmas.List.{get_or-append-add, length-append}
use Rattle.aat_bytes.specs.Numbers.{be16}
use Rattle.aat_lookup.specs.Keys.{first, first_fall}
use Rattle.aat_lookup.specs.facts.Falls.{rising}
use Rattle.aat_read_lookup.specs.Lookups.{lookup_at}
use Rattle.aat_write_machine.specs.LookupLaws.{IsPair, WrittenLookupsAreRead}
use Rattle.aat_write_machine.specs.Lookups.{lookup_words, pair_words}
use Rattle.aat_write_machine.specs.Words.{word_bytes}
use Rattle.aat_write_machine.specs.facts.Written.{written_is}
use Rattle.aat_read_lookup.specs.facts.Singles.{HasSingles, singles_are_read}
use Rattle.aat_write_machine.specs.facts.WordPlaces.{AreWords, length_words, word_at, words_joined}

-- the words of pairs, each at its place
glyph_word :
    (pairs : List (ℕ × ℕ)) (rest : List ℕ) (i : ℕ) (d : ℕ × ℕ)
    → i < length pairs → get_or (flat_map pair_words pairs ++ rest) (2 * i) 0 ≡ (get_or pairs i d).0
glyph_word [] rest i d below = absurd (omega arith)
glyph_word (p ∷ pairs) rest zero d below = refl
glyph_word (p ∷ pairs) rest (suc i) d below =
    let place : 2 * suc i ≡ suc (suc (2 * i)) = omega arith in
    ap (λ k. get_or (flat_map pair_words (p ∷ pairs) ++ rest) k 0) place ∙ glyph_word pairs rest i d (omega arith)

value_word :
    (pairs : List (ℕ × ℕ)) (rest : List ℕ) (i : ℕ) (d : ℕ × ℕ)
    → i < length pairs → get_or (flat_map pair_words pairs ++ rest) (suc (2 * i)) 0 ≡ (get_or pairs i d).1
value_word [] rest i d below = absurd (omega arith)
value_word (p ∷ pairs) rest zero d below = refl
value_word (p ∷ pairs) rest (suc i) d below =
    let place : suc (2 * suc i) ≡ suc (suc (suc (2 * i))) = omega arith in
    ap (λ k. get_or (flat_map pair_words (p ∷ pairs) ++ rest) k 0) place ∙ value_word pairs rest i d (omega arith)

last_word :
    (pairs : List (ℕ × ℕ)) (rest : List ℕ)
    → get_or (flat_map pair_words pairs ++ rest) (2 * length pairs) 0 ≡ get_or rest 0 0
last_word [] rest = refl
last_word (p ∷ pairs) rest =
    let place : 2 * suc (length pairs) ≡ suc (suc (2 * length pairs)) = omega arith in
    ap (λ k. get_or (flat_map pair_words (p ∷ pairs) ++ rest) k 0) place ∙ last_word pairs rest

length_pairs : (pairs : List (ℕ × ℕ)) → length (flat_map pair_words pairs) ≡ 2 * length pairs
length_pairs [] = refl
length_pairs (p ∷ pairs) = omega (arith, length_pairs pairs)

pairs_are_words : (pairs : List (ℕ × ℕ)) → All IsPair pairs → AreWords (flat_map pair_words pairs)
pairs_are_words [] small = tt
pairs_are_words (p ∷ pairs) small =
    let here : IsPair p = small 0 p (omega arith) in
    (here.0, (here.1, pairs_are_words pairs (λ k d lt. small (suc k) d (omega arith))))

module _ (pairs : List (ℕ × ℕ)) (before after : List ℕ) (small : All IsPair pairs) (few : length pairs ≤ 65534) (rises : first_fall first pairs ≡ None) where
  abbrev words : List ℕ
  words = lookup_words pairs

  abbrev written : List ℕ
  written = before ++ (word_bytes words ++ after)

  abbrev units : List ℕ
  units = flat_map pair_words pairs ++ (65535 ∷ 65535 ∷ [])

  words_long : length words ≡ 8 + 2 * length pairs
  words_long = omega (arith, length_pairs pairs, length-append (flat_map pair_words pairs) (65535 ∷ 65535 ∷ []))

  words_small : AreWords words
  words_small =
      let unit_words : AreWords units = words_joined (flat_map pair_words pairs) (65535 ∷ 65535 ∷ []) (pairs_are_words pairs small) (omega arith, (omega arith, tt)) in
      (omega arith, (omega arith, (omega arith, (omega arith, (omega arith, (omega arith, unit_words))))))

  at : (i place : ℕ) → i < 8 + 2 * length pairs → length before + 2 * i ≡ place → be16 written place ≡ get_or words i 0
  at i place below is = word_at words before after place i (omega (arith, words_long)) words_small is

  unit : (j : ℕ) → get_or words (6 + j) 0 ≡ get_or units j 0
  unit j = get_or-append-add (6 ∷ 4 ∷ (length pairs + 1) ∷ 0 ∷ 0 ∷ 0 ∷ []) units j 0

  has_singles : HasSingles written (length before) pairs
  has_singles =
      let start : ℕ = length before in
      let terminator : List ℕ = 65535 ∷ 65535 ∷ [] in
      record {
        long = omega (arith, length-append before (word_bytes words ++ after), length-append (word_bytes words) after, length_words words, words_long);
        format = at 0 (length before) (omega arith) (omega arith);
        size = at 1 (length before + 2) (omega arith) (omega arith);
        count = at 2 (length before + 4) (omega arith) (omega arith) ∙ omega arith;
        glyph = λ i below. at (6 + 2 * i) (length before + 12 + 4 * i) (omega arith) (omega arith) ∙ unit (2 * i) ∙ glyph_word pairs terminator i (0, 0) below;
        value = λ i below. at (6 + suc (2 * i)) (length before + 12 + 4 * i + 2) (omega arith) (omega arith) ∙ unit (suc (2 * i)) ∙ value_word pairs terminator i (0, 0) below;
        terminator = at (6 + 2 * length pairs) (length before + 12 + 4 * length pairs) (omega arith) (omega arith) ∙ unit (2 * length pairs) ∙ last_word pairs terminator;
        glyphs = λ i below. (small i (0, 0) below).0;
        rising = λ i below. rising first pairs rises i (suc i) (0, 0) (omega arith) below;
      }

-- the law
pub written_lookups_are_read : WrittenLookupsAreRead
written_lookups_are_read table pairs bytes before after glyph_count small is =
    let made : (first_fall first pairs ≡ None) × (nat_lt 65534 (length pairs) ≡ false) × (word_bytes (lookup_words pairs) ≡ bytes) =
    written_is (first_fall first pairs) (nat_lt 65534 (length pairs)) (word_bytes (lookup_words pairs)) bytes is in
    let few : length pairs ≤ 65534 = ltb-false 65534 (length pairs) made.1 in
    let read : lookup_at table (before ++ (word_bytes (lookup_words pairs) ++ after)) (length before) glyph_count ≡ Ok pairs =
    singles_are_read table (before ++ (word_bytes (lookup_words pairs) ++ after)) (length before) pairs (has_singles pairs before after small few made.0) glyph_count in
    subst (λ (b : List ℕ). lookup_at table (before ++ (b ++ after)) (length before) glyph_count ≡ Ok pairs) made.2 read
