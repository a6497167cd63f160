-- Tables that are written are read again.
use Rattle.std.proofs.Common.{◌≡◌, ◌∙◌, sym, ap, refl, subst, ℕ, zero, suc, ◌+◌, ◌*◌, ◌-◌, ◌/◌, ◌<◌, ◌≤◌, max, min, true, false, List, [], ◌∷◌, length, get_or, drop, All, None, Some, Ok, inl, inr, arith}
use Rattle.std.specs.List.{flat_map}
use Rattle.std.specs.Prelude.{◌==◌, nat_le, nat_lt}
use Rattle.std.proofs.lemmas.Bool.{cases_lt, le-ltb, ltb-false}
use Rattle.std.proofs.lemmas.Bool.Decides.{nat_tests}
use Rattle.std.proofs.lemmas.List.{append-nil, get_or-append-add}
use Rattle.std.proofs.Math.ListN.{get_or-eq_default}
use Rattle.std.proofs.lemmas.Nat.{from_be_bytes-to_be_bytes_2}
use Rattle.aat_bytes.specs.Numbers.{be16, slice_from}
use Rattle.aat_read_sfnt.specs.ClassDefinition.{class_array_at, class_in_array, definition_at, definition_of}
use Rattle.aat_read_sfnt.specs.GlyphClasses.{glyph_classes_of}
use Rattle.aat_read_sfnt.specs.Header.{glyph_count, known_units, units_per_em}
use Rattle.aat_read_sfnt.specs.Metrics.{advance_of, long_metric_count, metrics_of}
use Rattle.aat_read_sfnt.specs.declared.class_definition.ClassDefinition.TheVariants.{Array, Empty}
use Rattle.aat_write_sfnt.specs.GlyphClasses.{gdef_words}
use Rattle.aat_write_sfnt.specs.LongMetrics.{metric_words}
use Rattle.aat_write_sfnt.specs.TableLaws.{IsWord, WrittenAdvancesAreRead, WrittenClassesAreRead, WrittenCountsAreRead, WrittenHeadersAreRead, WrittenProfilesAreRead}
use Rattle.aat_write_machine.specs.Words.{word_bytes}
use Rattle.aat_write_machine.specs.facts.WordPlaces.{AreWords, length_words, word_at}
use Rattle.aat_write_machine.specs.facts.Written.{written_is}

pub profiles_are_read : WrittenProfilesAreRead
unfolding glyph_count
profiles_are_read count small = ap Ok (from_be_bytes-to_be_bytes_2 count small)

pub headers_are_read : WrittenHeadersAreRead
unfolding units_per_em
headers_are_read units small = ap (λ u. Ok (known_units u)) (from_be_bytes-to_be_bytes_2 units small)

pub counts_are_read : WrittenCountsAreRead
unfolding long_metric_count
counts_are_read count small = ap Ok (from_be_bytes-to_be_bytes_2 count small)

-- the number at the place of a word
pub word_of :
    (words : List ℕ) (place i : ℕ)
    → i < length words
    → AreWords words
    → 2 * i ≡ place
    → be16 (word_bytes words) place ≡ get_or words i 0
word_of words place i below small at =
    ap (λ bytes. be16 bytes place) (sym (append-nil (word_bytes words)))
    ∙ word_at words [] [] place i below small (omega (arith, at))

-- elements of 16 bits are words
pub all_words : (xs : List ℕ) → All IsWord xs → AreWords xs
all_words [] small = tt
all_words (x ∷ xs) small = (small 0 x (omega arith), all_words xs (λ k d lt. small (suc k) d (omega arith)))

-- long metrics as words
metrics_long : (advances : List ℕ) → length (flat_map metric_words advances) ≡ 2 * length advances
metrics_long [] = refl
metrics_long (a ∷ advances) = omega (arith, metrics_long advances)

metrics_small : (advances : List ℕ) → All IsWord advances → AreWords (flat_map metric_words advances)
metrics_small [] small = tt
metrics_small (a ∷ advances) small =
    (small 0 a (omega arith), (omega arith, metrics_small advances (λ k d lt. small (suc k) d (omega arith))))

advance_word : (advances : List ℕ) (i : ℕ) → get_or (flat_map metric_words advances) (2 * i) 0 ≡ get_or advances i 0
advance_word [] i = refl
advance_word (a ∷ advances) zero = refl
advance_word (a ∷ advances) (suc i) =
    let place : 2 * suc i ≡ suc (suc (2 * i)) = omega arith in
    ap (λ k. get_or (flat_map metric_words (a ∷ advances)) k 0) place ∙ advance_word advances i

-- so many long metrics, of a font of any number of glyphs
module _ (bytes : List ℕ) (n count : ℕ) (long : length bytes ≡ 4 * n) (some : 0 < n) where
  fits : length bytes / 4 ≡ n
  fits = omega (arith, long)

  any : (n == 0) ≡ false
  any = grind (arith, nat_tests)

  most : min (max count n) (length bytes / 2 - n) ≡ n
  most = omega (arith, long)

  all : min n n ≡ n
  all = omega arith

  pub within_is :
      (glyph advance : ℕ) → glyph < n → be16 bytes (4 * glyph) ≡ advance
      → advance_of (metrics_of bytes n count) glyph ≡ Some advance
  within_is glyph advance below at =
      let inside : nat_lt glyph n ≡ true = grind (arith, nat_tests) in
      let own : min glyph (n - 1) ≡ glyph = omega arith in
      rw (fits, all, any, most, any, inside, own, at) refl

  pub behind_is : (glyph : ℕ) → n ≤ glyph → advance_of (metrics_of bytes n count) glyph ≡ Some 0
  behind_is glyph past =
      let outside : nat_lt glyph n ≡ false = le-ltb glyph n past in
      rw (fits, all, any, most, any, outside) refl

pub advances_are_read : WrittenAdvancesAreRead
advances_are_read advances bytes count glyph small is some =
    let words = flat_map metric_words advances in
    let made = written_is None (nat_lt 65535 (length advances)) (word_bytes words) bytes is in
    let long : length (word_bytes words) ≡ 4 * length advances =
    omega (arith, length_words words, metrics_long advances) in
    let read : advance_of (metrics_of (word_bytes words) (length advances) count) glyph ≡ Some (get_or advances glyph 0) =
    elim (cases_lt glyph (length advances)) [
      | inl below ↦
          let inside : 2 * glyph < length words = omega (arith, below, metrics_long advances) in
          within_is (word_bytes words) (length advances) count long some glyph (get_or advances glyph 0) below
          (word_of words (4 * glyph) (2 * glyph) inside (metrics_small advances small) (omega arith)
          ∙ advance_word advances glyph)
      | inr past ↦
          behind_is (word_bytes words) (length advances) count long some glyph past
          ∙ ap Some (sym (get_or-eq_default advances 0 past))
    ] in
    subst (λ (b : List ℕ). advance_of (metrics_of b (length advances) count) glyph ≡ Some (get_or advances glyph 0)) made.2
    read

classes_at :
    (bytes : List ℕ) (n : ℕ)
    → length bytes ≡ 18 + 2 * n
    → length (drop 12 bytes) ≡ 6 + 2 * n
    → be16 bytes 0 ≡ 1
    → be16 bytes 4 ≡ 12
    → be16 bytes 10 ≡ 0
    → be16 (drop 12 bytes) 0 ≡ 1
    → be16 (drop 12 bytes) 4 ≡ n
    → glyph_classes_of bytes ≡ Ok (record { classes = Array (drop 12 bytes); mark_classes = Empty })
unfolding glyph_classes_of definition_of definition_at class_array_at slice_from
classes_at bytes n long rest version offset marks format count =
    let header : nat_lt (length bytes) 12 ≡ false = le-ltb (length bytes) 12 (omega arith) in
    let inside : nat_le 12 (length bytes) ≡ true = grind (arith, nat_tests) in
    let two : nat_lt (6 + 2 * n) 2 ≡ false = le-ltb (6 + 2 * n) 2 (omega arith) in
    let six : nat_lt (6 + 2 * n) 6 ≡ false = le-ltb (6 + 2 * n) 6 (omega arith) in
    let whole : nat_lt (6 + 2 * n) (6 + 2 * n) ≡ false = le-ltb (6 + 2 * n) (6 + 2 * n) (omega arith) in
    rw (header, version, offset, marks, inside, rest, two, format, six, count, whole) refl

class_is :
    (bytes classes : List ℕ) (glyph : ℕ)
    → be16 bytes 2 ≡ 0
    → be16 bytes 4 ≡ length classes
    → ((i : ℕ) → i < length classes → be16 bytes (6 + 2 * i) ≡ get_or classes i 0)
    → class_in_array bytes glyph ≡ get_or classes glyph 0
class_is bytes classes glyph first count at = elim (cases_lt glyph (length classes)) [
  | inl below ↦
      let inside : nat_le (0 + length classes) glyph ≡ false = grind (arith, nat_tests) in
      let low : nat_lt glyph 0 ≡ false = le-ltb glyph 0 (omega arith) in
      let place : glyph - 0 ≡ glyph = omega arith in
      rw (first, count, low, inside, place, at glyph below) refl
  | inr past ↦
      let outside : nat_le (0 + length classes) glyph ≡ true = grind (arith, nat_tests) in
      let low : nat_lt glyph 0 ≡ false = le-ltb glyph 0 (omega arith) in
      rw (first, count, low, outside) (sym (get_or-eq_default classes 0 past))
]

pub classes_are_read : WrittenClassesAreRead
classes_are_read classes bytes small is =
    let words = gdef_words classes in
    let made = written_is None (nat_lt 65535 (length classes)) (word_bytes words) bytes is in
    let few : length classes ≤ 65535 = ltb-false 65535 (length classes) made.1 in
    let n : ℕ = length classes in
    let count : be16 (drop 12 (word_bytes words)) 4 ≡ n = from_be_bytes-to_be_bytes_2 n (omega (arith, few)) in
    let long : length (word_bytes words) ≡ 18 + 2 * n = omega (arith, length_words classes) in
    let rest : length (drop 12 (word_bytes words)) ≡ 6 + 2 * n = omega (arith, length_words classes) in
    let each : (i : ℕ) → i < n → be16 (drop 12 (word_bytes words)) (6 + 2 * i) ≡ get_or classes i 0 =
    λ i below. word_of (1 ∷ 0 ∷ n ∷ classes) (6 + 2 * i) (3 + i) (omega arith) (omega arith, (omega arith, (omega (arith, few), all_words classes small))) (omega arith)
    ∙ get_or-append-add (1 ∷ 0 ∷ n ∷ []) classes i 0 in
    let read = classes_at (word_bytes words) n long rest refl refl refl refl count in
    let class = λ (glyph : ℕ). class_is (drop 12 (word_bytes words)) classes glyph refl count each in
    subst (λ (b : List ℕ). (glyph_classes_of b ≡ Ok (record { classes = Array (drop 12 b); mark_classes = Empty })) × ((glyph : ℕ) → class_in_array (drop 12 b) glyph ≡ get_or classes glyph 0)) made.2
    (read, class)
