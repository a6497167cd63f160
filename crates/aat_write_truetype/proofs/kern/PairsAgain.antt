-- Pairs that are written are read again.
use Rattle.std.proofs.Common.{◌≡◌, ℕ, ℤ, ◌+◌, ◌*◌, ◌<◌, ◌≤◌, List, [], ◌∷◌, ◌++◌, length, get_or, All, None, Ok, refl, sym, ap, ◌∙◌, arith}
use Rattle.std.specs.Prelude.{pos}
use Rattle.std.specs.List.{flat_map}
use Rattle.std.proofs.lemmas.Bool.{le-ltb}
use Rattle.std.proofs.lemmas.List.{get_or-append-add, length-append}
use Rattle.std.proofs.lemmas.List.FromFn.{fill_by_all}
use Rattle.aat_bytes.specs.Numbers.{be16, signed16}
use Rattle.aat_bytes.specs.declared.tags.TheConstants.{KERN}
use Rattle.aat_kerning_tables.specs.Pairs.{key_of_pair}
use Rattle.aat_lookup.specs.Keys.{first_fall}
use Rattle.aat_read_pairs.specs.KerningValues.{no_tuples}
use Rattle.aat_read_pairs.specs.ListedPairs.{kern_pairs_at, listed_pairs, pair_at, pair_place, pairs_at}
use Rattle.aat_read_pairs.proofs.RisingPairs.{rising_pairs_are_all}
use Rattle.aat_write_machine.specs.Words.{word_bytes}
use Rattle.aat_write_machine.specs.facts.WordPlaces.{AreWords, length_words, word_at}
use Rattle.aat_write_truetype.specs.kern.KernLaws.{ArePairs}
use Rattle.aat_write_truetype.specs.kern.PairBytes.{pair_words, pairs_words}
use Rattle.aat_write_truetype.proofs.kern.Chunks.{chunk, chunks_are_words, chunks_long}
use Rattle.aat_write_truetype.proofs.kern.Values.{value_again, value_is_word}

-- a pair of its three parts
triple : (p : ℕ × ℕ × ℤ) (a b : ℕ) (c : ℤ) → a ≡ p.0 → b ≡ p.1 → c ≡ p.2 → p ≡ (a, b, c)
triple p a b c left right value =
    let of_left : ℕ → ℕ × ℕ × ℤ = λ i. (i, p.1, p.2) in
    let of_right : ℕ → ℕ × ℕ × ℤ = λ i. (a, i, p.2) in
    let of_value : ℤ → ℕ × ℕ × ℤ = λ i. (a, b, i) in
    ap of_left (sym left) ∙ ap of_right (sym right) ∙ ap of_value (sym value)

module _ (pairs : List (ℕ × ℕ × ℤ)) (front rest : List ℕ) (small : ArePairs pairs) (few : length pairs ≤ 65535) where
  abbrev words : List ℕ
  words = pairs_words pairs

  abbrev whole : List ℕ
  whole = front ++ (word_bytes words ++ rest)

  abbrev place : ℕ
  place = length front

  words_long : length words ≡ 4 + 3 * length pairs
  words_long = omega (arith, chunks_long pair_words 3 (λ p. refl) pairs)

  words_small : AreWords words
  words_small =
      let each : All (λ p. AreWords (pair_words p)) pairs =
      λ k d lt. let is = small.0 k d lt in (omega (arith, is.0), (omega (arith, is.1), (value_is_word (get_or pairs k d).2 is.2, tt))) in
      let behind : AreWords (flat_map pair_words pairs) = chunks_are_words pair_words 3 (λ p. refl) pairs each in
      (omega arith, (omega arith, (omega arith, (omega arith, behind))))

  at : (i p : ℕ) → i < 4 + 3 * length pairs → place + 2 * i ≡ p → be16 whole p ≡ get_or words i 0
  at i p below is = word_at words front rest p i (omega (arith, words_long)) words_small is

  unit :
      (i j p : ℕ) (d : ℕ × ℕ × ℤ) → i < length pairs → j < 3 → place + 8 + 6 * i + 2 * j ≡ p
      → be16 whole p ≡ get_or (pair_words (get_or pairs i d)) j 0
  unit i j p d below within is =
      at (4 + (3 * i + j)) p (omega arith) (omega arith)
      ∙ get_or-append-add (length pairs ∷ 0 ∷ 0 ∷ 0 ∷ []) (flat_map pair_words pairs) (3 * i + j) 0
      ∙ chunk pair_words 3 (λ p. refl) pairs i j d below within

  pair_is : (i : ℕ) (d : ℕ × ℕ × ℤ) → i < length pairs → get_or pairs i d ≡ pair_at whole no_tuples (place + 8) i
  pair_is i d below =
      let p : ℕ × ℕ × ℤ = get_or pairs i d in
      triple p (be16 whole (pair_place (place + 8) i)) (be16 whole (pair_place (place + 8) i + 2))
      (signed16 (be16 whole (pair_place (place + 8) i + 4)))
      (unit i 0 (pair_place (place + 8) i) d below (omega arith) (omega arith))
      (unit i 1 (pair_place (place + 8) i + 2) d below (omega arith) (omega arith))
      (ap signed16 (unit i 2 (pair_place (place + 8) i + 4) d below (omega arith) (omega arith))
      ∙ value_again p.2 (small.0 i d below).2)

  pairs_are : (d : ℕ × ℕ × ℤ) → pairs_at whole no_tuples (place + 8) (length pairs) ≡ pairs
  pairs_are d =
      sym (fill_by_all (pair_at whole no_tuples (place + 8)) pairs (length pairs) d refl (λ k lt. pair_is k d lt))

  whole_long : length whole ≡ place + (8 + 6 * length pairs + length rest)
  whole_long =
      omega (arith, length-append front (word_bytes words ++ rest), length-append (word_bytes words) rest, length_words words, words_long)

  listed : (d : ℕ × ℕ × ℤ) → listed_pairs KERN whole no_tuples (place + 8) (length pairs) ≡ Ok pairs
  unfolding listed_pairs
  listed d =
      let inside : place + 8 + 6 * length pairs ≤ length whole = omega (arith, whole_long) in
      let rising : first_fall key_of_pair (pairs_at whole no_tuples (place + 8) (length pairs)) ≡ None =
      ap (first_fall key_of_pair) (pairs_are d) ∙ small.1 in
      rw (le-ltb (length whole) (place + 8 + 6 * length pairs) inside)
      (ap Ok (rising_pairs_are_all whole no_tuples (place + 8) (length pairs) rising ∙ pairs_are d))

  -- the pairs are read wherever they stand
  pub pairs_are_read : kern_pairs_at whole place ≡ Ok pairs
  unfolding kern_pairs_at
  pairs_are_read =
      let inside : place + 8 ≤ length whole = omega (arith, whole_long) in
      let count : be16 whole place ≡ length pairs = at 0 place (omega arith) (omega arith) in
      rw (le-ltb (length whole) (place + 8) inside) (rw count (listed (0, 0, pos 0)))
