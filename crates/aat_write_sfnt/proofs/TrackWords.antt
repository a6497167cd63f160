-- The words of tracks, each at its place among the words of a direction.
use Rattle.std.proofs.Common.{◌≡◌, ◌∙◌, ap, refl, sym, ℕ, pos, ◌+◌, ◌*◌, ◌<◌, List, [], ◌∷◌, ◌++◌, length, get_or, take, map, arith, length-append, zero-add}
use Rattle.std.specs.List.{flat_map, range_with_len}
use Rattle.std.proofs.lemmas.List.{get_or-append-add, get_or_append_left, get_or-map, length-map, length-take-le}
use Rattle.std.proofs.lemmas.List.Concat.{get_or-flat_map}
use Rattle.std.proofs.lemmas.List.FromFn.{get_or-range_with_len, length-range_with_len}
use Rattle.aat_glyph.specs.placement.Tracks.{TrackTable}
use Rattle.aat_write_sfnt.specs.TrakBytes.{data_header, data_words, entries, entry_of, fixed_words, value_word}

-- lists of one length, joined
module _ {X : Type 0} (f : X → List ℕ) (size : ℕ) (each : (x : X) → length (f x) ≡ size) where
  pub each_long : (xs : List X) → length (flat_map f xs) ≡ length xs * size
  each_long [] = omega arith
  each_long (x ∷ xs) = length-append (f x) (flat_map f xs) ∙ omega (arith, each x, each_long xs)

  pub word_in :
      (xs : List X) (i j : ℕ) (d : X) → i < length xs → j < size
      → get_or (flat_map f xs) (i * size + j) 0 ≡ get_or (f (get_or xs i d)) j 0
  word_in xs i j d below inside =
      let front : length (flat_map f (take i xs)) ≡ i * size =
      each_long (take i xs) ∙ ap (λ k. k * size) (length-take-le i xs (omega arith)) in
      ap (λ k. get_or (flat_map f xs) (k + j) 0) (sym front)
      ∙ get_or-flat_map f xs i j d 0 below (omega (arith, each (get_or xs i d)))

module _ (at : ℕ) (t : TrackTable) where
  abbrev n : ℕ
  n = length t.tracks

  abbrev m : ℕ
  m = length t.sizes

  abbrev sizes : List ℕ
  sizes = flat_map fixed_words t.sizes

  abbrev values : List ℕ
  values = map value_word t.values

  abbrev rest : List ℕ
  rest = sizes ++ values

  pub entries_long : length (entries at t) ≡ 4 * n
  entries_long =
      each_long (entry_of at t) 4 (λ k. refl) (range_with_len 0 n)
      ∙ omega (arith, length-range_with_len 0 n)

  pub sizes_long : length sizes ≡ 2 * m
  sizes_long = each_long fixed_words 2 (λ x. refl) t.sizes ∙ omega arith

  pub words_long : length (data_words at t) ≡ 4 + 4 * n + 2 * m + length t.values
  words_long =
      omega (
        arith,
        length-append (entries at t) rest,
        length-append sizes values,
        entries_long,
        sizes_long,
        length-map t.values value_word,
      )

  pub entry_word :
      (k j : ℕ) → k < n → j < 4 → get_or (data_words at t) (4 + (k * 4 + j)) 0 ≡ get_or (entry_of at t k) j 0
  entry_word k j below inside =
      let range = range_with_len 0 n in
      let within : k * 4 + j < length (entries at t) = omega (arith, entries_long) in
      get_or-append-add (data_header at t) (entries at t ++ rest) (k * 4 + j) 0
      ∙ get_or_append_left (entries at t) rest 0 (k * 4 + j) within
      ∙ word_in (entry_of at t) 4 (λ k. refl) range k j 0 (omega (arith, length-range_with_len 0 n)) inside
      ∙ ap (λ i. get_or (entry_of at t i) j 0) (get_or-range_with_len 0 n k 0 below ∙ zero-add k)

  -- what stands behind the entries
  behind_entries : (i : ℕ) → get_or (data_words at t) (4 + (4 * n + i)) 0 ≡ get_or rest i 0
  behind_entries i =
      get_or-append-add (data_header at t) (entries at t ++ rest) (4 * n + i) 0
      ∙ ap (λ k. get_or (entries at t ++ rest) (k + i) 0) (sym entries_long)
      ∙ get_or-append-add (entries at t) rest i 0

  pub size_word :
      (s j : ℕ) → s < m → j < 2
      → get_or (data_words at t) (4 + (4 * n + (s * 2 + j))) 0 ≡ get_or (fixed_words (get_or t.sizes s (pos 0))) j 0
  size_word s j below inside =
      let within : s * 2 + j < length sizes = omega (arith, sizes_long) in
      behind_entries (s * 2 + j)
      ∙ get_or_append_left sizes values 0 (s * 2 + j) within
      ∙ word_in fixed_words 2 (λ x. refl) t.sizes s j (pos 0) below inside

  pub value_here :
      (v : ℕ) → v < length t.values
      → get_or (data_words at t) (4 + (4 * n + (2 * m + v))) 0 ≡ value_word (get_or t.values v (pos 0))
  value_here v below =
      behind_entries (2 * m + v)
      ∙ ap (λ k. get_or rest (k + v) 0) (sym sizes_long)
      ∙ get_or-append-add sizes values v 0
      ∙ get_or-map value_word t.values v (pos 0) 0 below
