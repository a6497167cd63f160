-- The tracks of a direction that are written are read again, whatever stands before and behind them.
use Rattle.std.proofs.Common.{◌≡◌, ◌∙◌, ap, refl, sym, subst, ℕ, ℤ, suc, zero, pos, ◌+◌, ◌-◌, ◌*◌, ◌/◌, ◌%◌, ◌<◌, ◌≤◌, ◌==◌, ◌^◌, Bool, true, false, cond, not, List, [], ◌∷◌, ◌++◌, length, get_or, map, take, drop, All, FitsSigned, Option, Some, None, arith, length-append, length-drop, take-add, zero-add}
use Rattle.std.specs.Prelude.{◌||◌, nat_lt, option_map}
use Rattle.std.specs.Int.{cast_unsigned, w16, w32}
use Rattle.std.specs.List.{flat_map, range_with_len}
use Rattle.std.proofs.Math.Facts.{Fits-of_z}
use Rattle.std.proofs.Math.Nat.{mul-add, suc-mul}
use Rattle.std.proofs.lemmas.Bool.{ltb-false}
use Rattle.std.proofs.lemmas.Bool.Decides.{nat_tests}
use Rattle.std.proofs.lemmas.Int.{to_z-of_z}
use Rattle.std.proofs.lemmas.Nat.{mul-le}
use Rattle.std.proofs.lemmas.List.{append-nil, get_or-drop, get_or-take, length-take-le, take_all}
use Rattle.std.proofs.lemmas.List.Concat.{flat_map-append}
use Rattle.std.proofs.lemmas.List.FromFn.{fill_by_all, get_or-range_with_len, length-range_with_len}
use Rattle.aat_bytes.specs.Numbers.{be16, be32, signed16}
use Rattle.aat_bytes.specs.facts.Longs.{long_is}
use Rattle.aat_bytes.specs.facts.Ranges.{none_found, range_last}
use Rattle.aat_glyph.specs.placement.Tracks.{TrackTable, no_track, track_at}
use Rattle.aat_glyph.specs.declared.placement.error.TrackingError.{TrackingError}
use Rattle.aat_glyph.specs.declared.placement.error.TrackingError.TheVariants.{TooManyTracks, TooManySizes, ValueCount}
use Rattle.aat_glyph.specs.declared.placement.track_data.Track.{Track}
use Rattle.aat_read_metrics.specs.Trak as reader
use Rattle.aat_write_machine.specs.Words.{word_bytes}
use Rattle.aat_write_machine.specs.facts.WordPlaces.{AreWords, length_words, long_again, word_at, words_joined}
use Rattle.aat_write_sfnt.specs.TrakBytes.{are_too_many, data_words, entries, entry_of, first_far, fixed_words, place_of_sizes, place_of_values, value_word}
use Rattle.aat_write_sfnt.specs.TrakLaws.{IsData, IsTrack}
use Rattle.aat_write_sfnt.proofs.TrackEntries.{near_each}
use Rattle.aat_write_sfnt.proofs.TrackWords.{entry_word, size_word, value_here, words_long}

-- a test of two that fails
pub neither : (a b : Bool) → (a || b) ≡ false → (a ≡ false) × (b ≡ false)
neither true b is = cc
neither false b is = (refl, is)

-- two tests that are passed, a third that is not, and nothing found
passed :
    {X : Type 0} (a b c : Bool) (o : Option X) (x y z : X) → a ≡ true → b ≡ true → c ≡ false → o ≡ None
    → cond a (cond b (cond c (Some x) o) (Some y)) (Some z) ≡ None
passed a b c o x y z first second third none = rw (first, second, third, none) refl

-- tracks that can be made have as many values as tracks times sizes
counted_is :
    (a b c : Bool) (x y z : TrackingError)
    → cond a (Some x) (cond b (Some y) (cond c None (Some z))) ≡ None → c ≡ true
counted_is true b c x y z is = cc
counted_is false true c x y z is = cc
counted_is false false true x y z is = refl
counted_is false false false x y z is = cc

reaches_is : (bytes : List ℕ) (place size : ℕ) → place + size ≤ length bytes → reader.reaches bytes place size ≡ true
reaches_is bytes place size inside = grind (arith, nat_tests, inside)

not_below : (a b : ℕ) → b ≤ a → nat_lt a b ≡ false
not_below a b above = grind (arith, nat_tests, above)

-- words of numbers
long_words : (z : ℤ) → FitsSigned w32 z → AreWords (fixed_words z)
long_words z fits =
    let low : cast_unsigned w32 z < 2 ^ 32 = omega (arith, Fits-of_z {w = w32} {z = z} fits) in
    (omega (arith, low), (omega arith, tt))

each_words :
    {X : Type 0} (f : X → List ℕ) (xs : List X)
    → ((i : ℕ) (d : X) → i < length xs → AreWords (f (get_or xs i d))) → AreWords (flat_map f xs)
each_words f [] each = tt
each_words f (x ∷ xs) each =
    words_joined (f x) (flat_map f xs) (each 0 x (omega arith))
    (each_words f xs (λ i d below. each (suc i) d (omega arith)))

value_words : (values : List ℤ) → All (FitsSigned w16) values → AreWords (map value_word values)
value_words [] fit = tt
value_words (v ∷ values) fit =
    let low : cast_unsigned w16 v < 2 ^ 16 = omega (arith, Fits-of_z {w = w16} {z = v} (fit 0 v (omega arith))) in
    (omega (arith, low), value_words values (λ i d below. fit (suc i) d (omega arith)))

-- the last list of a range
flat_map-range_last :
    {X : Type 0} (f : ℕ → List X) (k : ℕ)
    → flat_map f (range_with_len 0 (suc k)) ≡ flat_map f (range_with_len 0 k) ++ f k
flat_map-range_last f k =
    ap (flat_map f) (range_last 0 k)
    ∙ flat_map-append f (range_with_len 0 k) ((0 + k) ∷ [])
    ∙ ap (λ xs. flat_map f (range_with_len 0 k) ++ xs) (append-nil (f (0 + k)) ∙ ap f (zero-add k))

-- tracks with equal parts
made :
    {a b : List ℤ} {c d : List Track} {e f : List ℤ} → a ≡ b → c ≡ d → e ≡ f
    → ◌≡◌ {A = TrackTable} (record { sizes = a; tracks = c; values = e }) (record { sizes = b; tracks = d; values = f })
made {a} {b} {c} {d} {e} {f} one two three =
    let of_sizes : List ℤ → TrackTable = λ x. record { sizes = x; tracks = c; values = e } in
    let of_tracks : List Track → TrackTable = λ x. record { sizes = b; tracks = x; values = e } in
    let of_values : List ℤ → TrackTable = λ x. record { sizes = b; tracks = d; values = x } in
    ap of_sizes one ∙ ap of_tracks two ∙ ap of_values three

arith_double : (n m : ℕ) → n * (2 * m) ≡ 2 * (n * m)
arith_double n m =
    let twice : 2 * m ≡ m + m = omega arith in
    ap (λ x. n * x) twice ∙ mul-add n m m ∙ omega arith

-- one row of many
row_within : (n m k s : ℕ) → k < n → s < m → k * m + s < n * m
row_within n m k s below inside = omega (arith, mul-le (suc k) m n m (omega arith) (omega arith), suc-mul k m, inside)

row_ends : (n m k : ℕ) → k < n → k * m + m ≤ n * m
row_ends n m k below = omega (arith, mul-le (suc k) m n m (omega arith) (omega arith), suc-mul k m)

module _ (at : ℕ) (t : TrackTable) (front rest : List ℕ) (long : length front ≡ at) (whole : IsData t) (few : are_too_many t ≡ false) (near : first_far at t ≡ None) (low : at < 65536) where
  abbrev n : ℕ
  n = length t.tracks

  abbrev m : ℕ
  m = length t.sizes

  abbrev words : List ℕ
  words = data_words at t

  abbrev bytes : List ℕ
  bytes = front ++ (word_bytes words ++ rest)

  few_tracks : n ≤ 65535
  few_tracks = ltb-false 65535 n (neither (nat_lt 65535 n) (nat_lt 65535 m) few).0

  few_sizes : m ≤ 65535
  few_sizes = ltb-false 65535 m (neither (nat_lt 65535 n) (nat_lt 65535 m) few).1

  pub counted : length t.values ≡ n * m
  counted =
      let test = counted_is (nat_lt 65535 n) (nat_lt 65535 m) (length t.values == n * m) TooManyTracks TooManySizes ValueCount whole.counted in
      grind (arith, nat_tests, test)

  entry_words_small : (k : ℕ) → k < n → AreWords (entry_of at t k)
  entry_words_small k below =
      let here : IsTrack (track_at t.tracks k) = whole.tracks k no_track below in
      let place = near_each at t k near below in
      words_joined (fixed_words (track_at t.tracks k).value) ((track_at t.tracks k).name ∷ place_of_values at t k ∷ [])
      (long_words (track_at t.tracks k).value here.0) (here.1, (omega (arith, place), tt))

  words_small : AreWords words
  words_small =
      let in_range : (i d : ℕ) → i < length (range_with_len 0 n) → AreWords (entry_of at t (get_or (range_with_len 0 n) i d)) =
      λ i d below.
      let inside : i < n = omega (arith, below, length-range_with_len 0 n) in
      let is : get_or (range_with_len 0 n) i d ≡ i = get_or-range_with_len 0 n i d inside ∙ omega arith in
      subst (λ j. AreWords (entry_of at t j)) (sym is) (entry_words_small i inside) in
      let first = each_words (entry_of at t) (range_with_len 0 n) in_range in
      let second = each_words fixed_words t.sizes (λ i d below. long_words (get_or t.sizes i d) (whole.sizes i d below)) in
      let third = value_words t.values whole.values in
      let place : place_of_sizes at t / 65536 < 65536 = omega (arith, few_tracks, low) in (
        omega (arith, few_tracks),
        (
          omega (arith, few_sizes),
          (
            place,
            (
              omega arith,
              words_joined (entries at t) (flat_map fixed_words t.sizes ++ map value_word t.values) first
                  (words_joined (flat_map fixed_words t.sizes) (map value_word t.values) second third),
            ),
          ),
        ),
      )

  bytes_long : at + 8 + 8 * n + 4 * m + 2 * (n * m) ≤ length bytes
  bytes_long =
      omega (
        arith,
        length-append front (word_bytes words ++ rest),
        length-append (word_bytes words) rest,
        length_words words,
        words_long at t,
        counted,
        long,
      )

  word : (i place : ℕ) → i < 4 + 4 * n + 2 * m + n * m → at + 2 * i ≡ place → be16 bytes place ≡ get_or words i 0
  word i place below is = word_at words front rest place i (omega (arith, below, words_long at t, counted)) words_small (omega (arith, is, long))

  -- a signed number of two words
  fixed : (place : ℕ) (z : ℤ) → FitsSigned w32 z
      → be16 bytes place ≡ cast_unsigned w32 z / 65536
      → be16 bytes (place + 2) ≡ cast_unsigned w32 z % 65536
      → reader.signed32 (be32 bytes place) ≡ z
  fixed place z fits high small =
      let number : be32 bytes place ≡ cast_unsigned w32 z =
      long_is bytes place ∙ omega (arith, high, small, long_again (cast_unsigned w32 z)) in
      ap reader.signed32 number ∙ to_z-of_z w32 z fits

  count_read : be16 bytes at ≡ n
  count_read = word 0 at (omega arith) (omega arith)

  size_count_read : be16 bytes (at + 2) ≡ m
  size_count_read = word 1 (at + 2) (omega arith) (omega arith)

  place_read : be32 bytes (at + 4) ≡ place_of_sizes at t
  place_read =
      let high : be16 bytes (at + 4) ≡ place_of_sizes at t / 65536 = word 2 (at + 4) (omega arith) (omega arith) in
      let small : be16 bytes (at + 4 + 2) ≡ place_of_sizes at t % 65536 = word 3 (at + 4 + 2) (omega arith) (omega arith) in
      long_is bytes (at + 4) ∙ omega (arith, high, small, long_again (place_of_sizes at t))

  -- a word of an entry
  in_entry : (k j place : ℕ) → k < n → j < 4 → reader.entry_place at k + 2 * j ≡ place
      → be16 bytes place ≡ get_or (entry_of at t k) j 0
  in_entry k j place below inside is =
      word (4 + (k * 4 + j)) place (omega arith) (omega (arith, is)) ∙ entry_word at t k j below inside

  values_place_read : (k : ℕ) → k < n → reader.values_place bytes at k ≡ place_of_values at t k
  values_place_read k below = in_entry k 3 (reader.entry_place at k + 6) below (omega arith) (omega arith)

  track_read : (k : ℕ) → k < n → track_at t.tracks k ≡ reader.track_at bytes at k
  track_read k below =
      let track = track_at t.tracks k in
      let here : IsTrack track = whole.tracks k no_track below in
      let place = reader.entry_place at k in
      let value : reader.signed32 (be32 bytes place) ≡ track.value =
      fixed place track.value here.0 (in_entry k 0 place below (omega arith) (omega arith))
      (in_entry k 1 (place + 2) below (omega arith) (omega arith)) in
      let name : be16 bytes (place + 4) ≡ track.name = in_entry k 2 (place + 4) below (omega arith) (omega arith) in
      let of_value : ℤ → Track = λ v. record { value = v; name = track.name } in
      let of_name : ℕ → Track = λ w. record { value = reader.signed32 (be32 bytes place); name = w } in
      ap of_value (sym value) ∙ ap of_name (sym name)

  tracks_read : t.tracks ≡ map (reader.track_at bytes at) (range_with_len 0 n)
  tracks_read = fill_by_all (reader.track_at bytes at) t.tracks n no_track refl track_read

  size_read : (s : ℕ) → s < m → get_or t.sizes s (pos 0) ≡ reader.signed32 (be32 bytes (place_of_sizes at t + 4 * s))
  size_read s below =
      let place = place_of_sizes at t + 4 * s in
      let size = get_or t.sizes s (pos 0) in
      let high : be16 bytes place ≡ cast_unsigned w32 size / 65536 =
      word (4 + (4 * n + (s * 2 + 0))) place (omega arith) (omega arith) ∙ size_word at t s 0 below (omega arith) in
      let small : be16 bytes (place + 2) ≡ cast_unsigned w32 size % 65536 =
      word (4 + (4 * n + (s * 2 + 1))) (place + 2) (omega arith) (omega arith) ∙ size_word at t s 1 below (omega arith) in
      sym (fixed place size (whole.sizes s (pos 0) below) high small)

  sizes_read : t.sizes ≡ reader.sizes_from bytes (place_of_sizes at t) m
  sizes_read = fill_by_all (λ s. reader.signed32 (be32 bytes (place_of_sizes at t + 4 * s))) t.sizes m (pos 0) refl size_read

  value_read :
      (k s : ℕ) → k < n → s < m
      → get_or t.values (k * m + s) (pos 0) ≡ signed16 (be16 bytes (place_of_values at t k + 2 * s))
  value_read k s below inside =
      let v = k * m + s in
      let within = row_within n m k s below inside in
      let value = get_or t.values v (pos 0) in
      let there : v < length t.values = omega (arith, within, counted) in
      let read : be16 bytes (place_of_values at t k + 2 * s) ≡ value_word value =
      word (4 + (4 * n + (2 * m + v))) (place_of_values at t k + 2 * s) (omega (arith, within)) (omega arith)
      ∙ value_here at t v there in
      sym (ap signed16 read ∙ to_z-of_z w16 value (whole.values v (pos 0) there))

  -- the values of a track
  row_read :
      (k : ℕ) → k < n
      → take m (drop (k * m) t.values) ≡ reader.values_from bytes (place_of_values at t k) m
  row_read k below =
      let ends = row_ends n m k below in
      let row = take m (drop (k * m) t.values) in
      let size : length row ≡ m = length-take-le m (drop (k * m) t.values) (omega (arith, ends, counted, length-drop (k * m) t.values)) in
      fill_by_all (λ s. signed16 (be16 bytes (place_of_values at t k + 2 * s))) row m (pos 0) size
      (λ s inside. get_or-take m (drop (k * m) t.values) s (pos 0) inside ∙ get_or-drop (k * m) t.values s (pos 0) ∙ value_read k s below inside)

  track_values_read : (k : ℕ) → k < n → reader.track_values bytes at k ≡ take m (drop (k * m) t.values)
  track_values_read k below =
      ap (λ c. reader.values_from bytes (reader.values_place bytes at k) c) size_count_read
      ∙ ap (λ p. reader.values_from bytes p m) (values_place_read k below)
      ∙ sym (row_read k below)

  rows_read :
      (k : ℕ) → k ≤ n → flat_map (reader.track_values bytes at) (range_with_len 0 k) ≡ take (k * m) t.values
  rows_read zero below = let none : zero * m ≡ 0 = omega arith in sym (ap (λ c. take c t.values) none)
  rows_read (suc k) below =
      let so_far = rows_read k (omega (arith, below)) in
      let here = track_values_read k (omega (arith, below)) in
      let next : suc k * m ≡ k * m + m = suc-mul k m in
      flat_map-range_last (reader.track_values bytes at) k
      ∙ ap (λ xs. xs ++ reader.track_values bytes at k) so_far
      ∙ ap (λ xs. take (k * m) t.values ++ xs) here
      ∙ sym (ap (λ c. take c t.values) next ∙ take-add (k * m) m t.values)

  values_read : flat_map (reader.track_values bytes at) (range_with_len 0 n) ≡ t.values
  values_read = rows_read n (omega arith) ∙ take_all (n * m) t.values (omega (arith, counted))

  -- the reader gives these tracks
  pub data_read : reader.data_at bytes at ≡ t
  data_read =
      let sizes : reader.sizes_from bytes (reader.sizes_place bytes at) (reader.size_count bytes at) ≡ t.sizes =
      ap (λ p. reader.sizes_from bytes p (reader.size_count bytes at)) place_read
      ∙ ap (λ c. reader.sizes_from bytes (place_of_sizes at t) c) size_count_read
      ∙ sym sizes_read in
      let tracks : reader.tracks_at bytes at ≡ t.tracks =
      ap (λ c. map (reader.track_at bytes at) (range_with_len 0 c)) count_read ∙ sym tracks_read in
      let values : flat_map (reader.track_values bytes at) (range_with_len 0 (reader.track_count bytes at)) ≡ t.values =
      ap (λ c. flat_map (reader.track_values bytes at) (range_with_len 0 c)) count_read ∙ values_read in
      made sizes tracks values

  first_read : reader.first_outside bytes at n (2 * m) ≡ None
  first_read =
      none_found (λ k. not (reader.reaches bytes (reader.values_place bytes at k) (2 * m))) 0 n
      (λ k from below.
      let inside : k < n = omega (arith, below) in
      let ends = row_ends n m k inside in
      let place = values_place_read k inside in
      let within : reader.values_place bytes at k + 2 * m ≤ length bytes = omega (arith, place, ends, bytes_long) in
      ap not (reaches_is bytes (reader.values_place bytes at k) (2 * m) within))

  lists_read : reader.lists_fault bytes at n m ≡ None
  lists_read =
      let product : n * (8 + 2 * m) ≡ n * 8 + n * (2 * m) = mul-add n 8 (2 * m) in
      let double : n * (2 * m) ≡ 2 * (n * m) = arith_double n m in
      let enough : n * (8 + 2 * m) ≤ length bytes = omega (arith, product, double, bytes_long) in
      let sizes : reader.sizes_place bytes at + 4 * m ≤ length bytes = omega (arith, place_read, bytes_long) in
      passed (reader.reaches bytes (at + 8) (8 * n)) (reader.reaches bytes (reader.sizes_place bytes at) (4 * m))
      (nat_lt (length bytes) (n * (8 + 2 * m)))
      (option_map (λ k. reader.past (reader.values_place bytes at k)) (reader.first_outside bytes at n (2 * m)))
      (reader.past at) (reader.past (reader.sizes_place bytes at))
      (reader.past (at + 8 + 8 * ((length bytes - (at + 8)) / 8)))
      (reaches_is bytes (at + 8) (8 * n) (omega (arith, bytes_long)))
      (reaches_is bytes (reader.sizes_place bytes at) (4 * m) sizes)
      (not_below (length bytes) (n * (8 + 2 * m)) enough)
      (ap (option_map (λ k. reader.past (reader.values_place bytes at k))) first_read)

  -- it finds no fault
  pub no_fault : reader.data_fault bytes at ≡ None
  no_fault =
      let header = reaches_is bytes at 8 (omega (arith, bytes_long)) in
      ap (λ (b : Bool). cond b (reader.lists_fault bytes at (be16 bytes at) (be16 bytes (at + 2))) (Some (reader.past at))) header
      ∙ ap (λ c. reader.lists_fault bytes at c (be16 bytes (at + 2))) count_read
      ∙ ap (λ c. reader.lists_fault bytes at n c) size_count_read
      ∙ lists_read
