-- Words that get the bits of one subtable more, and a list that gets one word more.
use Rattle.std.proofs.Common.{◌≡◌, ℕ, ◌+◌, ◌/◌, ◌%◌, ◌<◌, ◌≤◌, ◌⊎◌, inl, inr, List, [], ◌∷◌, ◌++◌, length, get_or, set, take, Some, vec_len, ap, sym, subst, ◌∙◌, arith}
use Rattle.std.specs.List.{slice_get}
use Rattle.std.proofs.lemmas.Bool.{cases_eq, cases_lt}
use Rattle.std.proofs.lemmas.List.{get_or_append_left, get_or-set_same, get_or-set_other, length-append, length-set, take-take}
use Rattle.std.proofs.lemmas.List.Sums.{sum_by_more, sum_by-take-le}
use Rattle.std.proofs.lemmas.Option.{get_or_from_slice_get, slice_get-get_or, slice_get_within}
use Rattle.std.proofs.Math.Seq.{get_or-append_seam}
use Rattle.aat_font.specs.Wakers.{IsAwakeIn, AreWakers, WakeAt}
use Rattle.aat_font.specs.inside.MarkedWords.{KeepsBits, KeepsWakers}
use Rattle.aat_machine_tables.specs.Chains.{subtable_count}
use Rattle.aat_machine_tables.specs.declared.morx.Chain.{Chain}
use Rattle.aat_machine_tables.specs.declared.morx.Subtable.{Subtable}
use Rattle.aat_font.specs.declared.wakers.GlyphWords.{GlyphWords}

-- what is found in a list with one element more is found before, or is that element
pub found_in_more :
    {X : Type 0} (xs : List X) (y : X) (i : ℕ) (x : X) → slice_get (xs ++ (y ∷ [])) i ≡ Some x
    → (slice_get xs i ≡ Some x) ⊎ ((i ≡ length xs) × (y ≡ x))
found_in_more {X} xs y i x found = by_place (cases_lt i (length xs))
  where
    read : get_or (xs ++ (y ∷ [])) i x ≡ x
    read = get_or_from_slice_get (xs ++ (y ∷ [])) i x x found

    by_place : (i < length xs) ⊎ (length xs ≤ i) → (slice_get xs i ≡ Some x) ⊎ ((i ≡ length xs) × (y ≡ x))
    by_place (inl low) =
        inl (slice_get-get_or xs i x low ∙ ap (λ (z : X). Some z) (sym (get_or_append_left xs (y ∷ []) x i low) ∙ read))
    by_place (inr high) =
        let within : i < length (xs ++ (y ∷ [])) = slice_get_within (xs ++ (y ∷ [])) i x found in
        let last : i ≡ length xs = omega (arith, within, high, length-append xs (y ∷ [])) in
        inr (last, sym (get_or-append_seam xs y [] x) ∙ ap (λ (k : ℕ). get_or (xs ++ (y ∷ [])) k x) (sym last) ∙ read)

-- a list with one word more, which is that of no subtable below
pub word_more : (words : List GlyphWords) (word : GlyphWords) (number : ℕ) → length words ≡ number / 64 → number % 64 ≡ 0 → KeepsWakers words (words ++ (word ∷ [])) number
word_more words word number long even = λ k s below wake w found.
    by_place k s wake w below (found_in_more words word (k / 64) w found)
  where
    by_place :
        (k : ℕ) (s : Subtable) → WakeAt s words k → (w : GlyphWords) → k < number
        → (slice_get words (k / 64) ≡ Some w) ⊎ ((k / 64 ≡ length words) × (word ≡ w)) → IsAwakeIn s w (k % 64)
    by_place k s wake w below (inl earlier) = wake w earlier
    by_place k s wake w below (inr last) = absurd (omega (arith, long, even, below, last.0))

module _ (words : List GlyphWords) (place : ℕ) (was word : GlyphWords) (within : place < length words) (there : was ≡ get_or words place was) (kept : KeepsBits was word) where
  abbrev marked : List GlyphWords
  marked = set words place word

  read_in : (block : ℕ) (w : GlyphWords) → slice_get marked block ≡ Some w → get_or marked block w ≡ w
  read_in block w found = get_or_from_slice_get marked block w w found

  at_place :
      (k : ℕ) (s : Subtable) → WakeAt s words k → (w : GlyphWords) → slice_get marked (k / 64) ≡ Some w
      → (k / 64 ≡ place) ⊎ ((k / 64 ≡ place) → ⊥) → IsAwakeIn s w (k % 64)
  at_place k s wake w found (inl here) =
      let new : word ≡ w = sym (get_or-set_same words place word w within) ∙ (ap (λ (j : ℕ). get_or marked j w) (sym here) ∙ read_in (k / 64) w found) in
      let old : slice_get words (k / 64) ≡ Some was =
      ap (slice_get words) here ∙ (slice_get-get_or words place was within ∙ ap (λ (z : GlyphWords). Some z) (sym there)) in
      subst (λ (z : GlyphWords). IsAwakeIn s z (k % 64)) new (λ g clear. wake was old g (omega (arith, kept g (k % 64), clear)))
  at_place k s wake w found (inr other) =
      let inside : k / 64 < length marked = slice_get_within marked (k / 64) w found in
      let low : k / 64 < length words = omega (arith, inside, length-set words place word) in
      let same : get_or words (k / 64) w ≡ w = sym (get_or-set_other words place (k / 64) word w other) ∙ read_in (k / 64) w found in
      wake w (slice_get-get_or words (k / 64) w low ∙ ap (λ (z : GlyphWords). Some z) same)

  -- a word of a list that gets bits
  pub marked_keeps : (number : ℕ) → KeepsWakers words marked number
  marked_keeps number = λ k s below wake w found. at_place k s wake w found (cases_eq (k / 64) place)

-- the subtable whose bits a word of a list gets
pub marked_wakes :
    (words : List GlyphWords) (place : ℕ) (word : GlyphWords) → place < length words
    → (number : ℕ) (s : Subtable) → number / 64 ≡ place → IsAwakeIn s word (number % 64) → WakeAt s (set words place word) number
marked_wakes words place word within number s here awake w found =
    let read : get_or (set words place word) (number / 64) w ≡ w = get_or_from_slice_get (set words place word) (number / 64) w w found in
    let new : word ≡ w = sym (get_or-set_same words place word w within) ∙ (ap (λ (j : ℕ). get_or (set words place word) j w) (sym here) ∙ read) in
    subst (λ (z : GlyphWords). IsAwakeIn s z (number % 64)) new awake

-- behind the last word no subtable has one
pub without_word : (words : List GlyphWords) (number : ℕ) (s : Subtable) → length words ≤ number / 64 → WakeAt s words number
without_word words number s past w found = absurd (omega (arith, past, slice_get_within words (number / 64) w found))

module _ (subtables : List Subtable) (old new : List GlyphWords) (first i : ℕ) (last : Subtable)
    (kept : KeepsWakers old new (first + i)) (there : last ≡ get_or subtables i last) (awake : WakeAt last new (first + i))
    (before : (k : ℕ) (s : Subtable) → k < i → slice_get subtables k ≡ Some s → WakeAt s old (first + k)) where
  by_place : (k : ℕ) (s : Subtable) → (k < i) ⊎ (i ≤ k) → k < i + 1 → slice_get subtables k ≡ Some s → WakeAt s new (first + k)
  by_place k s (inl low) within found = kept (first + k) s (omega (arith, low)) (before k s low found)
  by_place k s (inr high) within found =
      let same : i ≡ k = omega (arith, high, within) in
      let is : last ≡ s = there ∙ ap (λ (j : ℕ). get_or subtables j last) same ∙ get_or_from_slice_get subtables k s last found in
      subst (λ (j : ℕ). WakeAt s new (first + j)) same (subst (λ (t : Subtable). WakeAt t new (first + i)) is awake)

  -- words that got the bits of one subtable more
  pub wakers_more : (k : ℕ) (s : Subtable) → k < i + 1 → slice_get subtables k ≡ Some s → WakeAt s new (first + k)
  wakers_more k s within found = by_place k s (cases_lt k i) within found

-- a subtable of an earlier chain has a lower number
pub number_below :
    (chains : List Chain) (n i k : ℕ) (c : Chain) → i < n → n ≤ length chains → slice_get chains i ≡ Some c → k < vec_len c.subtables
    → subtable_count (take i chains) + k < subtable_count (take n chains)
number_below chains n i k c low few found inside =
    let count : Chain → ℕ = λ (d : Chain). vec_len d.subtables in
    let within : i < length chains = omega (arith, low, few) in
    let more = sum_by_more count chains i c within in
    let is : get_or chains i c ≡ c = get_or_from_slice_get chains i c c found in
    let size : vec_len (get_or chains i c).subtables ≡ vec_len c.subtables = ap count is in
    let up : subtable_count (take (i + 1) chains) ≤ subtable_count (take n chains) = rising chains (i + 1) n (omega (arith, low)) in
    omega (arith, more, size, up, inside)
  where
    rising : (chains : List Chain) (i n : ℕ) → i ≤ n → subtable_count (take i chains) ≤ subtable_count (take n chains)
    rising chains i n le =
        subst (λ (cs : List Chain). subtable_count cs ≤ subtable_count (take n chains)) (take-take i n chains le) (sum_by-take-le (λ (d : Chain). vec_len d.subtables) (take n chains) i)

module _ (chains : List Chain) (old new : List GlyphWords) (n first : ℕ) (last : Chain) (within : n < length chains) (start : first ≡ subtable_count (take n chains))
    (kept : KeepsWakers old new first) (there : last ≡ get_or chains n last) (awake : AreWakers last.subtables.items new first)
    (before : (i : ℕ) (c : Chain) → i < n → slice_get chains i ≡ Some c → AreWakers c.subtables.items old (subtable_count (take i chains))) where
  of_chain :
      (i : ℕ) (c : Chain) → (i < n) ⊎ (n ≤ i) → i < n + 1 → slice_get chains i ≡ Some c → AreWakers c.subtables.items new (subtable_count (take i chains))
  of_chain i c (inl low) lt found = λ k s held.
      let inside : k < vec_len c.subtables = omega (arith, slice_get_within c.subtables.items k s held, c.subtables.ok) in
      let below = number_below chains n i k c low (omega (arith, within)) found inside in
      kept (subtable_count (take i chains) + k) s (omega (arith, below, start)) (before i c low found k s held)
  of_chain i c (inr high) lt found =
      let same : n ≡ i = omega (arith, high, lt) in
      let is : last ≡ c = there ∙ ap (λ (k : ℕ). get_or chains k last) same ∙ get_or_from_slice_get chains i c last found in
      subst (λ (j : ℕ). AreWakers c.subtables.items new j) (start ∙ ap (λ (j : ℕ). subtable_count (take j chains)) same)
      (subst (λ (d : Chain). AreWakers d.subtables.items new first) is awake)

  -- words that got the bits of one chain more
  pub chains_more : (i : ℕ) (c : Chain) → i < n + 1 → slice_get chains i ≡ Some c → AreWakers c.subtables.items new (subtable_count (take i chains))
  chains_more i c lt found = of_chain i c (cases_lt i n) lt found
