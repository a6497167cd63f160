-- The pairs of a line that is cut before a solid glyph: those of the first part, perhaps one over the cut, and those of
-- the second part.
use Rattle.std.proofs.Common.{◌≡◌, ℕ, zero, suc, ◌+◌, ◌-◌, ◌<◌, ◌≤◌, ◌&&◌, Bool, true, false, cond, List, [], ◌∷◌, ◌++◌, length, map, Option, Some, None, IfSome, refl, sym, ap, ◌∙◌, arith, true≢false}
use Rattle.std.specs.Prelude.{option_map, find, filter_map}
use Rattle.std.specs.List.{cons_option}
use Rattle.std.proofs.lemmas.List.Elements.{filter_map-append}
use Rattle.aat_buffer.specs.Buffer.{glyph_at}
use Rattle.aat_buffer.specs.facts.Cases.{chosen, either}
use Rattle.aat_glyph.specs.declared.glyph.hb_glyph_info_t.{hb_glyph_info_t}
use Rattle.aat_run.specs.Switches.{meets}
use Rattle.aat_kerning.specs.Pairs.{is_solid, places, Pair, last_solid, left_of, pair_at, pairs_of}

-- two glyphs that kerning sees as one
pub record LooksLike (skips kern_mask : ℕ) (g h : hb_glyph_info_t) : Type 0 where
  pub id : h.glyph_id ≡ g.glyph_id
  pub solid : is_solid skips h ≡ is_solid skips g
  pub asks : meets h.mask kern_mask ≡ meets g.mask kern_mask

-- a pair by its places
abbrev pub pair_of : ℕ → ℕ → Pair
pair_of right left = record { left = left; right = right }

-- the pair so many places on
abbrev pub shifted : ℕ → Pair → Pair
shifted q p = pair_of (q + p.right) (q + p.left)

-- pairs before place m
abbrev pub AllBefore : ℕ → List Pair → Type 0
AllBefore m [] = Unit {0}
AllBefore m (p ∷ ps) = ((p.left < m) × (p.right < m)) × AllBefore m ps

-- a pair stands before its right glyph
abbrev pub StandsBefore : ℕ → Pair → Type 0
StandsBefore t p = (p.left < t) × (p.right ≡ t)

-- the places of more than one part
pub places_split : (n i m l k : ℕ) → l ≡ n + m → k ≡ i + n → places i l ≡ places i n ++ places k m
places_split zero i m l k e f =
    let low : l ≡ m = omega (arith, e) in
    let same : i ≡ k = omega (arith, f) in
    ap (λ x. places i x) low ∙ ap (λ x. places x m) same
places_split (suc n) i m zero k e f = absurd (omega (arith, e))
places_split (suc n) i m (suc l) k e f =
    ap (λ xs. i ∷ xs) (places_split n (i + 1) m l k (omega (arith, e)) (omega (arith, f)))

-- choices with equal tests
same_chosen : {X : Type 0} (s r : Bool) (x y u v : X) → r ≡ s → u ≡ x → v ≡ y → cond r u v ≡ cond s x y
same_chosen true true x y u v e p o = p
same_chosen false false x y u v e p o = o
same_chosen true false x y u v e p o = absurd (true≢false (sym e))
same_chosen false true x y u v e p o = absurd (true≢false e)

module _ (skips kern_mask : ℕ) (line : List hb_glyph_info_t) where
  -- the last solid place is no later
  pub last_before : (t : ℕ) → last_solid skips kern_mask line t ≤ t
  last_before zero = omega arith
  last_before (suc t) =
      let before = last_before t in
      chosen (λ (n : ℕ). n ≤ suc t) (is_solid skips (glyph_at line t)) t (last_solid skips kern_mask line t)
      (λ _. omega arith) (λ _. omega (arith, before))

  found_before :
      (test : ℕ → Bool) (n i m : ℕ) → i + n ≤ m → IfSome (find test (places i n)) (λ x. x < m)
  found_before test zero i m low = tt
  found_before test (suc n) i m low =
      let rest = found_before test n (i + 1) m (omega (arith, low)) in
      chosen (λ (o : Option ℕ). IfSome o (λ x. x < m)) (test i) (Some i) (find test (places (i + 1) n))
      (λ _. omega (arith, low)) (λ _. rest)

  mapped_before : (t : ℕ) (o : Option ℕ) → IfSome o (λ x. x < t) → IfSome (option_map (pair_of t) o) (StandsBefore t)
  mapped_before t None low = tt
  mapped_before t (Some x) low = (low, refl)

  pub pair_before : (t : ℕ) → IfSome (pair_at skips kern_mask line t) (StandsBefore t)
  pair_before t =
      let from = last_solid skips kern_mask line t in
      let low : from + (t - from) ≤ t = omega (arith, last_before t) in
      let found = found_before (λ i. meets (glyph_at line i).mask kern_mask) (t - from) from t low in
      chosen (λ (o : Option Pair). IfSome o (StandsBefore t))
      (is_solid skips (glyph_at line t) && meets (glyph_at line t).mask kern_mask)
      (option_map (pair_of t) (left_of skips kern_mask line t)) None
      (λ _. mapped_before t (left_of skips kern_mask line t) found) (λ _. tt)

  all_before_more :
      (t m : ℕ) (o : Option Pair) (ps : List Pair) → t < m → IfSome o (StandsBefore t) → AllBefore m ps
      → AllBefore m (cons_option o ps)
  all_before_more t m None ps low one rest = rest
  all_before_more t m (Some p) ps low one rest = ((omega (arith, low, one.0), omega (arith, low, one.1)), rest)

  pub pairs_before :
      (n i m : ℕ) → i + n ≤ m → AllBefore m (filter_map (pair_at skips kern_mask line) (places i n))
  pairs_before zero i m low = tt
  pairs_before (suc n) i m low =
      all_before_more i m (pair_at skips kern_mask line i) _ (omega (arith, low)) (pair_before i)
      (pairs_before n (i + 1) m (omega (arith, low)))

  -- no pair ends at the front
  none_at_front : pair_at skips kern_mask line 0 ≡ None
  none_at_front =
      either (λ (o : Option Pair). o) (is_solid skips (glyph_at line 0) && meets (glyph_at line 0).mask kern_mask)
      None None None refl refl

-- the first part, whose glyphs look like those before place m
module _ (skips kern_mask m : ℕ) (whole part : List hb_glyph_info_t) (like : (i : ℕ) → i < m → LooksLike skips kern_mask (glyph_at whole i) (glyph_at part i)) where
  front_last : (t : ℕ) → t ≤ m → last_solid skips kern_mask part t ≡ last_solid skips kern_mask whole t
  front_last zero low = refl
  front_last (suc t) low =
      same_chosen (is_solid skips (glyph_at whole t)) (is_solid skips (glyph_at part t)) t _ t _
      (like t (omega (arith, low))).solid refl (front_last t (omega (arith, low)))

  front_find :
      (n i : ℕ) → i + n ≤ m
      → find (λ i. meets (glyph_at part i).mask kern_mask) (places i n)
      ≡ find (λ i. meets (glyph_at whole i).mask kern_mask) (places i n)
  front_find zero i low = refl
  front_find (suc n) i low =
      same_chosen (meets (glyph_at whole i).mask kern_mask) (meets (glyph_at part i).mask kern_mask) (Some i) _ (Some i) _
      (like i (omega (arith, low))).asks refl (front_find n (i + 1) (omega (arith, low)))

  front_left : (t : ℕ) → t ≤ m → left_of skips kern_mask part t ≡ left_of skips kern_mask whole t
  front_left t low =
      let from = last_solid skips kern_mask whole t in
      let inside : from + (t - from) ≤ m = omega (arith, low, last_before skips kern_mask whole t) in
      ap (λ n. find (λ i. meets (glyph_at part i).mask kern_mask) (places n (t - n))) (front_last t low)
      ∙ front_find (t - from) from inside

  pub front_pair : (t : ℕ) → t < m → pair_at skips kern_mask part t ≡ pair_at skips kern_mask whole t
  front_pair t low =
      let seen = like t low in
      let both = ap (λ s. s && meets (glyph_at part t).mask kern_mask) seen.solid ∙ ap (λ s. is_solid skips (glyph_at whole t) && s) seen.asks in
      same_chosen (is_solid skips (glyph_at whole t) && meets (glyph_at whole t).mask kern_mask)
      (is_solid skips (glyph_at part t) && meets (glyph_at part t).mask kern_mask) _ None _ None both
      (ap (option_map (pair_of t)) (front_left t (omega (arith, low)))) refl

  pub front_pairs :
      (n i : ℕ) → i + n ≤ m
      → filter_map (pair_at skips kern_mask part) (places i n) ≡ filter_map (pair_at skips kern_mask whole) (places i n)
  front_pairs zero i low = refl
  front_pairs (suc n) i low =
      ap (λ o. cons_option o (filter_map (pair_at skips kern_mask part) (places (i + 1) n))) (front_pair i (omega (arith, low)))
      ∙ ap (cons_option (pair_at skips kern_mask whole i)) (front_pairs n (i + 1) (omega (arith, low)))

-- the second part, whose glyphs look like those from place q on, where a solid glyph stands
module _ (skips kern_mask q : ℕ) (whole part : List hb_glyph_info_t) (solid : is_solid skips (glyph_at whole q) ≡ true) (like : (i : ℕ) → LooksLike skips kern_mask (glyph_at whole (q + i)) (glyph_at part i)) where
  asks_at : (i k : ℕ) → k ≡ q + i → meets (glyph_at part i).mask kern_mask ≡ meets (glyph_at whole k).mask kern_mask
  asks_at i k e = (like i).asks ∙ ap (λ x. meets (glyph_at whole x).mask kern_mask) (sym e)

  solid_at : (i k : ℕ) → k ≡ q + i → is_solid skips (glyph_at part i) ≡ is_solid skips (glyph_at whole k)
  solid_at i k e = (like i).solid ∙ ap (λ x. is_solid skips (glyph_at whole x)) (sym e)

  chosen_further :
      (s r : Bool) (x y u v : ℕ) → r ≡ s → x ≡ q + u → y ≡ q + v → cond s x y ≡ q + cond r u v
  chosen_further true true x y u v e p o = p
  chosen_further false false x y u v e p o = o
  chosen_further true false x y u v e p o = absurd (true≢false (sym e))
  chosen_further false true x y u v e p o = absurd (true≢false e)

  back_last :
      (t k : ℕ) → k ≡ q + t → last_solid skips kern_mask whole (suc k) ≡ q + last_solid skips kern_mask part (suc t)
  back_last zero k e =
      let at : k ≡ q = omega (arith, e) in
      let yes : is_solid skips (glyph_at whole k) ≡ true = ap (λ x. is_solid skips (glyph_at whole x)) at ∙ solid in
      let here : last_solid skips kern_mask whole (suc k) ≡ k = ap (λ s. cond s k (last_solid skips kern_mask whole k)) yes in
      let none : last_solid skips kern_mask part 1 ≡ 0 = either (λ (n : ℕ). n) (is_solid skips (glyph_at part 0)) 0 0 0 refl refl in
      here ∙ (e ∙ ap (λ n. q + n) (sym none))
  back_last (suc t) zero e = absurd (omega (arith, e))
  back_last (suc t) (suc k) e =
      chosen_further (is_solid skips (glyph_at whole (suc k))) (is_solid skips (glyph_at part (suc t))) (suc k) _ (suc t) _
      (solid_at (suc t) (suc k) e) e (back_last t k (omega (arith, e)))

  found_further :
      (s r : Bool) (i k : ℕ) (o p : Option ℕ) → r ≡ s → k ≡ q + i → o ≡ option_map (λ x. q + x) p
      → cond s (Some k) o ≡ option_map (λ x. q + x) (cond r (Some i) p)
  found_further true true i k o p e f g = ap (λ x. Some x) f
  found_further false false i k o p e f g = g
  found_further true false i k o p e f g = absurd (true≢false (sym e))
  found_further false true i k o p e f g = absurd (true≢false e)

  back_find :
      (n i k : ℕ) → k ≡ q + i
      → find (λ x. meets (glyph_at whole x).mask kern_mask) (places k n)
      ≡ option_map (λ x. q + x) (find (λ x. meets (glyph_at part x).mask kern_mask) (places i n))
  back_find zero i k e = refl
  back_find (suc n) i k e =
      found_further (meets (glyph_at whole k).mask kern_mask) (meets (glyph_at part i).mask kern_mask) i k
      (find (λ x. meets (glyph_at whole x).mask kern_mask) (places (k + 1) n))
      (find (λ x. meets (glyph_at part x).mask kern_mask) (places (i + 1) n)) (asks_at i k e) e
      (back_find n (i + 1) (k + 1) (omega (arith, e)))

  back_left :
      (t k : ℕ) → k ≡ q + t
      → left_of skips kern_mask whole (suc k) ≡ option_map (λ x. q + x) (left_of skips kern_mask part (suc t))
  back_left t k e =
      let from = last_solid skips kern_mask part (suc t) in
      let count : suc k - (q + from) ≡ suc t - from = omega (arith, e) in
      ap (λ n. find (λ x. meets (glyph_at whole x).mask kern_mask) (places n (suc k - n))) (back_last t k e)
      ∙ (ap (λ n. find (λ x. meets (glyph_at whole x).mask kern_mask) (places (q + from) n)) count
      ∙ back_find (suc t - from) from (q + from) refl)

  paired_further :
      (s r : Bool) (t k : ℕ) (o p : Option ℕ) → r ≡ s → k ≡ q + t → o ≡ option_map (λ x. q + x) p
      → cond s (option_map (pair_of k) o) None ≡ option_map (shifted q) (cond r (option_map (pair_of t) p) None)
  paired_further true false t k o p e f g = absurd (true≢false (sym e))
  paired_further false true t k o p e f g = absurd (true≢false e)
  paired_further false false t k o p e f g = refl
  paired_further true true t k o None e f g = ap (option_map (pair_of k)) g
  paired_further true true t k o (Some x) e f g =
      ap (option_map (pair_of k)) g ∙ ap (λ n. Some (pair_of n (q + x))) f

  pub back_pair :
      (t k : ℕ) → 0 < t → k ≡ q + t
      → pair_at skips kern_mask whole k ≡ option_map (shifted q) (pair_at skips kern_mask part t)
  back_pair zero k some e = absurd (omega (arith, some))
  back_pair (suc t) zero some e = absurd (omega (arith, e))
  back_pair (suc t) (suc k) some e =
      let both =
      ap (λ s. s && meets (glyph_at part (suc t)).mask kern_mask) (solid_at (suc t) (suc k) e)
      ∙ ap (λ s. is_solid skips (glyph_at whole (suc k)) && s) (asks_at (suc t) (suc k) e) in
      paired_further (is_solid skips (glyph_at whole (suc k)) && meets (glyph_at whole (suc k)).mask kern_mask)
      (is_solid skips (glyph_at part (suc t)) && meets (glyph_at part (suc t)).mask kern_mask) (suc t) (suc k)
      (left_of skips kern_mask whole (suc k)) (left_of skips kern_mask part (suc t)) both e
      (back_left t k (omega (arith, e)))

  more_further :
      (o p : Option Pair) (xs ys : List Pair) → o ≡ option_map (shifted q) p → xs ≡ map (shifted q) ys
      → cons_option o xs ≡ map (shifted q) (cons_option p ys)
  more_further o None xs ys e f = ap (λ x. cons_option x xs) e ∙ f
  more_further o (Some p) xs ys e f = ap (λ x. cons_option x xs) e ∙ ap (λ zs. shifted q p ∷ zs) f

  back_pairs :
      (n t k : ℕ) → 0 < t → k ≡ q + t
      → filter_map (pair_at skips kern_mask whole) (places k n)
      ≡ map (shifted q) (filter_map (pair_at skips kern_mask part) (places t n))
  back_pairs zero t k some e = refl
  back_pairs (suc n) t k some e =
      more_further (pair_at skips kern_mask whole k) (pair_at skips kern_mask part t)
      (filter_map (pair_at skips kern_mask whole) (places (k + 1) n))
      (filter_map (pair_at skips kern_mask part) (places (t + 1) n)) (back_pair t k some e)
      (back_pairs n (t + 1) (k + 1) (omega arith) (omega (arith, e)))

  -- from the cut on
  pub pairs_from :
      (n : ℕ) → filter_map (pair_at skips kern_mask whole) (places q (suc n))
      ≡ cons_option (pair_at skips kern_mask whole q)
      (map (shifted q) (filter_map (pair_at skips kern_mask part) (places 0 (suc n))))
  pairs_from n =
      let rest = filter_map (pair_at skips kern_mask part) (places 1 n) in
      let none : cons_option (pair_at skips kern_mask part 0) rest ≡ rest = ap (λ o. cons_option o rest) (none_at_front skips kern_mask part) in
      ap (cons_option (pair_at skips kern_mask whole q))
      (back_pairs n 1 (q + 1) (omega arith) refl ∙ ap (map (shifted q)) (sym none))

-- a line that is cut before a solid glyph
pub pairs_cut :
    (skips kern_mask q n : ℕ) (whole first second : List hb_glyph_info_t)
    → length whole ≡ q + suc n → length first ≡ q → length second ≡ suc n
    → is_solid skips (glyph_at whole q) ≡ true
    → ((i : ℕ) → i < q → LooksLike skips kern_mask (glyph_at whole i) (glyph_at first i))
    → ((i : ℕ) → LooksLike skips kern_mask (glyph_at whole (q + i)) (glyph_at second i))
    → pairs_of skips kern_mask whole
    ≡ pairs_of skips kern_mask first
    ++ cons_option (pair_at skips kern_mask whole q) (map (shifted q) (pairs_of skips kern_mask second))
unfolding pairs_of
pairs_cut skips kern_mask q n whole first second long short rest solid front back =
    let pair = pair_at skips kern_mask whole in
    let of_first : filter_map (pair_at skips kern_mask first) (places 0 (length first)) ≡ filter_map pair (places 0 q) =
    ap (λ l. filter_map (pair_at skips kern_mask first) (places 0 l)) short
    ∙ front_pairs skips kern_mask q whole first front q 0 (omega arith) in
    let of_second : filter_map pair (places q (suc n)) ≡ cons_option (pair q) (map (shifted q) (filter_map (pair_at skips kern_mask second) (places 0 (length second)))) =
    pairs_from skips kern_mask q whole second solid back n
    ∙ ap (λ l. cons_option (pair q) (map (shifted q) (filter_map (pair_at skips kern_mask second) (places 0 l)))) (sym rest) in
    ap (λ l. filter_map pair (places 0 l)) long
    ∙ (ap (filter_map pair) (places_split q 0 (suc n) (q + suc n) q refl (omega arith))
    ∙ (filter_map-append pair (places 0 q) (places q (suc n))
    ∙ (ap (λ xs. xs ++ filter_map pair (places q (suc n))) (sym of_first)
    ∙ ap (λ xs. filter_map (pair_at skips kern_mask first) (places 0 (length first)) ++ xs) of_second)))

-- the pairs of a line stand within it
pub pairs_within :
    (skips kern_mask n : ℕ) (line : List hb_glyph_info_t) → length line ≡ n → AllBefore n (pairs_of skips kern_mask line)
unfolding pairs_of
pairs_within skips kern_mask n line long = pairs_before skips kern_mask line (length line) 0 n (omega (arith, long))
