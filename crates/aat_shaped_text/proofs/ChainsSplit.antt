-- Offsets along chains, and where a line is cut: where no glyph behind the cut is attached to one before it, they are those
-- of the two parts.
use Rattle.std.proofs.Common.{◌≡◌, ◌∙◌, sym, ap, refl, ℕ, zero, suc, ◌+◌, ◌-◌, ◌<◌, ◌≤◌, ◌%◌, ◌||◌, Bool, true, false, cond, List, [], ◌∷◌, ◌++◌, map, fold, length, take, arith, ℤ, pos, negsuc, ◌+ℤ◌, nat_lt, w32, of_z, to_z}
use Rattle.std.proofs.Math.Seq.{take-append-add}
use Rattle.std.proofs.lemmas.Bool.{and_parts}
use Rattle.std.proofs.lemmas.Bool.Decides.{nat_tests}
use Rattle.std.proofs.lemmas.Int.{ints, of_z-to_z}
use Rattle.std.proofs.lemmas.List.{get_or-append-add, get_or_append_left, length-append, length-map, map-append, take-append-le}
use Rattle.std.proofs.lemmas.List.FromFn.{length-map-range_with_len}
use Rattle.std.proofs.lemmas.List.Sums.{fold-append}
use Rattle.std.proofs.Math.ListN.{get_or-map}
use Rattle.std.specs.List.{list_all, range_with_len}
use Rattle.std.specs.Option.{option_map_or}
use Rattle.std.specs.Prelude.{None, Option, Some, nat_le, option_map}
use Rattle.aat_glyph.specs.declared.glyph.Direction.{Direction}
use Rattle.aat_glyph.specs.declared.glyph.GlyphPosition.{GlyphPosition}
use Rattle.aat_glyph.specs.placement.Attachments.{Coordinate, X, Y, added_up, advance, at, drawn, drawn_chain, drawn_offset, earlier, followed, is_across, is_mark, minus, no_position, offset, parent, pen, plus, share_behind}
use Rattle.aat_glyph.proofs.placement.Descents.{drawn_offset_at, followed_back}
use Rattle.aat_shaped_text.specs.Breaks.{is_unchained}

-- Tests of all places from one on.
each_place : (p : ℕ → Bool) (a n : ℕ) → list_all p (range_with_len a n) ≡ true → (k : ℕ) → k < n → p (a + k) ≡ true
each_place p a zero all k low = absurd (omega (arith, low))
each_place p a (suc n) all zero low =
    let here : a + 0 ≡ a = omega arith in ap p here ∙ (and_parts (p a) (list_all p (range_with_len (a + 1) n)) all).0
each_place p a (suc n) all (suc k) low =
    let next : a + suc k ≡ (a + 1) + k = omega arith in
    ap p next
    ∙ each_place p (a + 1) n (and_parts (p a) (list_all p (range_with_len (a + 1) n)) all).1 k (omega (arith, low))

all_of_places : (p : ℕ → Bool) (a n : ℕ) → ((k : ℕ) → k < n → p (a + k) ≡ true) → list_all p (range_with_len a n) ≡ true
all_of_places p a zero each = refl
all_of_places p a (suc n) each =
    let here : a ≡ a + 0 = omega arith in
    rw (ap p here ∙ each 0 (omega arith))
    (all_of_places p (a + 1) n
    (λ k low. let next : (a + 1) + k ≡ a + suc k = omega arith in ap p next ∙ each (suc k) (omega (arith, low))))

-- Lists over all places from one on.
split_range : {A : Type 0} (f : ℕ → A) (a m n : ℕ) → map f (range_with_len a (m + n)) ≡ map f (range_with_len a m) ++ map f (range_with_len (a + m) n)
split_range f a zero n =
    let none : zero + n ≡ n = omega arith in let here : a ≡ a + 0 = omega arith in
    ap (λ (k : ℕ). map f (range_with_len a k)) none ∙ ap (λ (k : ℕ). map f (range_with_len k n)) here
split_range f a (suc m) n =
    let more : suc m + n ≡ suc (m + n) = omega arith in let next : (a + 1) + m ≡ a + suc m = omega arith in
    ap (λ (k : ℕ). map f (range_with_len a k)) more
    ∙ ap (λ zs. f a ∷ zs) (split_range f (a + 1) m n ∙ ap (λ (k : ℕ). map f (range_with_len (a + 1) m) ++ map f (range_with_len k n)) next)

same_range : {A : Type 0} (f g : ℕ → A) (a b n : ℕ) → ((k : ℕ) → k < n → f (a + k) ≡ g (b + k)) → map f (range_with_len a n) ≡ map g (range_with_len b n)
same_range f g a b zero same = refl
same_range f g a b (suc n) same =
    let here : a ≡ a + 0 = omega arith in let there : b + 0 ≡ b = omega arith in
    let head : f a ≡ g b = ap f here ∙ (same 0 (omega arith) ∙ ap g there) in
    let rest : map f (range_with_len (a + 1) n) ≡ map g (range_with_len (b + 1) n) =
    same_range f g (a + 1) (b + 1) n
    (λ k low.
    let next : (a + 1) + k ≡ a + suc k = omega arith in let other : b + suc k ≡ (b + 1) + k = omega arith in
    ap f next ∙ (same (suc k) (omega (arith, low)) ∙ ap g other)) in
    λ j. head j ∷ rest j

-- the glyph at a place is attached to none before place i
abbrev pub FromOn : Direction → List GlyphPosition → ℕ → ℕ → Type 0
FromOn d qs i j = option_map_or (nat_le i) (parent d qs j) true ≡ true

pub unchained_at : (d : Direction) (qs : List GlyphPosition) (i : ℕ) → is_unchained d qs i ≡ true → (j : ℕ) → i ≤ j → j < length qs → FromOn d qs i j
unchained_at d qs i un j from low =
    let p : ℕ → Bool = λ n. option_map_or (nat_le i) (parent d qs n) true in
    let there : j ≡ i + (j - i) = omega (arith, from) in
    ap p there ∙ each_place p i (length qs - i) un (j - i) (omega (arith, from, low))

pub unchained_of : (d : Direction) (qs : List GlyphPosition) (i : ℕ) → ((j : ℕ) → i ≤ j → j < length qs → FromOn d qs i j) → is_unchained d qs i ≡ true
unchained_of d qs i each =
    all_of_places (λ n. option_map_or (nat_le i) (parent d qs n) true) i (length qs - i)
    (λ k low. each (i + k) (omega arith) (omega (arith, low)))

-- What a glyph is attached to is said by its attach type and chain.
abbrev pub link : GlyphPosition → GlyphPosition
link q = record no_position { attach_type = q.attach_type; attach_chain = q.attach_chain }

linked_parent : (d : Direction) (qs : List GlyphPosition) (j : ℕ) → parent d (map link qs) j ≡ parent d qs j
linked_parent d qs j = ap (λ (q : GlyphPosition). earlier j (pos j +ℤ drawn_chain d q)) (get_or-map link qs j no_position)

linked : (d : Direction) (qs : List GlyphPosition) (i : ℕ) → is_unchained d (map link qs) i ≡ is_unchained d qs i
linked d qs i = λ k. list_all (λ j. option_map_or (nat_le i) (linked_parent d qs j k) true) (range_with_len i (length-map qs link k - i))

pub same_links : (d : Direction) (qs rs : List GlyphPosition) (i : ℕ) → map link qs ≡ map link rs → is_unchained d qs i ≡ is_unchained d rs i
same_links d qs rs i same = sym (linked d qs i) ∙ (ap (λ zs. is_unchained d zs i) same ∙ linked d rs i)

-- Pens.
bits_of_sum : (x y : ℤ) → of_z w32 (plus x y) ≡ (of_z w32 x + of_z w32 y) % 4294967296
bits_of_sum x y = of_z-to_z w32 ((of_z w32 x + of_z w32 y) % 4294967296) (omega arith)

sums_wrap : (a x s : ℕ) → ((a + x) % 4294967296 + s) % 4294967296 ≡ (a + ((0 + x) % 4294967296 + s) % 4294967296) % 4294967296
sums_wrap a x s = omega arith

wraps_below : (n : ℕ) → n % 4294967296 < 4294967296
wraps_below n = omega arith

stays_below : (n : ℕ) → n < 4294967296 → n ≡ (n + 0) % 4294967296
stays_below n low = omega (arith, low)

-- a sum that begins with a number
bits_of_fold :
    (a : ℤ) (xs : List ℤ) → of_z w32 a < 4294967296
    → of_z w32 (fold plus a xs) ≡ (of_z w32 a + of_z w32 (fold plus (pos 0) xs)) % 4294967296
bits_of_fold a [] fits = stays_below (of_z w32 a) fits
bits_of_fold a (x ∷ xs) fits =
    let rest = of_z w32 (fold plus (pos 0) xs) in
    let first = bits_of_sum a x in
    let second = bits_of_sum (pos 0) x in
    bits_of_fold (plus a x) xs (rw first (wraps_below (of_z w32 a + of_z w32 x)))
    ∙ (ap (λ (n : ℕ). (n + rest) % 4294967296) first
    ∙ (sums_wrap (of_z w32 a) (of_z w32 x) rest
    ∙ ap (λ (n : ℕ). (of_z w32 a + n) % 4294967296)
    (sym (bits_of_fold (plus (pos 0) x) xs (rw second (wraps_below (0 + of_z w32 x))) ∙ ap (λ (n : ℕ). (n + rest) % 4294967296) second))))

fold_fits : (xs : List ℤ) → of_z w32 (fold plus (pos 0) xs) < 4294967296
fold_fits [] = omega arith
fold_fits (x ∷ xs) =
    let second = bits_of_sum (pos 0) x in
    rw (bits_of_fold (plus (pos 0) x) xs (rw second (wraps_below (0 + of_z w32 x))))
    (wraps_below (of_z w32 (plus (pos 0) x) + of_z w32 (fold plus (pos 0) xs)))

-- a constant cancels
cancels : (o a p y : ℕ) → p < 4294967296 → y < 4294967296
    → ((o + (a + p) % 4294967296) % 4294967296 + (4294967296 - (a + y) % 4294967296)) % 4294967296
    ≡ ((o + p) % 4294967296 + (4294967296 - y)) % 4294967296
cancels o a p y few less = omega (arith, few, less)

way_back : (o p y : ℤ) → minus (plus o p) y ≡ to_z w32 (((of_z w32 o + of_z w32 p) % 4294967296 + (4294967296 - of_z w32 y)) % 4294967296)
way_back o p y = ap (λ (n : ℕ). to_z w32 ((n + (4294967296 - of_z w32 y)) % 4294967296)) (bits_of_sum o p)

-- the place that a chain leads to, in a line that stands behind another one
earlier_behind :
    (m k : ℕ) (z : ℤ) → option_map_or (nat_le m) (earlier (m + k) (pos (m + k) +ℤ z)) true ≡ true
    → earlier (m + k) (pos (m + k) +ℤ z) ≡ option_map (λ r. m + r) (earlier k (pos k +ℤ z))
earlier_behind m k z from = by (pos k +ℤ z) (pos (m + k) +ℤ z) refl refl from
  where
    by_test : (a b : ℕ) → b ≡ m + a → (t u : Bool) → nat_lt b (m + k) ≡ t → nat_lt a k ≡ u → cond t (Some b) None ≡ option_map (λ r. m + r) (cond u (Some a) None)
    by_test a b is true true e f = ap Some is
    by_test a b is true false e f = absurd (let less : b < m + k = grind (arith, nat_tests, e) in let most : k ≤ a = grind (arith, nat_tests, f) in omega (arith, is, less, most))
    by_test a b is false true e f = absurd (let least : m + k ≤ b = grind (arith, nat_tests, e) in let less : a < k = grind (arith, nat_tests, f) in omega (arith, is, least, less))
    by_test a b is false false e f = refl

    before : (b : ℕ) → b < m → (t : Bool) → nat_lt b (m + k) ≡ t → option_map_or (nat_le m) (cond t (Some b) None) true ≡ true → ⊥
    before b low true e from = let least : m ≤ b = grind (arith, nat_tests, from) in omega (arith, low, least)
    before b low false e from = let least : m + k ≤ b = grind (arith, nat_tests, e) in omega (arith, low, least)

    by : (x y : ℤ) → pos k +ℤ z ≡ x → pos (m + k) +ℤ z ≡ y → option_map_or (nat_le m) (earlier (m + k) y) true ≡ true → earlier (m + k) y ≡ option_map (λ r. m + r) (earlier k x)
    by (pos a) (pos b) e f from = by_test a b (omega (arith, ints, e, f)) (nat_lt b (m + k)) (nat_lt a k) refl refl
    by (pos a) (negsuc b) e f from = absurd (omega (arith, ints, e, f))
    by (negsuc a) (pos b) e f from = absurd (before b (omega (arith, ints, e, f)) (nat_lt b (m + k)) refl from)
    by (negsuc a) (negsuc b) e f from = refl

pub length_added : (d : Direction) (qs : List GlyphPosition) → length (added_up d qs) ≡ length qs
length_added d qs = length-map-range_with_len (drawn d qs) 0 (length qs)

module _ (d : Direction) (ps qs : List GlyphPosition) where
  -- Before the cut.
  front_at : (i : ℕ) → i < length ps → at (ps ++ qs) i ≡ at ps i
  front_at i low = get_or_append_left ps qs no_position i low

  front_parent : (i : ℕ) → i < length ps → parent d (ps ++ qs) i ≡ parent d ps i
  front_parent i low = ap (λ (q : GlyphPosition). earlier i (pos i +ℤ drawn_chain d q)) (front_at i low)

  -- what stands before the cut is unchained where the whole is
  pub front_unchained : (p : ℕ) → is_unchained d (ps ++ qs) p ≡ true → is_unchained d ps p ≡ true
  front_unchained p un =
      unchained_of d ps p
      (λ j from low.
      ap (λ (o : Option ℕ). option_map_or (nat_le p) o true) (sym (front_parent j low))
      ∙ unchained_at d (ps ++ qs) p un j from (omega (arith, low, length-append ps qs)))

  module _ (c : Coordinate) where
    front_pen : (p : ℕ) → p ≤ length ps → pen c (ps ++ qs) p ≡ pen c ps p
    front_pen p low = ap (λ zs. fold plus (pos 0) (map (advance c) zs)) (take-append-le p ps qs low)

    front_followed : (i : ℕ) → i < length ps → followed c d (ps ++ qs) i ≡ followed c d ps i
    front_followed i low = ap (λ (q : GlyphPosition). cond (is_mark q || is_across c d) (earlier i (pos i +ℤ drawn_chain d q)) None) (front_at i low)

    front_share : (i p : ℕ) → i < length ps → p < i → share_behind c (ps ++ qs) i (Some p) ≡ share_behind c ps i (Some p)
    front_share i p low less =
        λ k. cond (is_mark (front_at i low k)) (minus (plus (offset c (front_at i low k)) (front_pen p (omega (arith, low, less)) k)) (front_pen i (omega (arith, low)) k))
        (offset c (front_at i low k))

    front_offset : (n i : ℕ) → i < n → i < length ps → drawn_offset c d (ps ++ qs) i ≡ drawn_offset c d ps i
    front_offset zero i less low = absurd (omega (arith, less))
    front_offset (suc n) i less low =
        drawn_offset_at c d (ps ++ qs) i
        ∙ (ap (λ (o : Option ℕ). option_map_or (λ p. plus (drawn_offset c d (ps ++ qs) p) (share_behind c (ps ++ qs) i (Some p))) o (offset c (at (ps ++ qs) i))) (front_followed i low)
        ∙ (by (λ p before. front_offset n p (omega (arith, less, before)) (omega (arith, low, before))) (followed c d ps i) refl ∙ sym (drawn_offset_at c d ps i)))
      where
        by : ((p : ℕ) → p < i → drawn_offset c d (ps ++ qs) p ≡ drawn_offset c d ps p) → (o : Option ℕ) → followed c d ps i ≡ o
            → option_map_or (λ p. plus (drawn_offset c d (ps ++ qs) p) (share_behind c (ps ++ qs) i (Some p))) o (offset c (at (ps ++ qs) i))
            ≡ option_map_or (λ p. plus (drawn_offset c d ps p) (share_behind c ps i (Some p))) o (offset c (at ps i))
        by same None e = ap (offset c) (front_at i low)
        by same (Some p) e = let before : p < i = (followed_back c d ps).before i p e in λ k. plus (same p before k) (front_share i p low before k)

  -- Behind the cut, where nothing is attached to a glyph before it.
  back_at : (k : ℕ) → at (ps ++ qs) (length ps + k) ≡ at qs k
  back_at k = get_or-append-add ps qs k no_position

  back_parent : (k : ℕ) → FromOn d (ps ++ qs) (length ps) (length ps + k) → parent d (ps ++ qs) (length ps + k) ≡ option_map (λ r. length ps + r) (parent d qs k)
  back_parent k from =
      let i = length ps + k in
      ap (λ (q : GlyphPosition). earlier i (pos i +ℤ drawn_chain d q)) (back_at k)
      ∙ earlier_behind (length ps) k (drawn_chain d (at qs k))
      (sym (ap (λ (q : GlyphPosition). option_map_or (nat_le (length ps)) (earlier i (pos i +ℤ drawn_chain d q)) true) (back_at k)) ∙ from)

  module _ (un : is_unchained d (ps ++ qs) (length ps) ≡ true) where
    back_from : (k : ℕ) → k < length qs → FromOn d (ps ++ qs) (length ps) (length ps + k)
    back_from k low = unchained_at d (ps ++ qs) (length ps) un (length ps + k) (omega arith) (omega (arith, low, length-append ps qs))

    -- what stands behind the cut is unchained where the whole is
    pub back_unchained : (p : ℕ) → length ps ≤ p → is_unchained d (ps ++ qs) p ≡ true → is_unchained d qs (p - length ps) ≡ true
    back_unchained p high more =
        unchained_of d qs (p - length ps)
        (λ j from low.
        by (parent d qs j)
        (sym (ap (λ (o : Option ℕ). option_map_or (nat_le p) o true) (back_parent j (back_from j low)))
        ∙ unchained_at d (ps ++ qs) p more (length ps + j) (omega (arith, from, high)) (omega (arith, low, length-append ps qs))))
      where
        by : (o : Option ℕ) → option_map_or (nat_le p) (option_map (λ r. length ps + r) o) true ≡ true → option_map_or (nat_le (p - length ps)) o true ≡ true
        by None from = refl
        by (Some r) from = let least : p ≤ length ps + r = grind (arith, nat_tests, from) in let less : p - length ps ≤ r = omega (arith, least) in grind (arith, nat_tests, less)

    module _ (c : Coordinate) where
      back_pen : (k : ℕ) → of_z w32 (pen c (ps ++ qs) (length ps + k)) ≡ (of_z w32 (fold plus (pos 0) (map (advance c) ps)) + of_z w32 (pen c qs k)) % 4294967296
      back_pen k =
          ap (λ zs. of_z w32 (fold plus (pos 0) (map (advance c) zs))) (take-append-add ps qs k)
          ∙ (ap (λ zs. of_z w32 (fold plus (pos 0) zs)) (map-append (advance c) ps (take k qs))
          ∙ (ap (of_z w32) (fold-append plus (pos 0) (map (advance c) ps) (map (advance c) (take k qs)))
          ∙ bits_of_fold (fold plus (pos 0) (map (advance c) ps)) (map (advance c) (take k qs)) (fold_fits (map (advance c) ps))))

      back_way : (o : ℤ) (r k : ℕ)
          → minus (plus o (pen c (ps ++ qs) (length ps + r))) (pen c (ps ++ qs) (length ps + k)) ≡ minus (plus o (pen c qs r)) (pen c qs k)
      back_way o r k =
          way_back o (pen c (ps ++ qs) (length ps + r)) (pen c (ps ++ qs) (length ps + k))
          ∙ (ap (to_z w32)
          ((λ j. ((of_z w32 o + back_pen r j) % 4294967296 + (4294967296 - back_pen k j)) % 4294967296)
          ∙ cancels (of_z w32 o) (of_z w32 (fold plus (pos 0) (map (advance c) ps))) (of_z w32 (pen c qs r)) (of_z w32 (pen c qs k))
          (fold_fits (map (advance c) (take r qs))) (fold_fits (map (advance c) (take k qs))))
          ∙ sym (way_back o (pen c qs r) (pen c qs k)))

      back_followed : (k : ℕ) → k < length qs → followed c d (ps ++ qs) (length ps + k) ≡ option_map (λ r. length ps + r) (followed c d qs k)
      back_followed k low =
          ap (λ (q : GlyphPosition). cond (is_mark q || is_across c d) (parent d (ps ++ qs) (length ps + k)) None) (back_at k) ∙ by (is_mark (at qs k) || is_across c d)
        where
          by : (t : Bool) → cond t (parent d (ps ++ qs) (length ps + k)) None ≡ option_map (λ r. length ps + r) (cond t (parent d qs k) None)
          by true = back_parent k (back_from k low)
          by false = refl

      back_share : (k r : ℕ) → share_behind c (ps ++ qs) (length ps + k) (Some (length ps + r)) ≡ share_behind c qs k (Some r)
      back_share k r =
          ap (λ (q : GlyphPosition). cond (is_mark q) (minus (plus (offset c q) (pen c (ps ++ qs) (length ps + r))) (pen c (ps ++ qs) (length ps + k))) (offset c q)) (back_at k)
          ∙ ap (λ (z : ℤ). cond (is_mark (at qs k)) z (offset c (at qs k))) (back_way (offset c (at qs k)) r k)

      back_offset : (n k : ℕ) → k < n → k < length qs → drawn_offset c d (ps ++ qs) (length ps + k) ≡ drawn_offset c d qs k
      back_offset zero k less low = absurd (omega (arith, less))
      back_offset (suc n) k less low =
          drawn_offset_at c d (ps ++ qs) (length ps + k)
          ∙ (ap (λ (o : Option ℕ). option_map_or (λ p. plus (drawn_offset c d (ps ++ qs) p) (share_behind c (ps ++ qs) (length ps + k) (Some p))) o (offset c (at (ps ++ qs) (length ps + k))))
          (back_followed k low)
          ∙ (by (λ r before. back_offset n r (omega (arith, less, before)) (omega (arith, low, before))) (followed c d qs k) refl ∙ sym (drawn_offset_at c d qs k)))
        where
          by : ((r : ℕ) → r < k → drawn_offset c d (ps ++ qs) (length ps + r) ≡ drawn_offset c d qs r) → (o : Option ℕ) → followed c d qs k ≡ o
              → option_map_or (λ p. plus (drawn_offset c d (ps ++ qs) p) (share_behind c (ps ++ qs) (length ps + k) (Some p))) (option_map (λ r. length ps + r) o)
              (offset c (at (ps ++ qs) (length ps + k)))
              ≡ option_map_or (λ p. plus (drawn_offset c d qs p) (share_behind c qs k (Some p))) o (offset c (at qs k))
          by same None e = ap (offset c) (back_at k)
          by same (Some r) e = let before : r < k = (followed_back c d qs).before k r e in λ j. plus (same r before j) (back_share k r j)

    front_drawn : (i : ℕ) → i < length ps → drawn d (ps ++ qs) i ≡ drawn d ps i
    front_drawn i low =
        λ j. record (front_at i low j) {
          x_offset = front_offset X (suc i) i (omega arith) low j;
          y_offset = front_offset Y (suc i) i (omega arith) low j;
        }

    back_drawn : (k : ℕ) → k < length qs → drawn d (ps ++ qs) (length ps + k) ≡ drawn d qs k
    back_drawn k low =
        λ j. record (back_at k j) {
          x_offset = back_offset X (suc k) k (omega arith) low j;
          y_offset = back_offset Y (suc k) k (omega arith) low j;
        }

    -- the offsets of a line are those of its parts
    pub added_split : added_up d (ps ++ qs) ≡ added_up d ps ++ added_up d qs
    added_split =
        ap (λ (n : ℕ). map (drawn d (ps ++ qs)) (range_with_len 0 n)) (length-append ps qs)
        ∙ (split_range (drawn d (ps ++ qs)) 0 (length ps) (length qs)
        ∙ (λ j. same_range (drawn d (ps ++ qs)) (drawn d ps) 0 0 (length ps) (λ k low. front_here k low) j
        ++ same_range (drawn d (ps ++ qs)) (drawn d qs) (0 + length ps) 0 (length qs) (λ k low. back_here k low) j))
      where
        front_here : (k : ℕ) → k < length ps → drawn d (ps ++ qs) (0 + k) ≡ drawn d ps (0 + k)
        front_here k low = let here : 0 + k ≡ k = omega arith in ap (drawn d (ps ++ qs)) here ∙ (front_drawn k low ∙ sym (ap (drawn d ps) here))

        back_here : (k : ℕ) → k < length qs → drawn d (ps ++ qs) ((0 + length ps) + k) ≡ drawn d qs (0 + k)
        back_here k low =
            let here : 0 + k ≡ k = omega arith in let there : (0 + length ps) + k ≡ length ps + k = omega arith in
            ap (drawn d (ps ++ qs)) there ∙ (back_drawn k low ∙ sym (ap (drawn d qs) here))
