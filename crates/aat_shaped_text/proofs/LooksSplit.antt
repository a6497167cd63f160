-- A line that is drawn in two parts: before a glyph that stays, and the glyphs of its cluster in a row before it that go,
-- where no cluster of one part is one of the other.
use Rattle.std.proofs.Common.{◌≡◌, ◌∙◌, sym, ap, refl, ℕ, zero, suc, ◌+◌, ◌-◌, ◌<◌, ◌≤◌, ◌==◌, Bool, true, false, not, cond, List, [], ◌∷◌, ◌++◌, map, reverse, length, get_or, arith, true≢false, nat_lt, if◌then◌else◌, append_assoc}
use Rattle.std.proofs.lemmas.Grind.{reverse_onto}
use Rattle.std.proofs.lemmas.List.{get_or_append_left, get_or-append-add, get_or_at, length-append, length-map, length-reverse, map-append, reverse-append}
use Rattle.aat_glyph.specs.declared.glyph.hb_glyph_info_t.{hb_glyph_info_t}
use Rattle.aat_buffer.specs.Removal.{is_deleted}
use Rattle.aat_shaped_text.specs.declared.text.ShapedGlyph.{ShapedGlyph}
use Rattle.aat_shaped_text.proofs.Looks.{Positions, kept_looks, left_of, line_looks, look, with_clusters}
use Rattle.aat_shaped_text.proofs.Spots.{AllFront, AllRest, BeginsKept, Spot, all_lefts, begins_with, is_filled, lefts, length_raised, lower, lower_run, lowered, merge_run, raised, some_stays}
use Rattle.aat_shaped_text.proofs.SpotsBegun.{Begun, begun, stays_begun}
use Rattle.aat_shaped_text.proofs.SpotsEnds.{first_is_low, head_of, last_from, last_is_low, last_of}
use Rattle.aat_shaped_text.proofs.SpotsRuns.{Glyphs, spot, spots}
use Rattle.aat_shaped_text.proofs.SpotsSplit.{front_without, lefts_first, lefts_second}

-- how many glyphs stay
abbrev pub stays : List Spot → ℕ
stays [] = 0
stays (s ∷ rest) = if s.0 then stays rest else suc (stays rest)

length_lower_run : (e c : ℕ) (xs : List ℕ) → length (lower_run e c xs) ≡ length xs
length_lower_run e c [] = refl
length_lower_run e c (x ∷ xs) = by (length_lower_run e c xs) (x == e)
  where
    by : length (lower_run e c xs) ≡ length xs → (t : Bool) → length (cond t (c ∷ lower_run e c xs) (x ∷ xs)) ≡ suc (length xs)
    by below true = ap suc below
    by below false = refl

length_lowered : (xs : List ℕ) (c : ℕ) (rest : List Spot) → length (lowered xs c rest) ≡ length xs
length_lowered [] c rest = by (begins_with c rest)
  where
    by : (t : Bool) → length (cond t [] (lower c [])) ≡ 0
    by true = refl
    by false = refl
length_lowered (x ∷ xs) c rest = by (begins_with c rest) (nat_lt c x)
  where
    by : (t u : Bool) → length (cond t (x ∷ xs) (cond u (lower_run x c (x ∷ xs)) (x ∷ xs))) ≡ suc (length xs)
    by true u = refl
    by false true = length_lower_run x c (x ∷ xs)
    by false false = refl

stays_run : (e c : ℕ) (rest : List Spot) → stays (merge_run e c rest) ≡ stays rest
stays_run e c [] = refl
stays_run e c (s ∷ rest) = by (stays_run e c rest) (s.1 == e)
  where
    by : stays (merge_run e c rest) ≡ stays rest → (t : Bool) → stays (cond t ((s.0, c) ∷ merge_run e c rest) (s ∷ rest)) ≡ cond s.0 (stays rest) (suc (stays rest))
    by below true = ap (λ n. cond s.0 n (suc n)) below
    by below false = refl

stays_of_raised : (xs : List ℕ) (c : ℕ) (rest : List Spot) → stays (raised xs c rest) ≡ stays rest
stays_of_raised (x ∷ xs) c rest = refl
stays_of_raised [] c [] = refl
stays_of_raised [] c (s ∷ rest) = by (nat_lt c s.1)
  where
    by : (t : Bool) → stays (cond t (merge_run s.1 c (s ∷ rest)) (s ∷ rest)) ≡ cond s.0 (stays rest) (suc (stays rest))
    by true = stays_run s.1 c (s ∷ rest)
    by false = refl

length_lefts : (n : ℕ) (xs : List ℕ) (rest : List Spot) → length rest ≡ n → length (lefts n xs rest) ≡ length xs + stays rest
length_lefts zero xs [] long = omega arith
length_lefts zero xs (s ∷ rest) long = absurd (omega (arith, long))
length_lefts (suc n) xs [] long = absurd (omega (arith, long))
length_lefts (suc n) xs ((false, c) ∷ rest) long =
    let next : length rest ≡ n = omega (arith, long) in
    let below : length (lefts n (c ∷ xs) rest) ≡ suc (length xs) + stays rest = length_lefts n (c ∷ xs) rest next in
    below ∙ omega arith
length_lefts (suc n) xs ((true, c) ∷ rest) long =
    let next : length rest ≡ n = omega (arith, long) in
    length_lefts n (lowered xs c rest) (raised xs c rest) (length_raised xs c rest ∙ next)
    ∙ (ap (λ k. k + stays (raised xs c rest)) (length_lowered xs c rest) ∙ ap (λ k. length xs + k) (stays_of_raised xs c rest))

pub length_left : (gs : Glyphs) → length (left_of gs) ≡ stays (spots gs)
length_left gs = length_lefts (length gs) [] (spots gs) (length-map gs spot) ∙ zero_more (stays (spots gs))
  where
    zero_more : (n : ℕ) → 0 + n ≡ n
    zero_more n = omega arith

length_kept : (gs : Glyphs) (qs : Positions) → length qs ≡ length gs → length (kept_looks gs qs) ≡ stays (spots gs)
length_kept [] qs long = refl
length_kept (g ∷ gs) [] long = absurd (omega (arith, long))
length_kept (g ∷ gs) (q ∷ qs) long = by (length_kept gs qs (omega (arith, long))) (is_deleted g)
  where
    by : length (kept_looks gs qs) ≡ stays (spots gs) → (t : Bool)
        → length (cond t (kept_looks gs qs) (look g q ∷ kept_looks gs qs)) ≡ cond t (stays (spots gs)) (suc (stays (spots gs)))
    by below true = below
    by below false = ap suc below

length_with_clusters : (cs : List ℕ) (hs : List ShapedGlyph) → length cs ≡ length hs → length (with_clusters cs hs) ≡ length hs
length_with_clusters [] hs long = long
length_with_clusters (c ∷ cs) [] long = refl
length_with_clusters (c ∷ cs) (h ∷ hs) long = ap suc (length_with_clusters cs hs (omega (arith, long)))

-- as many as stay
as_long : (gs : Glyphs) (qs : Positions) → length qs ≡ length gs → length (reverse (left_of gs)) ≡ length (kept_looks gs qs)
as_long gs qs long = length-reverse (left_of gs) ∙ (length_left gs ∙ sym (length_kept gs qs long))

pub length_looks : (gs : Glyphs) (qs : Positions) → length qs ≡ length gs → length (line_looks gs qs) ≡ stays (spots gs)
length_looks gs qs long = length_with_clusters (reverse (left_of gs)) (kept_looks gs qs) (as_long gs qs long) ∙ length_kept gs qs long

clusters_are : (cs : List ℕ) (hs : List ShapedGlyph) → length cs ≡ length hs → map (λ (h : ShapedGlyph). h.cluster) (with_clusters cs hs) ≡ cs
clusters_are [] hs long = refl
clusters_are (c ∷ cs) [] long = absurd (omega (arith, long))
clusters_are (c ∷ cs) (h ∷ hs) long = ap (λ zs. c ∷ zs) (clusters_are cs hs (omega (arith, long)))

-- the clusters along what is drawn
pub clusters_of_looks : (gs : Glyphs) (qs : Positions) → length qs ≡ length gs → map (λ (h : ShapedGlyph). h.cluster) (line_looks gs qs) ≡ reverse (left_of gs)
clusters_of_looks gs qs long = clusters_are (reverse (left_of gs)) (kept_looks gs qs) (as_long gs qs long)

with_clusters_split : (cs ds : List ℕ) (hs ks : List ShapedGlyph) → length cs ≡ length hs → with_clusters (cs ++ ds) (hs ++ ks) ≡ with_clusters cs hs ++ with_clusters ds ks
with_clusters_split [] ds [] ks long = refl
with_clusters_split [] ds (h ∷ hs) ks long = absurd (omega (arith, long))
with_clusters_split (c ∷ cs) ds [] ks long = absurd (omega (arith, long))
with_clusters_split (c ∷ cs) ds (h ∷ hs) ks long = ap (λ zs. record h { cluster = c } ∷ zs) (with_clusters_split cs ds hs ks (omega (arith, long)))

kept_split : (gs hs : Glyphs) (ps qs : Positions) → length ps ≡ length gs → kept_looks (gs ++ hs) (ps ++ qs) ≡ kept_looks gs ps ++ kept_looks hs qs
kept_split [] hs [] qs long = refl
kept_split [] hs (p ∷ ps) qs long = absurd (omega (arith, long))
kept_split (g ∷ gs) hs [] qs long = absurd (omega (arith, long))
kept_split (g ∷ gs) hs (p ∷ ps) qs long = by (kept_split gs hs ps qs (omega (arith, long))) (is_deleted g)
  where
    by : kept_looks (gs ++ hs) (ps ++ qs) ≡ kept_looks gs ps ++ kept_looks hs qs → (t : Bool)
        → cond t (kept_looks (gs ++ hs) (ps ++ qs)) (look g p ∷ kept_looks (gs ++ hs) (ps ++ qs)) ≡ cond t (kept_looks gs ps) (look g p ∷ kept_looks gs ps) ++ kept_looks hs qs
    by below true = below
    by below false = ap (λ zs. look g p ∷ zs) below

-- All in front pass a test, and none from a glyph on; the first of those that stays has its cluster, and so have those
-- before.
pub record IsCut (p : ℕ → Bool) (xs : Glyphs) (y : hb_glyph_info_t) (ys : Glyphs) : Type 0 where
  pub front : AllRest p (spots xs)
  pub back : AllRest (λ x. not (p x)) (spots (y ∷ ys))
  pub kept : BeginsKept y.cluster (spots (y ∷ ys))
  pub some : some_stays (spots xs) ≡ true

fails : (t : Bool) → not t ≡ true → t ≡ false
fails true e = sym e
fails false e = refl

all_front_fails : (p : ℕ → Bool) (xs : List ℕ) → AllFront p xs → front_without (λ x. not (p x)) xs
all_front_fails p [] all = tt
all_front_fails p (x ∷ xs) all = ap not all.0

module _ (p : ℕ → Bool) (xs : Glyphs) (y : hb_glyph_info_t) (ys : Glyphs) (cut : IsCut p xs y ys) where
  abbrev left : List ℕ
  left = left_of xs

  front_passes : AllFront p left
  front_passes = all_lefts p (length xs) [] (spots xs) tt cut.front

  -- what is left from the first glyph on that stays
  abbrev opens : Begun y.cluster (suc (length ys)) (spots (y ∷ ys))
  opens = begun y.cluster (suc (length ys)) (spots (y ∷ ys)) (length-map (y ∷ ys) spot) cut.kept

  pub left_splits : left_of (xs ++ y ∷ ys) ≡ left_of (y ∷ ys) ++ left
  left_splits =
      let n = length xs in
      let m = length ys in
      ap (λ k. lefts k [] (spots (xs ++ y ∷ ys))) (length-append xs (y ∷ ys))
      ∙ (ap (λ ss. lefts (n + suc m) [] ss) (map-append spot xs (y ∷ ys))
      ∙ (lefts_first p n (suc m) [] (spots xs) (spots (y ∷ ys)) (length-map xs spot) tt cut.front (fails (p y.cluster) cut.back.0) cut.some
      ∙ (opens.same left
      ∙ (lefts_second (λ x. not (p x)) opens.count (y.cluster ∷ []) left opens.behind refl (cut.back.0, tt)
      (opens.all (λ x. not (p x)) cut.back) (all_front_fails p left front_passes)
      ∙ sym (ap (λ zs. zs ++ left) (opens.same []))))))

  pub looks_split :
      (ps qs : Positions) → length ps ≡ length xs
      → line_looks (xs ++ y ∷ ys) (ps ++ qs) ≡ line_looks xs ps ++ line_looks (y ∷ ys) qs
  looks_split ps qs long =
      ap (λ cs. with_clusters (reverse cs) (kept_looks (xs ++ y ∷ ys) (ps ++ qs))) left_splits
      ∙ (ap (λ hs. with_clusters (reverse (left_of (y ∷ ys) ++ left)) hs) (kept_split xs (y ∷ ys) ps qs long)
      ∙ (ap (λ cs. with_clusters cs (kept_looks xs ps ++ kept_looks (y ∷ ys) qs)) (reverse-append (left_of (y ∷ ys)) left)
      ∙ with_clusters_split (reverse left) (reverse (left_of (y ∷ ys))) (kept_looks xs ps) (kept_looks (y ∷ ys) qs) (as_long xs ps long)))

  all_head : (zs : List ℕ) → is_filled zs ≡ true → AllFront p zs → p (head_of zs) ≡ true
  all_head [] filled all = absurd (true≢false (sym filled))
  all_head (z ∷ zs) filled all = all.0

  all_last : (q : ℕ → Bool) (d : ℕ) (zs : List ℕ) → q d ≡ true → AllFront q zs → q (last_of d zs) ≡ true
  all_last q d [] is all = is
  all_last q d (z ∷ zs) is all = all_last q z zs all.0 all.1

  all_ends : (q : ℕ → Bool) (zs : List ℕ) → is_filled zs ≡ true → AllFront q zs → q (last_of 0 zs) ≡ true
  all_ends q [] filled all = absurd (true≢false (sym filled))
  all_ends q (z ∷ zs) filled all = all_last q z zs all.0 all.1

  filled_by_length : (zs : List ℕ) → 0 < length zs → is_filled zs ≡ true
  filled_by_length [] some = absurd (omega (arith, some))
  filled_by_length (z ∷ zs) some = refl

  some_is : (ss : List Spot) → some_stays ss ≡ true → 0 < stays ss
  some_is [] e = absurd (true≢false (sym e))
  some_is ((true, c) ∷ ss) e = some_is ss e
  some_is ((false, c) ∷ ss) e = omega arith

  pub left_some : 0 < length left
  left_some = let some : 0 < stays (spots xs) = some_is (spots xs) cut.some in omega (arith, some, length_left xs)

  pub right_some : 0 < length (left_of (y ∷ ys))
  right_some =
      let some : 0 < stays (spots (y ∷ ys)) = some_is (spots (y ∷ ys)) (stays_begun y.cluster (spots (y ∷ ys)) cut.kept) in
      omega (arith, some, length_left (y ∷ ys))

  -- the last cluster of the front
  pub last_passes : p (head_of left) ≡ true
  last_passes = all_head left (filled_by_length left left_some) front_passes

  pub last_below : (l : ℕ) → last_from 0 (spots xs) ≤ l → head_of left ≤ l
  last_below l low = by (length xs) refl
    where
      by : (n : ℕ) → length xs ≡ n → head_of left ≤ l
      by zero none = absurd (let long : length left ≡ stays (spots xs) = length_left xs in nothing xs none cut.some)
        where
          nothing : (gs : Glyphs) → length gs ≡ 0 → some_stays (spots gs) ≡ true → ⊥
          nothing [] e some = true≢false (sym some)
          nothing (g ∷ gs) e some = omega (arith, e)
      by (suc n) long =
          let low' : head_of (lefts (suc n) [] (spots xs)) ≤ l = last_is_low n l [] (spots xs) (length-map xs spot ∙ long) low cut.some in
          let same : head_of left ≡ head_of (lefts (suc n) [] (spots xs)) = ap (λ k. head_of (lefts k [] (spots xs))) long in
          omega (arith, low', same)

  -- the first one behind it
  pub first_fails : p (last_of 0 (left_of (y ∷ ys))) ≡ false
  first_fails =
      fails (p (last_of 0 (left_of (y ∷ ys))))
      (all_ends (λ x. not (p x)) (left_of (y ∷ ys)) (filled_by_length (left_of (y ∷ ys)) right_some)
      (all_lefts (λ x. not (p x)) (length (y ∷ ys)) [] (spots (y ∷ ys)) tt cut.back))

  pub first_below : last_of 0 (left_of (y ∷ ys)) ≤ y.cluster
  first_below =
      let low : last_of 0 (lefts opens.count (y.cluster ∷ []) opens.behind) ≤ y.cluster = first_is_low opens.count y.cluster opens.behind in
      let same : last_of 0 (left_of (y ∷ ys)) ≡ last_of 0 (lefts opens.count (y.cluster ∷ []) opens.behind) = ap (last_of 0) (opens.same []) in
      omega (arith, low, same)

-- the first of some numbers, the other way round
first_reversed : (xs : List ℕ) → get_or (reverse xs) 0 0 ≡ last_of 0 xs
first_reversed [] = refl
first_reversed (x ∷ xs) = ap (λ zs. get_or zs 0 0) (reverse_onto xs x []) ∙ by xs (first_reversed xs)
  where
    by : (zs : List ℕ) → get_or (reverse zs) 0 0 ≡ last_of 0 zs → get_or (reverse zs ++ x ∷ []) 0 0 ≡ last_of x zs
    by [] e = refl
    by (z ∷ zs) e =
        let long : 0 < length (reverse (z ∷ zs)) = omega (arith, length-reverse (z ∷ zs)) in
        get_or_append_left (reverse (z ∷ zs)) (x ∷ []) 0 0 long ∙ e

-- where two lists meet that are turned round
pub meets_behind : (xs ys : List ℕ) → get_or (reverse (ys ++ xs)) (length xs) 0 ≡ last_of 0 ys
meets_behind xs ys =
    let none : length xs ≡ length (reverse xs) + 0 = omega (arith, length-reverse xs) in
    ap (λ zs. get_or zs (length xs) 0) (reverse-append ys xs)
    ∙ (ap (λ n. get_or (reverse xs ++ reverse ys) n 0) none
    ∙ (get_or-append-add (reverse xs) (reverse ys) 0 0 ∙ first_reversed ys))

pub meets_before : (xs ys : List ℕ) → 0 < length xs → get_or (reverse (ys ++ xs)) (length xs - 1) 0 ≡ head_of xs
meets_before [] ys some = absurd (omega (arith, some))
meets_before (x ∷ xs) ys some =
    let long : length (reverse xs) ≡ suc (length xs) - 1 = omega (arith, length-reverse xs) in
    ap (λ zs. get_or zs (suc (length xs) - 1) 0) (reverse-append ys (x ∷ xs))
    ∙ (ap (λ zs. get_or (zs ++ reverse ys) (suc (length xs) - 1) 0) (reverse_onto xs x [])
    ∙ (ap (λ zs. get_or zs (suc (length xs) - 1) 0) (append_assoc (reverse xs) (x ∷ []) (reverse ys))
    ∙ get_or_at (reverse xs) x (reverse ys) 0 (suc (length xs) - 1) long))
