-- What pairs do to a list of positions, by itself, and what they do to its two parts.
use Rattle.std.proofs.Common.{◌≡◌, ℕ, zero, suc, ◌+◌, ◌<◌, Bool, true, false, cond, List, [], ◌∷◌, map, take, drop, set, get_or, ℤ, pos, Some, refl, sym, ap, ◌∙◌, arith}
use Rattle.std.specs.Prelude.{fold, ◌-ℤ◌}
use Rattle.std.specs.Ordering.{int_eq}
use Rattle.std.proofs.lemmas.List.{get_or-take, get_or-drop, take-set-le, drop-set-lt, drop-set-add}
use Rattle.aat_buffer.specs.Buffer.{Buffer, glyph_at, position_list, zero_position}
use Rattle.aat_buffer.specs.Marks.{unsafe_to_break}
use Rattle.aat_buffer.specs.facts.Cases.{either}
use Rattle.aat_glyph.specs.Directions.{is_horizontal}
use Rattle.aat_glyph.specs.declared.glyph.GlyphPosition.{GlyphPosition}
use Rattle.aat_glyph.specs.declared.glyph.hb_glyph_info_t.{hb_glyph_info_t}
use Rattle.aat_kerning_machines.specs.KerningLaws.{IsKernedFrom}
use Rattle.aat_kerning.specs.PairKerning.{kerned, half, in_stream, cross_stream, PairValues}
use Rattle.aat_kerning.specs.Pairs.{Pair}
use Rattle.aat_kerning_machines.specs.Positions.{with_advance, with_shift, with_cross_offset}
use Rattle.aat_kerning.proofs.Changes.{of_pair}
use Rattle.aat_kerning.proofs.CutPairs.{shifted, AllBefore}
use Rattle.aat_kerning.proofs.Marked.{marked_at}

-- one position of a list is changed
abbrev pub on_place : (GlyphPosition → GlyphPosition) → ℕ → List GlyphPosition → List GlyphPosition
on_place f i qs = set qs i (f (get_or qs i zero_position))

-- a pair of the value v moves the positions of its glyphs
abbrev pub moved_by : Bool → Bool → ℤ → Pair → List GlyphPosition → List GlyphPosition
moved_by is_cross h v p qs =
    cond is_cross (on_place (with_cross_offset h v) p.right qs)
    (on_place (λ q. with_shift h (v -ℤ half v) (with_advance h (v -ℤ half v) q)) p.right (on_place (with_advance h (half v)) p.left qs))

-- where it is not 0
abbrev pub moved_if : Bool → Bool → ℤ → Pair → List GlyphPosition → List GlyphPosition
moved_if is_cross h v p qs = cond (int_eq v (pos 0)) qs (moved_by is_cross h v p qs)

-- the value of a pair of a line
abbrev pub value_at : PairValues → List hb_glyph_info_t → Pair → ℤ
value_at values line p = values (glyph_at line p.left).glyph_id (glyph_at line p.right).glyph_id

-- what a pair of a line does to positions
abbrev pub moves : Bool → Bool → PairValues → List hb_glyph_info_t → Pair → List GlyphPosition → List GlyphPosition
moves is_cross h values line p qs = moved_if is_cross h (value_at values line p) p qs

-- a pair that is kerned does this to the positions of the buffer
kerned_moves :
    (is_cross : Bool) (values : PairValues) (p : Pair) (b : Buffer)
    → position_list (kerned is_cross values p b)
    ≡ moves is_cross (is_horizontal b.direction) values b.line p (position_list b)
unfolding kerned
kerned_moves is_cross values p b =
    let v = value_at values b.line p in
    by_tests (int_eq v (pos 0)) is_cross (cross_stream p v b) (in_stream p v b)
  where
    by_tests :
        (t c : Bool) (x y : Buffer)
        → position_list (cond t b (unsafe_to_break (cond c x y) (Some p.left) (Some (p.right + 1))))
        ≡ cond t (position_list b) (cond c (position_list x) (position_list y))
    by_tests true c x y = refl
    by_tests false true x y = refl
    by_tests false false x y = refl

-- two lines with the same glyph ids
abbrev pub SameIds : List hb_glyph_info_t → List hb_glyph_info_t → Type 0
SameIds gs hs = (i : ℕ) → (glyph_at hs i).glyph_id ≡ (glyph_at gs i).glyph_id

-- give a pair the same value
pub same_value :
    (values : PairValues) (gs hs : List hb_glyph_info_t) (p : Pair)
    → (glyph_at hs p.left).glyph_id ≡ (glyph_at gs p.left).glyph_id
    → (glyph_at hs p.right).glyph_id ≡ (glyph_at gs p.right).glyph_id → value_at values hs p ≡ value_at values gs p
same_value values gs hs p left right =
    ap (λ n. values n (glyph_at hs p.right).glyph_id) left
    ∙ ap (values (glyph_at gs p.left).glyph_id) right

-- also where one line begins so many places further on
pub value_further :
    (q : ℕ) (values : PairValues) (whole part : List hb_glyph_info_t)
    → ((i : ℕ) → (glyph_at part i).glyph_id ≡ (glyph_at whole (q + i)).glyph_id) → (p : Pair)
    → value_at values part p ≡ value_at values whole (shifted q p)
value_further q values whole part ids p =
    ap (λ n. values n (glyph_at part p.right).glyph_id) (ids p.left)
    ∙ ap (values (glyph_at whole (q + p.left)).glyph_id) (ids p.right)

-- what is kerned keeps its glyph ids
pub ids_kept : (b d : Buffer) → IsKernedFrom b d → SameIds b.line d.line
ids_kept b d k i = ap (λ (g : hb_glyph_info_t). g.glyph_id) (marked_at b.line d.line k.line i).2

-- so kerning by pairs does to the positions what the pairs of the line at first do
pub pairs_move :
    (is_cross : Bool) (values : PairValues) (line : List hb_glyph_info_t) (h : Bool) (ps : List Pair) (b : Buffer)
    → SameIds line b.line → is_horizontal b.direction ≡ h
    → position_list (fold (λ d p. kerned is_cross values p d) b ps)
    ≡ fold (λ qs p. moves is_cross h values line p qs) (position_list b) ps
pairs_move is_cross values line h [] b ids way = refl
pairs_move is_cross values line h (p ∷ ps) b ids way =
    let d = kerned is_cross values p b in
    let k = of_pair is_cross values p b in
    let rest =
    pairs_move is_cross values line h ps d (λ i. ids_kept b d k i ∙ ids i) (ap is_horizontal k.text.settings.direction ∙ way) in
    let here : position_list d ≡ moves is_cross h values line p (position_list b) =
    kerned_moves is_cross values p b
    ∙ (ap (λ w. moves is_cross w values b.line p (position_list b)) way
    ∙ ap (λ v. moved_if is_cross h v p (position_list b)) (same_value values line b.line p (ids p.left) (ids p.right))) in
    rest ∙ ap (λ qs. fold (λ qs p. moves is_cross h values line p qs) qs ps) here

-- a write to the front, and what it leaves behind
pub take_set : {X : Type 0} (n i : ℕ) (xs : List X) (x : X) → take n (set xs i x) ≡ set (take n xs) i x
take_set zero i xs x = refl
take_set (suc n) i [] x = refl
take_set (suc n) zero (y ∷ ys) x = refl
take_set (suc n) (suc i) (y ∷ ys) x = ap (λ zs. y ∷ zs) (take_set n i ys x)

module _ (q : ℕ) where
  front_on :
      (f : GlyphPosition → GlyphPosition) (i : ℕ) (qs : List GlyphPosition) → i < q
      → take q (on_place f i qs) ≡ on_place f i (take q qs)
  front_on f i qs low =
      take_set q i qs _ ∙ ap (λ x. set (take q qs) i (f x)) (sym (get_or-take q qs i zero_position low))

  front_off :
      (f : GlyphPosition → GlyphPosition) (i : ℕ) (qs : List GlyphPosition) → i < q → drop q (on_place f i qs) ≡ drop q qs
  front_off f i qs low = drop-set-lt q qs i _ low

  back_on :
      (f : GlyphPosition → GlyphPosition) (i : ℕ) (qs : List GlyphPosition)
      → drop q (on_place f (q + i) qs) ≡ on_place f i (drop q qs)
  back_on f i qs = drop-set-add q qs i _ ∙ ap (λ x. set (drop q qs) i (f x)) (sym (get_or-drop q qs i zero_position))

  back_off :
      (f : GlyphPosition → GlyphPosition) (i : ℕ) (qs : List GlyphPosition) → take q (on_place f (q + i) qs) ≡ take q qs
  back_off f i qs = take-set-le q qs (q + i) _ (omega arith)

  moved_front_on :
      (is_cross h : Bool) (v : ℤ) (p : Pair) (qs : List GlyphPosition) → p.left < q → p.right < q
      → take q (moved_by is_cross h v p qs) ≡ moved_by is_cross h v p (take q qs)
  moved_front_on true h v p qs low high = front_on (with_cross_offset h v) p.right qs high
  moved_front_on false h v p qs low high =
      let rest : GlyphPosition → GlyphPosition = λ q. with_shift h (v -ℤ half v) (with_advance h (v -ℤ half v) q) in
      front_on rest p.right (on_place (with_advance h (half v)) p.left qs) high
      ∙ ap (on_place rest p.right) (front_on (with_advance h (half v)) p.left qs low)

  moved_front_off :
      (is_cross h : Bool) (v : ℤ) (p : Pair) (qs : List GlyphPosition) → p.left < q → p.right < q
      → drop q (moved_by is_cross h v p qs) ≡ drop q qs
  moved_front_off true h v p qs low high = front_off (with_cross_offset h v) p.right qs high
  moved_front_off false h v p qs low high =
      let rest : GlyphPosition → GlyphPosition = λ q. with_shift h (v -ℤ half v) (with_advance h (v -ℤ half v) q) in
      front_off rest p.right (on_place (with_advance h (half v)) p.left qs) high
      ∙ front_off (with_advance h (half v)) p.left qs low

  moved_back_on :
      (is_cross h : Bool) (v : ℤ) (p : Pair) (qs : List GlyphPosition)
      → drop q (moved_by is_cross h v (shifted q p) qs) ≡ moved_by is_cross h v p (drop q qs)
  moved_back_on true h v p qs = back_on (with_cross_offset h v) p.right qs
  moved_back_on false h v p qs =
      let rest : GlyphPosition → GlyphPosition = λ q. with_shift h (v -ℤ half v) (with_advance h (v -ℤ half v) q) in
      back_on rest p.right (on_place (with_advance h (half v)) (q + p.left) qs)
      ∙ ap (on_place rest p.right) (back_on (with_advance h (half v)) p.left qs)

  moved_back_off :
      (is_cross h : Bool) (v : ℤ) (p : Pair) (qs : List GlyphPosition)
      → take q (moved_by is_cross h v (shifted q p) qs) ≡ take q qs
  moved_back_off true h v p qs = back_off (with_cross_offset h v) p.right qs
  moved_back_off false h v p qs =
      let rest : GlyphPosition → GlyphPosition = λ q. with_shift h (v -ℤ half v) (with_advance h (v -ℤ half v) q) in
      back_off rest p.right (on_place (with_advance h (half v)) (q + p.left) qs)
      ∙ back_off (with_advance h (half v)) p.left qs

-- the value 0 moves nothing
same_if :
    (t : Bool) (f : List GlyphPosition → List GlyphPosition) (qs : List GlyphPosition) (x y z : List GlyphPosition)
    → f x ≡ y → f qs ≡ z → f (cond t qs x) ≡ cond t z y
same_if true f qs x y z p o = o
same_if false f qs x y z p o = p

-- what a list's front and its rest become, where each step is one to the front or to the rest
module _ {X : Type 0} (q : ℕ) (whole part : Pair → List X → List X) where
  pub fold_front :
      ((p : Pair) (xs : List X) → p.left < q → p.right < q → take q (whole p xs) ≡ part p (take q xs))
      → (ps : List Pair) (xs : List X) → AllBefore q ps
      → take q (fold (λ xs p. whole p xs) xs ps) ≡ fold (λ xs p. part p xs) (take q xs) ps
  fold_front law [] xs before = refl
  fold_front law (p ∷ ps) xs before =
      fold_front law ps (whole p xs) before.1
      ∙ ap (λ ys. fold (λ xs p. part p xs) ys ps) (law p xs before.0.0 before.0.1)

  pub fold_rest :
      ((p : Pair) (xs : List X) → drop q (whole (shifted q p) xs) ≡ part p (drop q xs))
      → (ps : List Pair) (xs : List X)
      → drop q (fold (λ xs p. whole p xs) xs (map (shifted q) ps)) ≡ fold (λ xs p. part p xs) (drop q xs) ps
  fold_rest law [] xs = refl
  fold_rest law (p ∷ ps) xs =
      fold_rest law ps (whole (shifted q p) xs) ∙ ap (λ ys. fold (λ xs p. part p xs) ys ps) (law p xs)

-- and what stays
module _ {X : Type 0} (q : ℕ) (whole : Pair → List X → List X) where
  pub fold_front_off :
      ((p : Pair) (xs : List X) → p.left < q → p.right < q → drop q (whole p xs) ≡ drop q xs)
      → (ps : List Pair) (xs : List X) → AllBefore q ps → drop q (fold (λ xs p. whole p xs) xs ps) ≡ drop q xs
  fold_front_off law [] xs before = refl
  fold_front_off law (p ∷ ps) xs before =
      fold_front_off law ps (whole p xs) before.1 ∙ law p xs before.0.0 before.0.1

  pub fold_rest_off :
      ((p : Pair) (xs : List X) → take q (whole (shifted q p) xs) ≡ take q xs)
      → (ps : List Pair) (xs : List X) → take q (fold (λ xs p. whole p xs) xs (map (shifted q) ps)) ≡ take q xs
  fold_rest_off law [] xs = refl
  fold_rest_off law (p ∷ ps) xs = fold_rest_off law ps (whole (shifted q p) xs) ∙ law p xs

-- the pairs of the whole line and those of a part, one by one
module _ (q : ℕ) (is_cross h : Bool) (values : PairValues) (whole : List hb_glyph_info_t) where
  pub front_moves :
      (first : List hb_glyph_info_t) → ((i : ℕ) → i < q → (glyph_at first i).glyph_id ≡ (glyph_at whole i).glyph_id)
      → (p : Pair) (qs : List GlyphPosition) → p.left < q → p.right < q
      → take q (moves is_cross h values whole p qs) ≡ moves is_cross h values first p (take q qs)
  front_moves first ids p qs low high =
      let v = value_at values whole p in
      let same = same_value values whole first p (ids p.left low) (ids p.right high) in
      same_if (int_eq v (pos 0)) (take q) qs (moved_by is_cross h v p qs) _ _ (moved_front_on q is_cross h v p qs low high) refl
      ∙ ap (λ v. moved_if is_cross h v p (take q qs)) (sym same)

  pub front_stays :
      (p : Pair) (qs : List GlyphPosition) → p.left < q → p.right < q
      → drop q (moves is_cross h values whole p qs) ≡ drop q qs
  front_stays p qs low high =
      let v = value_at values whole p in
      either (drop q) (int_eq v (pos 0)) qs (moved_by is_cross h v p qs) _ refl (moved_front_off q is_cross h v p qs low high)

  pub back_moves :
      (second : List hb_glyph_info_t) → ((i : ℕ) → (glyph_at second i).glyph_id ≡ (glyph_at whole (q + i)).glyph_id)
      → (p : Pair) (qs : List GlyphPosition)
      → drop q (moves is_cross h values whole (shifted q p) qs) ≡ moves is_cross h values second p (drop q qs)
  back_moves second ids p qs =
      let v = value_at values whole (shifted q p) in
      let same = value_further q values whole second ids p in
      same_if (int_eq v (pos 0)) (drop q) qs (moved_by is_cross h v (shifted q p) qs) _ _ (moved_back_on q is_cross h v p qs) refl
      ∙ ap (λ v. moved_if is_cross h v p (drop q qs)) (sym same)

  pub back_stays :
      (p : Pair) (qs : List GlyphPosition) → take q (moves is_cross h values whole (shifted q p) qs) ≡ take q qs
  back_stays p qs =
      let v = value_at values whole (shifted q p) in
      either (take q) (int_eq v (pos 0)) qs (moved_by is_cross h v (shifted q p) qs) _ refl (moved_back_off q is_cross h v p qs)
