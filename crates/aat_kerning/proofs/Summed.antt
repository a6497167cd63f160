-- Kerning by pairs in the stream changes the sum of the advances by the sum of the values.
use Rattle.std.proofs.Common.{◌≡◌, ℕ, zero, suc, ◌-◌, ◌/◌, ◌<◌, Bool, true, false, List, [], ◌∷◌, length, set, get_or, ℤ, pos, negsuc, ◌+ℤ◌, ◌-ℤ◌, neg_ℤ, All, fold, FitsSigned, refl, sym, ap, ◌∙◌, arith, subst, length-set}
use Rattle.std.specs.Int.{int_wrap, w16, w32}
use Rattle.std.specs.Ordering.{int_eq}
use Rattle.std.proofs.lemmas.Bool.Decides.{Decides-int_eq}
use Rattle.std.proofs.lemmas.Int.{ints, wrapping_add_is, int_wrap-add_right, int_wrap-add_same, SFits-int_wrap}
use Rattle.std.proofs.lemmas.List.Elements.{All-set, All-get_or}
use Rattle.aat_buffer.specs.Buffer.{glyph_at, position_list, zero_position}
use Rattle.aat_buffer.specs.facts.Cases.{chosen, either}
use Rattle.aat_glyph.specs.Directions.{is_horizontal}
use Rattle.aat_glyph.specs.declared.glyph.GlyphPosition.{GlyphPosition}
use Rattle.aat_glyph.specs.declared.glyph.hb_glyph_info_t.{hb_glyph_info_t}
use Rattle.aat_kerning.specs.Advances.{advance, all_advances, all_values, PairsChangeTheAdvances, HaveSixteenBits}
use Rattle.aat_kerning.specs.PairKerning.{half, pair_kerning, PairValues}
use Rattle.aat_kerning.specs.Pairs.{Pair, pairs_of}
use Rattle.aat_kerning_machines.specs.Positions.{plus, with_advance, with_shift}
use Rattle.aat_kerning.proofs.CutMoves.{on_place, moved_by, moved_if, moves, value_at, pairs_move}
use Rattle.aat_kerning.proofs.CutPairs.{AllBefore, pairs_within}

swapped : (a x y : ℤ) → (a +ℤ x) +ℤ y ≡ (a +ℤ y) +ℤ x
swapped a x y = omega (arith, ints)

-- a sum that begins with something more
pub sum_from :
    {X : Type 0} (f : X → ℤ) (a x : ℤ) (xs : List X)
    → fold (λ s y. s +ℤ f y) (a +ℤ x) xs ≡ fold (λ s y. s +ℤ f y) a xs +ℤ x
sum_from f a x [] = refl
sum_from f a x (y ∷ ys) = ap (λ s. fold (λ s y. s +ℤ f y) s ys) (swapped a x (f y)) ∙ sum_from f (a +ℤ f y) x ys

module _ (h : Bool) where
  -- the advances from a on
  abbrev sum : ℤ → List GlyphPosition → ℤ
  sum a qs = fold (λ s q. s +ℤ advance h q) a qs

  -- another advance in a sum
  sum_of_set :
      (a : ℤ) (qs : List GlyphPosition) (i : ℕ) (q : GlyphPosition) → i < length qs
      → sum a (set qs i q) +ℤ advance h (get_or qs i zero_position) ≡ sum a qs +ℤ advance h q
  sum_of_set a [] i q low = absurd (omega (arith, low))
  sum_of_set a (x ∷ xs) zero q low =
      ap (λ s. s +ℤ advance h x) (sum_from (advance h) a (advance h q) xs)
      ∙ (swapped (sum a xs) (advance h q) (advance h x) ∙ ap (λ s. s +ℤ advance h q) (sym (sum_from (advance h) a (advance h x) xs)))
  sum_of_set a (x ∷ xs) (suc i) q low = sum_of_set (a +ℤ advance h x) xs i q (omega (arith, low))

  abbrev pub Fits : List GlyphPosition → Type 0
  Fits qs = All (λ q. FitsSigned w32 (advance h q)) qs

  -- a write that adds v to an advance
  module _ (f : GlyphPosition → GlyphPosition) (v : ℤ) (adds : (q : GlyphPosition) → advance h (f q) ≡ plus (advance h q) v) (small : FitsSigned w32 v) (i : ℕ) (qs : List GlyphPosition) (low : i < length qs) (fits : Fits qs) where
    wrapped : advance h (f (get_or qs i zero_position)) ≡ int_wrap w32 (advance h (get_or qs i zero_position) +ℤ v)
    wrapped =
        adds (get_or qs i zero_position)
        ∙ wrapping_add_is w32 (advance h (get_or qs i zero_position)) v
        (All-get_or (λ (q : GlyphPosition). FitsSigned w32 (advance h q)) qs i zero_position low fits) small

    sum_of_write : int_wrap w32 (all_advances h (on_place f i qs)) ≡ int_wrap w32 (all_advances h qs +ℤ v)
    sum_of_write =
        let x = advance h (get_or qs i zero_position) in
        let y = advance h (f (get_or qs i zero_position)) in
        let s = all_advances h qs in
        let moved : all_advances h (on_place f i qs) ≡ (s -ℤ x) +ℤ y = rest (all_advances h (on_place f i qs)) s x y (sum_of_set (pos 0) qs i (f (get_or qs i zero_position)) low) in
        ap (int_wrap w32) (moved ∙ ap (λ z. (s -ℤ x) +ℤ z) wrapped)
        ∙ (int_wrap-add_right w32 (s -ℤ x) (x +ℤ v) ∙ ap (int_wrap w32) (whole s x v))
      where
        rest : (t s x y : ℤ) → t +ℤ x ≡ s +ℤ y → t ≡ (s -ℤ x) +ℤ y
        rest t s x y e = omega (arith, ints, e)

        whole : (s x v : ℤ) → (s -ℤ x) +ℤ (x +ℤ v) ≡ s +ℤ v
        whole s x v = omega (arith, ints)

    fits_of_write : Fits (on_place f i qs)
    fits_of_write =
        All-set (λ (q : GlyphPosition). FitsSigned w32 (advance h q)) qs i (f (get_or qs i zero_position))
        (subst (FitsSigned w32) (sym wrapped) (SFits-int_wrap w32 (advance h (get_or qs i zero_position) +ℤ v))) fits

adds_advance : (h : Bool) (v : ℤ) (q : GlyphPosition) → advance h (with_advance h v q) ≡ plus (advance h q) v
adds_advance true v q = refl
adds_advance false v q = refl

adds_rest : (h : Bool) (v : ℤ) (q : GlyphPosition) → advance h (with_shift h v (with_advance h v q)) ≡ plus (advance h q) v
adds_rest true v q = refl
adds_rest false v q = refl

-- a value of 16 bits and its halves
half_fits : (v : ℤ) → FitsSigned w16 v → FitsSigned w32 (half v)
half_fits (pos n) f = let low = f.sfits in record { sfits = omega (arith, low) }
half_fits (negsuc n) f = let low = f.sfits in record { sfits = omega (arith, low) }

rest_fits : (v : ℤ) → FitsSigned w16 v → FitsSigned w32 (v -ℤ half v)
rest_fits (pos n) f =
    let low = f.sfits in
    let e : pos n -ℤ pos (n / 2) ≡ pos (n - n / 2) = omega (arith, ints) in
    let small : FitsSigned w32 (pos (n - n / 2)) = record { sfits = omega (arith, low) } in
    subst (FitsSigned w32) (sym e) small
rest_fits (negsuc n) f =
    let low = f.sfits in
    let e : negsuc n -ℤ negsuc (n / 2) ≡ neg_ℤ (pos (n - n / 2)) = omega (arith, ints) in
    subst (FitsSigned w32) (sym e) (negative (n - n / 2) (omega (arith, low)))
  where
    negative : (m : ℕ) → m < 32768 → FitsSigned w32 (neg_ℤ (pos m))
    negative zero low = record { sfits = omega arith }
    negative (suc m) low = record { sfits = omega (arith, low) }

-- a pair moves the sum by its value
module _ (h : Bool) where
  sum_of_moved :
      (v : ℤ) (p : Pair) (qs : List GlyphPosition) → FitsSigned w16 v → p.left < length qs → p.right < length qs → Fits h qs
      → (int_wrap w32 (all_advances h (moved_by false h v p qs)) ≡ int_wrap w32 (all_advances h qs +ℤ v)) × Fits h (moved_by false h v p qs)
  sum_of_moved v p qs small left right fits =
      let rest = v -ℤ half v in
      let f = with_advance h (half v) in
      let g : GlyphPosition → GlyphPosition = λ q. with_shift h rest (with_advance h rest q) in
      let ps = on_place f p.left qs in
      let one = sum_of_write h f (half v) (adds_advance h (half v)) (half_fits v small) p.left qs left fits in
      let fit = fits_of_write h f (half v) (adds_advance h (half v)) (half_fits v small) p.left qs left fits in
      let long : length ps ≡ length qs = length-set qs p.left (f (get_or qs p.left zero_position)) in
      let high : p.right < length ps = omega (arith, long, right) in
      let two = sum_of_write h g rest (adds_rest h rest) (rest_fits v small) p.right ps high fit in (
        two ∙ (int_wrap-add_same w32 (all_advances h ps) (all_advances h qs +ℤ half v) rest one ∙ ap (int_wrap w32) (both (all_advances h qs) v (half v))),
        fits_of_write h g rest (adds_rest h rest) (rest_fits v small) p.right ps high fit,
      )
    where
      both : (s v x : ℤ) → (s +ℤ x) +ℤ (v -ℤ x) ≡ s +ℤ v
      both s v x = omega (arith, ints)

  sum_of_pair :
      (v : ℤ) (p : Pair) (qs : List GlyphPosition) → FitsSigned w16 v → p.left < length qs → p.right < length qs → Fits h qs
      → (int_wrap w32 (all_advances h (moved_if false h v p qs)) ≡ int_wrap w32 (all_advances h qs +ℤ v)) × Fits h (moved_if false h v p qs)
  sum_of_pair v p qs small left right fits =
      chosen (λ (xs : List GlyphPosition). (int_wrap w32 (all_advances h xs) ≡ int_wrap w32 (all_advances h qs +ℤ v)) × Fits h xs)
      (int_eq v (pos 0)) qs (moved_by false h v p qs)
      (λ none. (ap (int_wrap w32) (more (all_advances h qs) v ((Decides-int_eq v (pos 0)).0 none)), fits))
      (λ _. sum_of_moved v p qs small left right fits)
    where
      more : (s v : ℤ) → v ≡ pos 0 → s ≡ s +ℤ v
      more s v e = omega (arith, ints, e)

length_of_moves :
    (h : Bool) (v : ℤ) (p : Pair) (qs : List GlyphPosition) → length (moved_if false h v p qs) ≡ length qs
length_of_moves h v p qs =
    let ps = on_place (with_advance h (half v)) p.left qs in
    either (λ (xs : List GlyphPosition). length xs) (int_eq v (pos 0)) qs (moved_by false h v p qs) (length qs) refl
    (length-set ps p.right _ ∙ length-set qs p.left _)

-- all pairs
pub sum_of_pairs :
    (h : Bool) (values : PairValues) (line : List hb_glyph_info_t) → HaveSixteenBits values
    → (ps : List Pair) (qs : List GlyphPosition) → AllBefore (length qs) ps → Fits h qs
    → int_wrap w32 (all_advances h (fold (λ qs p. moves false h values line p qs) qs ps))
    ≡ int_wrap w32 (all_advances h qs +ℤ all_values values line ps)
sum_of_pairs h values line small [] qs before fits = ap (int_wrap w32) (more (all_advances h qs))
  where
    more : (s : ℤ) → s ≡ s +ℤ pos 0
    more s = omega (arith, ints)
sum_of_pairs h values line small (p ∷ ps) qs before fits =
    let v = value_at values line p in
    let here = sum_of_pair h v p qs (small (glyph_at line p.left).glyph_id (glyph_at line p.right).glyph_id) before.0.0 before.0.1 fits in
    let next = moves false h values line p qs in
    let inside : AllBefore (length next) ps = subst (λ n. AllBefore n ps) (sym (length_of_moves h v p qs)) before.1 in
    let rest = sum_of_pairs h values line small ps next inside here.1 in
    let more : all_values values line (p ∷ ps) ≡ all_values values line ps +ℤ v =
    ap (λ s. fold (λ s p. s +ℤ value_at values line p) s ps) (none v) ∙ sum_from (value_at values line) (pos 0) v ps in
    rest
    ∙ (int_wrap-add_same w32 (all_advances h next) (all_advances h qs +ℤ v) (all_values values line ps) here.0
    ∙ ap (int_wrap w32) (turned (all_advances h qs) v (all_values values line ps) ∙ ap (λ s. all_advances h qs +ℤ s) (sym more)))
  where
    none : (v : ℤ) → pos 0 +ℤ v ≡ pos 0 +ℤ v
    none v = refl

    turned : (s v t : ℤ) → (s +ℤ v) +ℤ t ≡ s +ℤ (t +ℤ v)
    turned s v t = omega (arith, ints)

-- advances of 32 bits stay so
pub fits_of_pairs :
    (h : Bool) (values : PairValues) (line : List hb_glyph_info_t) → HaveSixteenBits values
    → (ps : List Pair) (qs : List GlyphPosition) → AllBefore (length qs) ps → Fits h qs
    → Fits h (fold (λ qs p. moves false h values line p qs) qs ps)
fits_of_pairs h values line small [] qs before fits = fits
fits_of_pairs h values line small (p ∷ ps) qs before fits =
    let v = value_at values line p in
    let here = sum_of_pair h v p qs (small (glyph_at line p.left).glyph_id (glyph_at line p.right).glyph_id) before.0.0 before.0.1 fits in
    let inside = subst (λ n. AllBefore n ps) (sym (length_of_moves h v p qs)) before.1 in
    fits_of_pairs h values line small ps (moves false h values line p qs) inside here.1

pub pairs_change_the_advances : PairsChangeTheAdvances
unfolding pair_kerning
pairs_change_the_advances skips kern_mask values b long fits small =
    let h = is_horizontal b.direction in
    let ps = pairs_of skips kern_mask b.line in
    let before : AllBefore (length (position_list b)) ps = pairs_within skips kern_mask (length (position_list b)) b.line (sym long) in
    ap (λ qs. int_wrap w32 (all_advances h qs)) (pairs_move false values b.line h ps b (λ i. refl) refl)
    ∙ sum_of_pairs h values b.line small ps (position_list b) before fits
