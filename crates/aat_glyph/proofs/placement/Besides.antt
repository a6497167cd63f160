-- A glyph beside its parent is drawn there.
use Rattle.std.proofs.Common.{◌≡◌, ◌∙◌, ℕ, ◌<◌, refl, sym, ap, true, false, Bool, cond, List, length, arith, get_or, map}
use Rattle.std.specs.Prelude.{ℤ, pos, ◌+ℤ◌, Option, None, Some}
use Rattle.std.specs.List.{range_with_len}
use Rattle.std.proofs.lemmas.List.FromFn.{get_or-map-range_with_len}
use Rattle.aat_glyph.specs.declared.glyph.Direction.{Direction}
use Rattle.aat_glyph.specs.declared.glyph.Direction.TheVariants.{LeftToRight, RightToLeft, TopToBottom, BottomToTop}
use Rattle.aat_glyph.specs.declared.glyph.GlyphPosition.{GlyphPosition}
use Rattle.aat_glyph.specs.declared.placement.pens.Pen.{Pen}
use Rattle.aat_glyph.specs.placement.Attachments.{Coordinate, X, Y, at, drawn, drawn_chain, drawn_offset, earlier, is_across, is_mark, minus, offset, parent, pen, plus}
use Rattle.aat_glyph.specs.placement.inside.Beside.{beside, joined_to, marked_beside}
use Rattle.aat_glyph.specs.placement.inside.Pens.{no_pen, pen_at}
use Rattle.aat_glyph.proofs.placement.AttachmentLawsHold.{drawn_alone, drawn_behind, follows_across, mark_follows, mark_share, stays_alone}
use Rattle.aat_glyph.proofs.placement.Descents.{parent_before}

-- positions with alike offsets are alike
pub alike : (q : GlyphPosition) (x x' y y' : ℤ) → x ≡ x' → y ≡ y'
    → record q { x_offset = x; y_offset = y } ≡ record q { x_offset = x'; y_offset = y' }
alike q x x' y y' e f =
    ap (λ v. record q { x_offset = v; y_offset = y }) e ∙ ap (λ v. record q { x_offset = x'; y_offset = v }) f

module _ (d : Direction) (qs : List GlyphPosition) (i p : ℕ) (e : parent d qs i ≡ Some p) where
  -- a mark
  pub marked_is_drawn : is_mark (at qs i) ≡ true
      → marked_beside (drawn d qs p) (pen_at qs p) (at qs i) (pen_at qs i) ≡ drawn d qs i
  marked_is_drawn mark = sym (alike (at qs i) _ _ _ _ (by X) (by Y))
    where
      by : (c : Coordinate) → drawn_offset c d qs i ≡ plus (drawn_offset c d qs p) (minus (plus (offset c (at qs i)) (pen c qs p)) (pen c qs i))
      by c = drawn_behind c d qs i p (mark_follows c d qs i mark ∙ e) ∙ ap (plus (drawn_offset c d qs p)) (mark_share c qs i p true mark)

  -- another glyph across the line
  across : (c : Coordinate) → is_mark (at qs i) ≡ false → is_across c d ≡ true
      → drawn_offset c d qs i ≡ plus (drawn_offset c d qs p) (offset c (at qs i))
  across c other is =
      drawn_behind c d qs i p (follows_across c d qs i true other is ∙ e)
      ∙ ap (plus (drawn_offset c d qs p)) (mark_share c qs i p false other)

  -- along the line
  along : (c : Coordinate) → is_mark (at qs i) ≡ false → is_across c d ≡ false → drawn_offset c d qs i ≡ offset c (at qs i)
  along c other is = drawn_alone c d qs i (follows_across c d qs i false other is)

-- another glyph
pub joined_is_drawn : (d : Direction) (qs : List GlyphPosition) (i p : ℕ) → parent d qs i ≡ Some p
    → is_mark (at qs i) ≡ false → joined_to d (drawn d qs p) (at qs i) ≡ drawn d qs i
joined_is_drawn LeftToRight qs i p e other =
    sym (alike (at qs i) _ _ _ _ (along LeftToRight qs i p e X other refl) (across LeftToRight qs i p e Y other refl))
joined_is_drawn RightToLeft qs i p e other =
    sym (alike (at qs i) _ _ _ _ (along RightToLeft qs i p e X other refl) (across RightToLeft qs i p e Y other refl))
joined_is_drawn TopToBottom qs i p e other =
    sym (alike (at qs i) _ _ _ _ (across TopToBottom qs i p e X other refl) (along TopToBottom qs i p e Y other refl))
joined_is_drawn BottomToTop qs i p e other =
    sym (alike (at qs i) _ _ _ _ (across BottomToTop qs i p e X other refl) (along BottomToTop qs i p e Y other refl))

-- the pen at a place of the line
pub pen_there : (qs : List GlyphPosition) (pens : List Pen) (i : ℕ)
    → pens ≡ map (pen_at qs) (range_with_len 0 (length qs)) → i < length qs → get_or pens i no_pen ≡ pen_at qs i
pen_there qs pens i are lt =
    ap (λ ps. get_or ps i no_pen) are ∙ get_or-map-range_with_len (pen_at qs) 0 (length qs) i i no_pen lt (omega arith)

-- where the glyphs before place i are drawn, and the one at i is as it was, that one beside its parent is drawn
pub beside_is_drawn :
    (d : Direction) (qs ps : List GlyphPosition) (pens : List Pen) (i : ℕ) → i < length qs
    → pens ≡ map (pen_at qs) (range_with_len 0 (length qs)) → ((k : ℕ) → k < i → at ps k ≡ drawn d qs k)
    → at ps i ≡ at qs i → beside d pens ps i (parent d ps i) ≡ drawn d qs i
beside_is_drawn d qs ps pens i lt are before here =
    ap (λ q. beside d pens ps i (earlier i (pos i +ℤ drawn_chain d q))) here ∙ by (parent d qs i) refl
  where
    mark_or_not : (p : ℕ) → parent d qs i ≡ Some p → (t : Bool) → is_mark (at qs i) ≡ t
        → cond t (marked_beside (drawn d qs p) (pen_at qs p) (at qs i) (pen_at qs i)) (joined_to d (drawn d qs p) (at qs i))
        ≡ drawn d qs i
    mark_or_not p e true is = marked_is_drawn d qs i p e is
    mark_or_not p e false is = joined_is_drawn d qs i p e is

    by : (o : Option ℕ) → parent d qs i ≡ o → beside d pens ps i o ≡ drawn d qs i
    by None e = here ∙ sym (stays_alone d qs i e)
    by (Some p) e =
        let less : p < i = parent_before d qs i p e in
        let there : get_or pens p no_pen ≡ pen_at qs p = pen_there qs pens p are (omega arith) in
        let own : get_or pens i no_pen ≡ pen_at qs i = pen_there qs pens i are lt in
        ap (λ q. cond (is_mark q) (marked_beside (at ps p) (get_or pens p no_pen) q (get_or pens i no_pen)) (joined_to d (at ps p) q)) here
        ∙ (ap (λ f. cond (is_mark (at qs i)) (marked_beside f (get_or pens p no_pen) (at qs i) (get_or pens i no_pen)) (joined_to d f (at qs i))) (before p less)
        ∙ (ap (λ n. cond (is_mark (at qs i)) (marked_beside (drawn d qs p) n (at qs i) (get_or pens i no_pen)) (joined_to d (drawn d qs p) (at qs i))) there
        ∙ (ap (λ n. cond (is_mark (at qs i)) (marked_beside (drawn d qs p) (pen_at qs p) (at qs i) n) (joined_to d (drawn d qs p) (at qs i))) own
        ∙ mark_or_not p e (is_mark (at qs i)) refl)))
