-- The laws of attachments.
use Rattle.std.proofs.Common.{◌≡◌, ◌∙◌, ℕ, refl, sym, ap, true, false, Bool, cond, List, length}
use Rattle.std.specs.Prelude.{◌==◌, ◌||◌, None, Some}
use Rattle.std.specs.Option.{option_map_or}
use Rattle.std.proofs.lemmas.Bool.{eqb-true}
use Rattle.std.proofs.lemmas.List.FromFn.{fill_by_all}
use Rattle.aat_glyph.specs.declared.glyph.Direction.{Direction}
use Rattle.aat_glyph.specs.declared.glyph.GlyphPosition.{GlyphPosition}
use Rattle.aat_glyph.specs.placement.Attachments.{Coordinate, X, Y, at, drawn, drawn_offset, followed, is_across, is_cursive, is_mark, minus, no_position, offset, parent, pen, plus, share_behind}
use Rattle.aat_glyph.specs.placement.AttachmentLaws.{GlyphsFollowTheirParents, UnattachedLinesStay}
use Rattle.aat_glyph.proofs.placement.Descents.{drawn_offset_at}

-- a glyph that follows another one in a coordinate
pub drawn_behind :
    (c : Coordinate) (d : Direction) (qs : List GlyphPosition) (i p : ℕ) → followed c d qs i ≡ Some p
    → drawn_offset c d qs i ≡ plus (drawn_offset c d qs p) (share_behind c qs i (Some p))
drawn_behind c d qs i p e =
    drawn_offset_at c d qs i
    ∙ ap (λ o. option_map_or (λ p. plus (drawn_offset c d qs p) (share_behind c qs i (Some p))) o (offset c (at qs i))) e

-- one that follows none
pub drawn_alone :
    (c : Coordinate) (d : Direction) (qs : List GlyphPosition) (i : ℕ) → followed c d qs i ≡ None
    → drawn_offset c d qs i ≡ offset c (at qs i)
drawn_alone c d qs i e =
    drawn_offset_at c d qs i
    ∙ ap (λ o. option_map_or (λ p. plus (drawn_offset c d qs p) (share_behind c qs i (Some p))) o (offset c (at qs i))) e

-- who has no parent follows none
follows_none :
    (c : Coordinate) (d : Direction) (qs : List GlyphPosition) (i : ℕ) → parent d qs i ≡ None → followed c d qs i ≡ None
follows_none c d qs i e = by (is_mark (at qs i) || is_across c d)
  where
    by : (t : Bool) → cond t (parent d qs i) None ≡ None
    by true = e
    by false = refl

-- a mark follows its parent in both coordinates
pub mark_follows :
    (c : Coordinate) (d : Direction) (qs : List GlyphPosition) (i : ℕ) → is_mark (at qs i) ≡ true
    → followed c d qs i ≡ parent d qs i
mark_follows c d qs i mark = ap (λ t. cond (t || is_across c d) (parent d qs i) None) mark

-- a glyph that is no mark, across the line
pub follows_across :
    (c : Coordinate) (d : Direction) (qs : List GlyphPosition) (i : ℕ) (across : Bool) → is_mark (at qs i) ≡ false
    → is_across c d ≡ across → followed c d qs i ≡ cond across (parent d qs i) None
follows_across c d qs i across other is =
    ap (λ t. cond (t || is_across c d) (parent d qs i) None) other ∙ ap (λ t. cond t (parent d qs i) None) is

-- what a mark has of its own, and another glyph
pub mark_share :
    (c : Coordinate) (qs : List GlyphPosition) (i p : ℕ) (mark : Bool) → is_mark (at qs i) ≡ mark
    → share_behind c qs i (Some p)
    ≡ cond mark (minus (plus (offset c (at qs i)) (pen c qs p)) (pen c qs i)) (offset c (at qs i))
mark_share c qs i p mark e =
    ap (λ t. cond t (minus (plus (offset c (at qs i)) (pen c qs p)) (pen c qs i)) (offset c (at qs i))) e

-- a cursive glyph is no mark
cursive_no_mark : (q : GlyphPosition) → is_cursive q ≡ true → is_mark q ≡ false
cursive_no_mark q e = ap (λ n. n == 1) (eqb-true q.attach_type 2 e)

-- a glyph without a parent
pub stays_alone : (d : Direction) (qs : List GlyphPosition) (i : ℕ) → parent d qs i ≡ None → drawn d qs i ≡ at qs i
stays_alone d qs i e =
    ap (λ x. record (at qs i) { x_offset = x; y_offset = drawn_offset Y d qs i })
    (drawn_alone X d qs i (follows_none X d qs i e))
    ∙ ap (λ y. record (at qs i) { y_offset = y }) (drawn_alone Y d qs i (follows_none Y d qs i e))

pub glyphs_follow_their_parents : GlyphsFollowTheirParents
glyphs_follow_their_parents d qs i = record {
  alone = stays_alone d qs i;
  mark = λ c p e mark.
      drawn_behind c d qs i p (mark_follows c d qs i mark ∙ e)
      ∙ ap (plus (drawn_offset c d qs p)) (mark_share c qs i p true mark);
  across = λ c p e cursive across.
      let other = cursive_no_mark (at qs i) cursive in
      drawn_behind c d qs i p (follows_across c d qs i true other across ∙ e)
      ∙ ap (plus (drawn_offset c d qs p)) (mark_share c qs i p false other);
  along = λ c cursive along.
      drawn_alone c d qs i (follows_across c d qs i false (cursive_no_mark (at qs i) cursive) along);
}

pub unattached_lines_stay : UnattachedLinesStay
unattached_lines_stay d qs alone =
    sym (fill_by_all (drawn d qs) qs (length qs) no_position refl (λ k lt. sym (stays_alone d qs k (alone k lt))))
