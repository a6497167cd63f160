-- Plain glyphs in rows are drawn as they are, where the font has a space, or they are attached among one another.
use Rattle.std.proofs.Common.{◌≡◌, ◌∙◌, ap, refl, sym, true≢false, true, Bool, ◌&&◌, List, [], ◌∷◌, length, Option, Some, None}
use Rattle.std.specs.List.{list_all}
use Rattle.std.specs.Prelude.{option_map, is_some, ◌||◌}
use Rattle.std.proofs.lemmas.Bool.{and_parts, and_from}
use Rattle.aat_face.specs.Faces.{FaceValue}
use Rattle.aat_glyph.specs.Directions.{is_horizontal}
use Rattle.aat_glyph.specs.declared.glyph.Direction.{Direction}
use Rattle.aat_glyph.specs.declared.glyph.Direction.TheVariants.{BottomToTop, LeftToRight, RightToLeft, TopToBottom}
use Rattle.aat_lookup.specs.declared.glyph_id.GlyphId.{GlyphId}
use Rattle.aat_shaped_text.specs.declared.text.ShapedGlyph.{ShapedGlyph}
use Rattle.aat_showing.specs.Columns.{in_columns}
use Rattle.aat_showing.specs.FaceMetrics.{mark_placing, space_metrics}
use Rattle.aat_showing.specs.HiddenParts.{asked, positioned, shown}
use Rattle.aat_showing.specs.Ignorables.{drawn_without_ignorables}
use Rattle.aat_showing.specs.MarkBoxes.{place_marks}
use Rattle.aat_showing.specs.Marks.{zero_marks}
use Rattle.aat_showing.specs.Spaces.{widen_spaces}
use Rattle.aat_showing.specs.facts.Plain.{is_plain, none_ignorable, unboxed, unwidened, unzeroed}
use Rattle.aat_typesetter.specs.Typeset.{columns_for}
use Rattle.aat_typesetter.specs.declared.showing.Shown.{Shown}
use Rattle.aat_typesetter.specs.inside.Drawn.{are_kept_plain, is_within, keeps_all}
use Rattle.aat_typesetter.specs.inside.Inside.{showing_by}
use Rattle.aat_typesetter.proofs.Unhidden.{unhidden}

-- what is asked changes nothing
unasked :
    {X : Type 0} (change : X → List ShapedGlyph → List ShapedGlyph) (gs : List ShapedGlyph) → ((x : X) → change x gs ≡ gs)
    → (o : Option X) → asked change o gs ≡ gs
unasked change gs same None = refl
unasked change gs same (Some x) = same x

in_rows : (face : FaceValue) (d : Direction) (gs : List ShapedGlyph) → is_horizontal d ≡ true → asked in_columns (columns_for face d) gs ≡ gs
in_rows face LeftToRight gs row = refl
in_rows face RightToLeft gs row = refl
in_rows face TopToBottom gs row = absurd (true≢false (sym row))
in_rows face BottomToTop gs row = absurd (true≢false (sym row))

in_places : (face : FaceValue) (s : Shown) (gs : List ShapedGlyph) → is_horizontal s.direction ≡ true → list_all is_plain gs ≡ true → positioned (showing_by face s) gs ≡ gs
in_places face s gs row plain =
    let boxes = option_map (mark_placing face s.direction) s.boxes in
    ap (λ (hs : List ShapedGlyph). asked place_marks boxes (asked zero_marks s.marks (widen_spaces (space_metrics face s.direction) hs)))
    (in_rows face s.direction gs row)
    ∙ (ap (λ (hs : List ShapedGlyph). asked place_marks boxes (asked zero_marks s.marks hs)) (unwidened (space_metrics face s.direction) gs plain)
    ∙ (ap (asked place_marks boxes) (unasked zero_marks gs (λ moves. unzeroed moves gs plain) s.marks)
    ∙ unasked place_marks gs (λ p. unboxed p gs plain) boxes))

shown_plainly :
    (face : FaceValue) (s : Shown) (gs : List ShapedGlyph) → is_horizontal s.direction ≡ true → list_all is_plain gs ≡ true
    → keeps_all s.space gs ≡ true → gs ≡ shown (showing_by face s) gs
shown_plainly face s gs row plain kept =
    sym
    (ap (drawn_without_ignorables s.direction s.space) (in_places face s gs row plain)
    ∙ unhidden s.direction s.space gs (none_ignorable gs plain) kept)

-- elements that do both each do the first, and each the second
firsts : {X : Type 0} (p q : X → Bool) (xs : List X) → list_all (λ x. p x && q x) xs ≡ true → list_all p xs ≡ true
firsts p q [] all = refl
firsts p q (x ∷ xs) all =
    let both = and_parts _ _ all in and_from _ _ (and_parts _ _ both.0).0 (firsts p q xs both.1)

seconds : {X : Type 0} (p q : X → Bool) (xs : List X) → list_all (λ x. p x && q x) xs ≡ true → list_all q xs ≡ true
seconds p q [] all = refl
seconds p q (x ∷ xs) all =
    let both = and_parts _ _ all in and_from _ _ (and_parts _ _ both.0).1 (seconds p q xs both.1)

kept_of :
    (space : Option GlyphId) (gs : List ShapedGlyph) → are_kept_plain space gs ≡ true → keeps_all space gs ≡ true
kept_of None gs all = seconds is_plain (λ g. is_within (length gs) g.attached_to) gs all
kept_of (Some s) gs all = refl

pub shown_as_they_are :
    (face : FaceValue) (s : Shown) (gs : List ShapedGlyph) → is_horizontal s.direction ≡ true → are_kept_plain s.space gs ≡ true
    → gs ≡ shown (showing_by face s) gs
shown_as_they_are face s gs row all =
    shown_plainly face s gs row (firsts is_plain (λ g. is_some s.space || is_within (length gs) g.attached_to) gs all) (kept_of s.space gs all)
