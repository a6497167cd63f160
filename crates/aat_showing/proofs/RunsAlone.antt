-- Glyphs of which each begins a run, so that there is no mark to be placed.
use Rattle.std.proofs.Common.{◌≡◌, ◌∙◌, ap, ap₂, refl, sym, ◌&&◌, ◌==◌, Bool, true, false, not, List, [], ◌∷◌, reverse}
use Rattle.std.specs.List.{list_all, scan}
use Rattle.std.specs.Prelude.{if◌then◌else◌}
use Rattle.std.proofs.lemmas.Bool.{and_parts}
use Rattle.std.proofs.lemmas.Grind.{reverse_onto}
use Rattle.std.proofs.lemmas.List.{reverse-reverse}
use Rattle.std.proofs.lemmas.List.Folds.{list_all-append}
use Rattle.aat_glyph.specs.Directions.{is_backward}
use Rattle.aat_glyph.specs.declared.glyph.Direction.{Direction}
use Rattle.aat_shaped_text.specs.declared.text.CharacterKind.{CharacterKind}
use Rattle.aat_shaped_text.specs.declared.text.CharacterKind.TheVariants.{Mark, Other, Space}
use Rattle.aat_shaped_text.specs.declared.text.ShapedGlyph.{ShapedGlyph}
use Rattle.aat_showing.specs.MarkBoxes.{MarkPlacing, begins_run, class_of, held, held_runs, is_mark, next_base, place_marks, placed, placed_in_order, placed_marks, set_on}
use Rattle.aat_showing.specs.Marks.{zeroed_mark}
use Rattle.aat_showing.specs.declared.mark_bases.MarkBase.{MarkBase}
use Rattle.aat_showing.specs.declared.mark_bases.MarkBase.TheVariants.{Boxed, Missing, Unboxed}

head : (g : ShapedGlyph) (gs : List ShapedGlyph) → list_all begins_run (g ∷ gs) ≡ true → begins_run g ≡ true
head g gs h = (and_parts (begins_run g) (list_all begins_run gs) h).0

tail : (g : ShapedGlyph) (gs : List ShapedGlyph) → list_all begins_run (g ∷ gs) ≡ true → list_all begins_run gs ≡ true
tail g gs h = (and_parts (begins_run g) (list_all begins_run gs) h).1

no_class : (ignorable : Bool) (kind : CharacterKind) → (not ignorable && not (is_mark kind)) ≡ true → class_of kind ≡ 0
no_class ignorable Other h = refl
no_class ignorable (Space width) h = refl
no_class true (Mark class) h = cc
no_class false (Mark class) h = cc

reversed : (gs : List ShapedGlyph) → list_all begins_run gs ≡ true → list_all begins_run (reverse gs) ≡ true
reversed [] h = refl
reversed (g ∷ gs) h =
    rw (reverse_onto gs g [])
    (list_all-append begins_run (reverse gs) (g ∷ []) ∙ ap₂ (λ (a b : Bool). a && (b && true)) (reversed gs (tail g gs h)) (head g gs h))

unplaced : (p : MarkPlacing) (base : MarkBase) (g : ShapedGlyph) → begins_run g ≡ true → placed p base g ≡ g
unplaced p Missing g h = refl
unplaced p Unboxed g h = ap (λ (t : Bool). if t then g else zeroed_mark p.moves g) h
unplaced p (Boxed b) g h =
    ap (λ class. if class == 0 then g else set_on p.direction p.gap b class (p.box g.glyph_id) g) (no_class g.is_ignorable g.kind h)

in_order : (p : MarkPlacing) (base : MarkBase) (gs : List ShapedGlyph) → list_all begins_run gs ≡ true → scan (next_base p) (placed p) base gs ≡ gs
in_order p base [] h = refl
in_order p base (g ∷ gs) h =
    ap₂ (λ (x : ShapedGlyph) (xs : List ShapedGlyph). x ∷ xs) (unplaced p base g (head g gs h)) (in_order p (next_base p base g) gs (tail g gs h))

unmoved : (p : MarkPlacing) (gs : List ShapedGlyph) → list_all begins_run gs ≡ true → placed_marks p gs ≡ gs
unmoved p gs h = by (is_backward p.direction)
  where
    by : (b : Bool) → (if b then reverse (placed_in_order p (reverse gs)) else placed_in_order p gs) ≡ gs
    by true = ap reverse (in_order p Missing (reverse gs) (reversed gs h)) ∙ reverse-reverse gs
    by false = in_order p Missing gs h

free : (d : Direction) (b : Bool) (g : ShapedGlyph) → b ≡ true → begins_run g ≡ true → held d b g ≡ g
free d b g before here =
    ap₂ (λ (s t : Bool). record g { may_break_before = g.may_break_before && (if is_backward d then s else t) }) before here
    ∙ ap (λ (t : Bool). record g { may_break_before = t }) (by (is_backward d) g.may_break_before)
  where
    by : (s t : Bool) → (t && (if s then true else true)) ≡ t
    by true true = refl
    by true false = refl
    by false true = refl
    by false false = refl

unheld : (d : Direction) (b : Bool) (gs : List ShapedGlyph) → b ≡ true → list_all begins_run gs ≡ true → scan (λ s g. begins_run g) (held d) b gs ≡ gs
unheld d b [] before h = refl
unheld d b (g ∷ gs) before h =
    ap₂ (λ (x : ShapedGlyph) (xs : List ShapedGlyph). x ∷ xs) (free d b g before (head g gs h)) (unheld d (begins_run g) gs (head g gs h) (tail g gs h))

pub none_placed : (p : MarkPlacing) (gs : List ShapedGlyph) → true ≡ list_all begins_run gs → gs ≡ place_marks p gs
none_placed p gs e =
    let h : list_all begins_run gs ≡ true = sym e in
    sym (ap (held_runs p.direction) (unmoved p gs h) ∙ unheld p.direction true gs refl h)
