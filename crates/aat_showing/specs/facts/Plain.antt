-- Glyphs without marks and ignorable ones are drawn as they are.
use Rattle.std.proofs.Common.{◌≡◌, ◌∙◌, ap, ap₂, refl, sym, true≢false, ◌&&◌, ◌==◌, Bool, true, false, not, List, [], ◌∷◌, reverse, if◌then◌else◌}
use Rattle.std.specs.List.{list_all, list_any, scan}
use Rattle.std.proofs.lemmas.Bool.{and_parts}
use Rattle.std.proofs.lemmas.Grind.{reverse_onto}
use Rattle.std.proofs.lemmas.List.{reverse-reverse}
use Rattle.std.proofs.lemmas.List.Folds.{list_all-append}
use Rattle.aat_glyph.specs.Directions.{is_backward}
use Rattle.aat_glyph.specs.declared.glyph.Direction.{Direction}
use Rattle.aat_shaped_text.specs.declared.text.CharacterKind.{CharacterKind}
use Rattle.aat_shaped_text.specs.declared.text.CharacterKind.TheVariants.{Mark, Other, Space}
use Rattle.aat_shaped_text.specs.declared.text.ShapedGlyph.{ShapedGlyph}
use Rattle.aat_showing.specs.MarkBoxes.{MarkPlacing, begins_run, class_of, held, held_runs, is_mark, next_base, place_marks, placed, placed_in_order, placed_marks, set_on}
use Rattle.aat_showing.specs.Marks.{without_width, zero_marks, zeroed_mark}
use Rattle.aat_showing.specs.Spaces.{SpaceMetrics, widen_spaces, widened}
use Rattle.aat_showing.specs.declared.mark_bases.MarkBase.{MarkBase}
use Rattle.aat_showing.specs.declared.mark_bases.MarkBase.TheVariants.{Boxed, Missing, Unboxed}

-- neither a mark nor a space that the font lacks
abbrev pub is_other : CharacterKind → Bool
is_other Other = true
is_other _ = false

-- a glyph is neither ignorable nor a mark, and its character neither a mark nor a space that the font lacks
abbrev pub is_plain : ShapedGlyph → Bool
is_plain g = not g.is_ignorable && not g.is_mark && is_other g.kind

-- what a plain glyph is
record Plainness (g : ShapedGlyph) : Type 0 where
  seen : g.is_ignorable ≡ false
  unmarked : g.is_mark ≡ false
  kind : g.kind ≡ Other

no : (b : Bool) → not b ≡ true → b ≡ false
no false h = refl
no true h = sym h

other : (k : CharacterKind) → is_other k ≡ true → k ≡ Other
other Other h = refl
other (Space width) h = absurd (true≢false (sym h))
other (Mark class) h = absurd (true≢false (sym h))

plainness : (g : ShapedGlyph) → is_plain g ≡ true → Plainness g
plainness g plain =
    let first = and_parts (not g.is_ignorable && not g.is_mark) (is_other g.kind) plain in
    let second = and_parts (not g.is_ignorable) (not g.is_mark) first.0 in
    record { seen = no g.is_ignorable second.0; unmarked = no g.is_mark second.1; kind = other g.kind first.1 }

-- a plain glyph with plain ones behind it
head : (g : ShapedGlyph) (gs : List ShapedGlyph) → list_all is_plain (g ∷ gs) ≡ true → Plainness g
head g gs plain = plainness g (and_parts (is_plain g) (list_all is_plain gs) plain).0

tail : (g : ShapedGlyph) (gs : List ShapedGlyph) → list_all is_plain (g ∷ gs) ≡ true → list_all is_plain gs ≡ true
tail g gs plain = (and_parts (is_plain g) (list_all is_plain gs) plain).1

pub unwidened : (m : SpaceMetrics) (gs : List ShapedGlyph) → list_all is_plain gs ≡ true → widen_spaces m gs ≡ gs
unwidened m [] plain = refl
unwidened m (g ∷ gs) plain =
    ap₂ (λ (h : ShapedGlyph) (hs : List ShapedGlyph). h ∷ hs) (ap (λ (k : CharacterKind). widened m k g) (head g gs plain).kind)
    (unwidened m gs (tail g gs plain))

pub unzeroed : (moves : Bool) (gs : List ShapedGlyph) → list_all is_plain gs ≡ true → zero_marks moves gs ≡ gs
unzeroed moves [] plain = refl
unzeroed moves (g ∷ gs) plain =
    ap₂ (λ (h : ShapedGlyph) (hs : List ShapedGlyph). h ∷ hs)
    (ap (λ (t : Bool). if t then without_width moves g else g) (head g gs plain).unmarked) (unzeroed moves gs (tail g gs plain))

pub none_ignorable : (gs : List ShapedGlyph) → list_all is_plain gs ≡ true → list_any (λ g. g.is_ignorable) gs ≡ false
none_ignorable [] plain = refl
none_ignorable (g ∷ gs) plain = rw (head g gs plain).seen (none_ignorable gs (tail g gs plain))

reversed : (gs : List ShapedGlyph) → list_all is_plain gs ≡ true → list_all is_plain (reverse gs) ≡ true
reversed [] plain = refl
reversed (g ∷ gs) plain =
    let parts = and_parts (is_plain g) (list_all is_plain gs) plain in
    rw (reverse_onto gs g [])
    (list_all-append is_plain (reverse gs) (g ∷ [])
    ∙ ap₂ (λ (a b : Bool). a && (b && true)) (reversed gs parts.1) parts.0)

-- it begins a run, whatever comes before it
begun : (g : ShapedGlyph) → Plainness g → begins_run g ≡ true
begun g plain = ap₂ (λ (i : Bool) (k : CharacterKind). not i && not (is_mark k)) plain.seen plain.kind

unplaced : (p : MarkPlacing) (base : MarkBase) (g : ShapedGlyph) → Plainness g → placed p base g ≡ g
unplaced p Missing g plain = refl
unplaced p Unboxed g plain = ap (λ (t : Bool). if t then g else zeroed_mark p.moves g) (begun g plain)
unplaced p (Boxed b) g plain =
    ap (λ (k : CharacterKind). if class_of k == 0 then g else set_on p.direction p.gap b (class_of k) (p.box g.glyph_id) g) plain.kind

in_order : (p : MarkPlacing) (base : MarkBase) (gs : List ShapedGlyph) → list_all is_plain gs ≡ true → scan (next_base p) (placed p) base gs ≡ gs
in_order p base [] plain = refl
in_order p base (g ∷ gs) plain =
    ap₂ (λ (h : ShapedGlyph) (hs : List ShapedGlyph). h ∷ hs) (unplaced p base g (head g gs plain))
    (in_order p (next_base p base g) gs (tail g gs plain))

unmoved : (p : MarkPlacing) (gs : List ShapedGlyph) → list_all is_plain gs ≡ true → placed_marks p gs ≡ gs
unmoved p gs plain = by (is_backward p.direction)
  where
    by : (b : Bool) → (if b then reverse (placed_in_order p (reverse gs)) else placed_in_order p gs) ≡ gs
    by true = ap reverse (in_order p Missing (reverse gs) (reversed gs plain)) ∙ reverse-reverse gs
    by false = in_order p Missing gs plain

free : (d : Direction) (b : Bool) (g : ShapedGlyph) → b ≡ true → begins_run g ≡ true → held d b g ≡ g
free d b g before here =
    ap₂ (λ (s t : Bool). record g { may_break_before = g.may_break_before && (if is_backward d then s else t) }) before here
    ∙ ap (λ (t : Bool). record g { may_break_before = t }) (by (is_backward d) g.may_break_before)
  where
    by : (s t : Bool) → (t && (if s then true else true)) ≡ t
    by true true = refl
    by true false = refl
    by false true = refl
    by false false = refl

unheld : (d : Direction) (b : Bool) (gs : List ShapedGlyph) → b ≡ true → list_all is_plain gs ≡ true → scan (λ s g. begins_run g) (held d) b gs ≡ gs
unheld d b [] before plain = refl
unheld d b (g ∷ gs) before plain =
    ap₂ (λ (h : ShapedGlyph) (hs : List ShapedGlyph). h ∷ hs) (free d b g before (begun g (head g gs plain)))
    (unheld d (begins_run g) gs (begun g (head g gs plain)) (tail g gs plain))

pub unboxed : (p : MarkPlacing) (gs : List ShapedGlyph) → list_all is_plain gs ≡ true → place_marks p gs ≡ gs
unboxed p gs plain = ap (held_runs p.direction) (unmoved p gs plain) ∙ unheld p.direction true gs refl plain
