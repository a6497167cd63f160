-- Ways to show glyphs that keep what is told of breaks.
use Rattle.std.proofs.Common.{◌≡◌, ◌∙◌, sym, ap, ap₂, refl, ℕ, ◌-◌, ◌<◌, Bool, true, false, cond, List, [], ◌∷◌, drop, length, map, max, take, arith}
use Rattle.std.proofs.lemmas.List.{drop-map, get_or-map, length-map, take-map}
use Rattle.aat_glyph.specs.Directions.{is_vertical}
use Rattle.aat_shaped_text.specs.Parts.{cut_before, looks, no_shaped_glyph, shaped_at}
use Rattle.aat_shaped_text.specs.declared.text.CharacterKind.{CharacterKind}
use Rattle.aat_shaped_text.specs.declared.text.CharacterKind.TheVariants.{Mark, Other, Space}
use Rattle.aat_shaped_text.specs.declared.text.ShapedGlyph.{ShapedGlyph}
use Rattle.aat_showing.specs.Columns.{ColumnMetrics, in_column, with_advance}
use Rattle.aat_showing.specs.Marks.{without_width, zeroed_mark}
use Rattle.aat_showing.specs.Spaces.{SpaceMetrics, widened}

abbrev pub Drawn : Type 0
Drawn = List ShapedGlyph

-- The place of a glyph that is shown: it says the same of a break, which cuts the text at the same cluster, and the glyphs
-- before it and from it on look as those before and from it on do, changed.
pub record ShownAt (change : Drawn → Drawn) (glyphs seen : Drawn) (k : ℕ) : Type 0 where
  pub at : ℕ
  pub low : at < length glyphs
  pub breaks : (shaped_at glyphs at).may_break_before ≡ true
  pub cut : cut_before seen k ≡ cut_before glyphs at
  pub front : map looks (take k seen) ≡ change (map looks (take at glyphs))
  pub back : map looks (drop k seen) ≡ change (map looks (drop at glyphs))

-- a way to show glyphs changes how they look so, and keeps what is told of breaks
pub record KeepsBreaks (show change : Drawn → Drawn) : Type 0 where
  pub looked : (glyphs : Drawn) → map looks (show glyphs) ≡ change (map looks glyphs)
  pub shown_at :
      (glyphs : Drawn) (k : ℕ) → k < length (show glyphs) → (shaped_at (show glyphs) k).may_break_before ≡ true
      → ShownAt change glyphs (show glyphs) k

-- so does showing them as they are
pub as_they_are : KeepsBreaks (λ glyphs. glyphs) (λ glyphs. glyphs)
as_they_are = record {
  looked = λ glyphs. refl;
  shown_at = λ glyphs k low may. record { at = k; low = low; breaks = may; cut = refl; front = refl; back = refl };
}

-- and so do two ways, one after the other
pub one_by_one :
    (show change later after : Drawn → Drawn) → KeepsBreaks show change → KeepsBreaks later after
    → KeepsBreaks (λ glyphs. later (show glyphs)) (λ glyphs. after (change glyphs))
one_by_one show change later after first second = record {
  looked = λ glyphs. second.looked (show glyphs) ∙ ap after (first.looked glyphs);
  shown_at = λ glyphs k low may.
      let y = second.shown_at (show glyphs) k low may in
      let x = first.shown_at glyphs y.at y.low y.breaks in
      record {
        at = x.at;
        low = x.low;
        breaks = x.breaks;
        cut = y.cut ∙ x.cut;
        front = y.front ∙ ap after x.front;
        back = y.back ∙ ap after x.back;
      };
}

-- a change of each glyph by itself that keeps its cluster and what it says of a break, and looks at how it looks alone
pub record IsByGlyph (f : ShapedGlyph → ShapedGlyph) : Type 0 where
  pub look : (g : ShapedGlyph) → looks (f g) ≡ f (looks g)
  pub cluster : (g : ShapedGlyph) → (f g).cluster ≡ g.cluster
  pub break : (g : ShapedGlyph) → (f g).may_break_before ≡ g.may_break_before

module _ (f : ShapedGlyph → ShapedGlyph) (is : IsByGlyph f) where
  looks_each : (glyphs : Drawn) → map looks (map f glyphs) ≡ map f (map looks glyphs)
  looks_each [] = refl
  looks_each (g ∷ glyphs) = ap₂ (λ (h : ShapedGlyph) (hs : Drawn). h ∷ hs) (is.look g) (looks_each glyphs)

  each_at : (glyphs : Drawn) (k : ℕ) → k < length glyphs → shaped_at (map f glyphs) k ≡ f (shaped_at glyphs k)
  each_at glyphs k low = get_or-map f glyphs k no_shaped_glyph no_shaped_glyph low

  shown_each :
      (glyphs : Drawn) (k : ℕ) → k < length (map f glyphs) → (shaped_at (map f glyphs) k).may_break_before ≡ true
      → ShownAt (map f) glyphs (map f glyphs) k
  shown_each glyphs k low may =
      let within : k < length glyphs = omega (arith, low, length-map glyphs f) in
      let cluster : (j : ℕ) → j < length glyphs → (shaped_at (map f glyphs) j).cluster ≡ (shaped_at glyphs j).cluster =
      λ j inside. ap (λ (g : ShapedGlyph). g.cluster) (each_at glyphs j inside) ∙ is.cluster (shaped_at glyphs j) in
      record {
        at = k;
        low = within;
        breaks = sym (ap (λ (g : ShapedGlyph). g.may_break_before) (each_at glyphs k within) ∙ is.break (shaped_at glyphs k)) ∙ may;
        cut = ap₂ max (cluster (k - 1) (omega (arith, within))) (cluster k within);
        front = ap (map looks) (take-map f k glyphs) ∙ looks_each (take k glyphs);
        back = ap (map looks) (drop-map f k glyphs) ∙ looks_each (drop k glyphs);
      }

  pub glyph_by_glyph : KeepsBreaks (map f) (map f)
  glyph_by_glyph = record { looked = looks_each; shown_at = shown_each }

-- a mark without width
pub by_mark : (moves : Bool) → IsByGlyph (zeroed_mark moves)
by_mark moves = record {
  look = λ g. look g g.is_mark;
  cluster = λ g. cluster g g.is_mark;
  break = λ g. break g g.is_mark;
}
  where
    look : (g : ShapedGlyph) (t : Bool) → looks (cond t (without_width moves g) g) ≡ cond t (without_width moves (looks g)) (looks g)
    look g true = refl
    look g false = refl

    cluster : (g : ShapedGlyph) (t : Bool) → (cond t (without_width moves g) g).cluster ≡ g.cluster
    cluster g true = refl
    cluster g false = refl

    break : (g : ShapedGlyph) (t : Bool) → (cond t (without_width moves g) g).may_break_before ≡ g.may_break_before
    break g true = refl
    break g false = refl

-- a glyph in a column
pub by_column : (m : ColumnMetrics) → IsByGlyph (in_column m)
by_column m = record { look = λ g. refl; cluster = λ g. refl; break = λ g. refl }

-- a space as wide as it is to be
pub by_width : (m : SpaceMetrics) → IsByGlyph (λ g. widened m g.kind g)
by_width m = record {
  look = λ g. look g g.kind;
  cluster = λ g. cluster g g.kind;
  break = λ g. break g g.kind;
}
  where
    wide : (t : Bool) (own other : ℕ) (g : ShapedGlyph) → looks (with_advance t own other g) ≡ with_advance t own other (looks g)
    wide true own other g = refl
    wide false own other g = refl

    wide_cluster : (t : Bool) (own other : ℕ) (g : ShapedGlyph) → (with_advance t own other g).cluster ≡ g.cluster
    wide_cluster true own other g = refl
    wide_cluster false own other g = refl

    wide_break : (t : Bool) (own other : ℕ) (g : ShapedGlyph) → (with_advance t own other g).may_break_before ≡ g.may_break_before
    wide_break true own other g = refl
    wide_break false own other g = refl

    look : (g : ShapedGlyph) (k : CharacterKind) → looks (widened m k g) ≡ widened m k (looks g)
    look g Other = refl
    look g (Space width) = wide (is_vertical m.direction) _ _ g
    look g (Mark class) = refl

    cluster : (g : ShapedGlyph) (k : CharacterKind) → (widened m k g).cluster ≡ g.cluster
    cluster g Other = refl
    cluster g (Space width) = wide_cluster (is_vertical m.direction) _ _ g
    cluster g (Mark class) = refl

    break : (g : ShapedGlyph) (k : CharacterKind) → (widened m k g).may_break_before ≡ g.may_break_before
    break g Other = refl
    break g (Space width) = wide_break (is_vertical m.direction) _ _ g
    break g (Mark class) = refl
