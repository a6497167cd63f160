-- The pen from one glyph to the next.
use Rattle.std.proofs.Common.{◌≡◌, ◌∙◌, ℕ, ◌+◌, ◌<◌, ap, arith, sym, List, [], ◌∷◌, ◌++◌, fold, length, map, take}
use Rattle.std.specs.Prelude.{pos}
use Rattle.std.specs.List.{range_with_len}
use Rattle.std.proofs.lemmas.List.{map-append, take_more}
use Rattle.std.proofs.lemmas.List.FromFn.{map-range_with_len_more}
use Rattle.std.proofs.lemmas.List.Sums.{fold-append}
use Rattle.aat_glyph.specs.declared.glyph.GlyphPosition.{GlyphPosition}
use Rattle.aat_glyph.specs.declared.placement.pens.Pen.{Pen}
use Rattle.aat_glyph.specs.placement.Attachments.{Coordinate, X, Y, advance, at, no_position, pen, plus}
use Rattle.aat_glyph.specs.placement.inside.Pens.{pen_at}

-- it goes on by the advance
pub pen-suc :
    (c : Coordinate) (qs : List GlyphPosition) (i : ℕ) → i < length qs
    → pen c qs (i + 1) ≡ plus (pen c qs i) (advance c (at qs i))
pen-suc c qs i lt =
    ap (λ xs. fold plus (pos 0) (map (advance c) xs)) (take_more qs i no_position lt)
    ∙ (ap (fold plus (pos 0)) (map-append (advance c) (take i qs) (at qs i ∷ []))
    ∙ fold-append plus (pos 0) (map (advance c) (take i qs)) (advance c (at qs i) ∷ []))

-- in both coordinates
pub pen_at-suc :
    (qs : List GlyphPosition) (i : ℕ) → i < length qs
    → pen_at qs (i + 1)
    ≡ record { x = plus (pen X qs i) (at qs i).x_advance; y = plus (pen Y qs i) (at qs i).y_advance }
pen_at-suc qs i lt = ap (λ x. record { x = x; y = pen Y qs (i + 1) }) (pen-suc X qs i lt) ∙ ap (λ y. record { x = plus (pen X qs i) (at qs i).x_advance; y = y }) (pen-suc Y qs i lt)

-- one more pen
pub pens_more :
    (qs : List GlyphPosition) (pens more : List Pen) (pen : Pen) (i : ℕ)
    → pens ≡ map (pen_at qs) (range_with_len 0 i) → pen ≡ pen_at qs i → more ≡ pens ++ pen ∷ []
    → more ≡ map (pen_at qs) (range_with_len 0 (i + 1))
pens_more qs pens more pen i before here pushed =
    pushed
    ∙ (ap (λ ps. ps ++ pen ∷ []) before
    ∙ (ap (λ p. map (pen_at qs) (range_with_len 0 i) ++ p ∷ []) here
    ∙ sym (map-range_with_len_more (pen_at qs) 0 i i (omega arith))))

-- the pen behind a glyph
pub pen_more :
    (qs : List GlyphPosition) (pen : Pen) (i : ℕ) → i < length qs → pen ≡ pen_at qs i
    → record { x = plus pen.x (at qs i).x_advance; y = plus pen.y (at qs i).y_advance } ≡ pen_at qs (i + 1)
pen_more qs pen i lt here =
    ap (λ (p : Pen). record { x = plus p.x (at qs i).x_advance; y = plus p.y (at qs i).y_advance }) here
    ∙ sym (pen_at-suc qs i lt)
