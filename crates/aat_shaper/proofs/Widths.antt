-- What is the same of glyphs that look alike, and what is added to lines.
use Rattle.std.proofs.Common.{◌≡◌, ◌∙◌, ap, refl, sym, subst, ℕ, ℤ, ◌+◌, ◌<◌, ◌≤◌, ◌+ℤ◌, pos, Bool, List, [], ◌∷◌, ◌++◌, inl, inr, true, false, Option, None, Some, arith, append_assoc, get_or, length, map, take}
use Rattle.std.proofs.lemmas.List.{map-append, take_all, take_more}
use Rattle.std.proofs.lemmas.Bool.{both_ways, cases_lt}
use Rattle.std.specs.Prelude.{Err, IfOk, IsTrue, Ok, Result, fold, unsigned_abs, ◌↔◌}
use Rattle.aat_shaped_text.specs.Parts.{looks}
use Rattle.aat_shaped_text.specs.declared.text.ShapedGlyph.{ShapedGlyph}
use Rattle.aat_shaper.specs.Lines.{AreLines, IsLine, Paragraph, drawn_alone, end_of, room_of, start_of, stop_at, width_of}
use Rattle.aat_shaper.specs.Lines.AreLines.{more, none}
use Rattle.aat_shaper.proofs.Stops.{start_of_next}
use Rattle.std.proofs.lemmas.List.Sums.{fold_push}
use Rattle.aat_shaper.specs.declared.lines.TextLine.{TextLine}
use Rattle.aat_shaper.specs.declared.lines.LineStop.{LineStop}
use Rattle.aat_shaper.specs.declared.lines.filling.Filling.{Filling}
use Rattle.aat_run.specs.declared.error.AatError.{AatError}
use Rattle.aat_shaper.specs.declared.lines.tries.LineGlyphs.{LineGlyphs}
use Rattle.aat_shaper.specs.declared.lines.tries.TriedLine.{TriedLine}
use Rattle.aat_shaper.specs.inside.Filling.{AreAdded, IsFull, IsTried, IsWithin, glyphs_of, paragraph_of}

-- the sum over glyphs is that over how they look
sum_of_looks :
    (p : Paragraph) (hang : Option ℕ) (z : ℤ) (glyphs : List ShapedGlyph)
    → fold (λ s g. s +ℤ room_of p hang g) z (map looks glyphs) ≡ fold (λ s g. s +ℤ room_of p hang g) z glyphs
sum_of_looks p hang z [] = refl
sum_of_looks p None z (g ∷ glyphs) = sum_of_looks p None (z +ℤ room_of p None g) glyphs
sum_of_looks p (Some c) z (g ∷ glyphs) = sum_of_looks p (Some c) (z +ℤ room_of p (Some c) g) glyphs

-- glyphs that look alike are as wide
pub width_alike :
    (p : Paragraph) (hang : Option ℕ) (xs ys : List ShapedGlyph) → map looks xs ≡ map looks ys
    → width_of p hang xs ≡ width_of p hang ys
width_alike p hang xs ys same =
    ap unsigned_abs
    (sym (sum_of_looks p hang (pos 0) xs)
    ∙ (ap (fold (λ s g. s +ℤ room_of p hang g) (pos 0)) same ∙ sum_of_looks p hang (pos 0) ys))

line_alike :
    (p : Paragraph) (q j : ℕ) (xs ys : List ShapedGlyph) → map looks ys ≡ map looks xs → IsLine p q j xs → IsLine p q j ys
line_alike p q j xs ys same line = record {
  alone = same ∙ line.alone;
  fits = λ behind.
      subst (λ (w : ℕ). w ≤ p.width) (sym (width_alike p (stop_at p.stops j).hang ys xs same)) (line.fits behind);
  unforced = line.unforced;
  full = line.full;
}

-- a line that is added to lines
pub line_added :
    (p : Paragraph) (q j : ℕ) (old new line : List ShapedGlyph) (lines all : List TextLine) → AreLines p q old lines → q ≤ j
    → j < length p.stops → IsLine p q j line → AreAdded line old new
    → all ≡ lines ++ (record { text_end = (stop_at p.stops j).place; glyphs_end = length new } ∷ [])
    → AreLines p (j + 1) new all
line_added p q j old new line lines all are le low is_line added same =
    let glyphs = added.0 in
    let at : List ShapedGlyph → List TextLine = λ gs.
    lines ++ (record { text_end = (stop_at p.stops j).place; glyphs_end = length gs } ∷ [])
    in
    let next : AreLines p (j + 1) (old ++ glyphs) (at (old ++ glyphs)) =
    more are le low (line_alike p q j line glyphs added.2 is_line)
    in
    subst (λ (ls : List TextLine). AreLines p (j + 1) new ls) (sym same)
    (subst (λ (gs : List ShapedGlyph). AreLines p (j + 1) gs (at gs)) (sym added.1) next)

-- one more glyph that is added
pub added_more :
    (line old items : List ShapedGlyph) (i : ℕ) (d x : ShapedGlyph) → i < length line → looks x ≡ looks (get_or line i d)
    → AreAdded (take i line) old items → AreAdded (take (i + 1) line) old (items ++ (x ∷ []))
added_more line old items i d x low same so_far = (
  so_far.0 ++ (x ∷ []),
  ap (λ (gs : List ShapedGlyph). gs ++ (x ∷ [])) so_far.1 ∙ append_assoc old so_far.0 (x ∷ []),
  map-append looks so_far.0 (x ∷ [])
      ∙ (ap (λ (gs : List ShapedGlyph). gs ++ (looks x ∷ [])) so_far.2
      ∙ (ap (λ (g : ShapedGlyph). map looks (take i line) ++ (g ∷ [])) same
      ∙ (sym (map-append looks (take i line) (get_or line i d ∷ []))
      ∙ ap (map looks) (sym (take_more line i d low))))),
)

pub added_all :
    (line old items : List ShapedGlyph) (i : ℕ) → length line ≤ i → AreAdded (take i line) old items
    → AreAdded line old items
added_all line old items i all so_far =
    subst (λ (gs : List ShapedGlyph). AreAdded gs old items) (take_all i line all) so_far

module _ (f : Filling) (q j : ℕ) (alone drawn : List ShapedGlyph) (line : LineGlyphs) (fits : Bool) where
  -- a line that was tried
  pub tried_line :
      (stop : LineStop) → stop ≡ stop_at f.stops.now j → IsWithin (length f.whole.now) line
      → drawn ≡ glyphs_of line f.whole.now alone
      → map looks (glyphs_of line f.whole.now alone) ≡ map looks (drawn_alone (paragraph_of f) q j)
      → IsTrue fits ↔ (width_of (paragraph_of f) stop.hang drawn ≤ f.width)
      → IsTried f q j alone (record { last = j; glyphs = line; fits = fits })
  tried_line stop same within is looks_alone known =
      let p = paragraph_of f in
      let glyphs = glyphs_of line f.whole.now alone in
      let hang = (stop_at f.stops.now j).hang in
      let width : width_of p stop.hang drawn ≡ width_of p hang glyphs =
      ap (λ (s : LineStop). width_of p s.hang drawn) same ∙ ap (width_of p hang) is
      in
      record {
        last = refl;
        within = within;
        looks_alone = looks_alone;
        fits = λ e. subst (λ (w : ℕ). w ≤ f.width) width (known.0 e);
        wide = λ e.
            let not_within : width_of p stop.hang drawn ≤ f.width → ⊥ = λ le. both_ways fits e (known.1 le) in
            let same_width = sym (width_alike p hang glyphs (drawn_alone p q j) looks_alone) ∙ sym width in
            omega (arith, not_within, same_width);
      }

-- the line that was settled for
pub settled_line :
    (f : Filling) (q guess reached : ℕ) (alone : List ShapedGlyph) (r : Result TriedLine AatError)
    → IfOk r (λ line. IsTried f q line.last alone line) → IfOk r (λ line. line.last ≤ reached)
    → IfOk r (λ line. IsFull (paragraph_of f) q line.last) → IfOk r (λ line. q < line.last → line.fits ≡ true)
    → ((i : ℕ) → q ≤ i → i < guess → (stop_at f.stops.now i).is_forced ≡ false)
    → ((i : ℕ) → guess ≤ i → i < reached → (stop_at f.stops.now i).is_forced ≡ false)
    → IfOk r (λ line. IsLine (paragraph_of f) q line.last (glyphs_of line.glyphs f.whole.now alone))
settled_line f q guess reached alone (Ok line) tried up_to full fits below above = record {
  alone = tried.looks_alone;
  fits = λ behind. tried.fits (fits behind);
  unforced = λ i from low.
      elim (cases_lt i guess) [ inl lt ↦ below i from lt | inr ge ↦ above i ge (omega (arith, low, up_to)) ];
  full = full;
}
settled_line f q guess reached alone (Err e) tried up_to full fits below above = tt

-- lines end where the next one would begin
pub end_of_lines :
    (p : Paragraph) (q : ℕ) (glyphs : List ShapedGlyph) (lines : List TextLine) → AreLines p q glyphs lines
    → end_of lines ≡ start_of p.stops q
end_of_lines p q glyphs lines none = refl
end_of_lines p q glyphs lines (more {j = j} {lines = before} are le low line) =
    fold_push (λ (end : ℕ) (l : TextLine). l.text_end) 0 before _
    ∙ (sym (start_of_next p.stops j) ∙ ap (start_of p.stops) (omega arith))
