-- Glyphs that are changed one behind the other, by what those before them leave.
use Rattle.std.proofs.Common.{◌≡◌, ◌∙◌, ap, ap₂, arith, refl, sym, ℕ, zero, suc, ◌+◌, ◌<◌, List, [], ◌∷◌, ◌++◌, append_assoc, drop, get_or, length, map, set, take}
use Rattle.std.proofs.lemmas.List.{drop_more, drop-set-lt, take_more_set}
use Rattle.std.specs.List.{scan}
use Rattle.aat_shaped_text.specs.declared.text.ShapedGlyph.{ShapedGlyph}

module _ {S : Type 0} (next : S → ShapedGlyph → S) (out : S → ShapedGlyph → ShapedGlyph) where
  -- one glyph more
  pub one_scanned :
      (gs whole : List ShapedGlyph) (e new : ShapedGlyph) (s t : S) (i : ℕ) → i < length gs
      → new ≡ out s (get_or gs i e) → t ≡ next s (get_or gs i e)
      → take i gs ++ scan next out s (drop i gs) ≡ whole
      → take (i + 1) (set gs i new) ++ scan next out t (drop (i + 1) (set gs i new)) ≡ whole
  one_scanned gs whole e new s t i low is left before =
      let rest = scan next out t (drop (i + 1) gs) in
      let step : scan next out s (drop i gs) ≡ new ∷ rest =
      ap (scan next out s) (drop_more gs i e low)
      ∙ ap₂ (λ (g : ShapedGlyph) (u : S). g ∷ scan next out u (drop (i + 1) gs)) (sym is) (sym left) in
      ap (λ (hs : List ShapedGlyph). take (i + 1) (set gs i new) ++ scan next out t hs) (drop-set-lt (i + 1) gs i new (omega arith))
      ∙ (ap (λ (hs : List ShapedGlyph). hs ++ rest) (take_more_set gs i new low)
      ∙ (append_assoc (take i gs) (new ∷ []) rest ∙ (ap (λ (hs : List ShapedGlyph). take i gs ++ hs) (sym step) ∙ before)))

  -- what some glyphs leave
  abbrev pub left_by : S → List ShapedGlyph → S
  left_by s [] = s
  left_by s (g ∷ gs) = left_by (next s g) gs

  -- two parts, one behind the other
  pub scan_append : (s : S) (xs ys : List ShapedGlyph) → scan next out s (xs ++ ys) ≡ scan next out s xs ++ scan next out (left_by s xs) ys
  scan_append s [] ys = refl
  scan_append s (x ∷ xs) ys = ap (λ (hs : List ShapedGlyph). out s x ∷ hs) (scan_append (next s x) xs ys)

  -- the glyph at a place
  pub scan_at :
      (s : S) (gs : List ShapedGlyph) (k : ℕ) (d e : ShapedGlyph) → k < length gs
      → get_or (scan next out s gs) k d ≡ out (left_by s (take k gs)) (get_or gs k e)
  scan_at s [] k d e low = absurd (omega (arith, low))
  scan_at s (g ∷ gs) zero d e low = refl
  scan_at s (g ∷ gs) (suc k) d e low = scan_at (next s g) gs k d e (omega (arith, low))

  -- what is left by the glyphs before the place behind another one
  pub left_by_more :
      (s : S) (gs : List ShapedGlyph) (k : ℕ) (e : ShapedGlyph) → k < length gs
      → left_by s (take (suc k) gs) ≡ next (left_by s (take k gs)) (get_or gs k e)
  left_by_more s [] k e low = absurd (omega (arith, low))
  left_by_more s (g ∷ gs) zero e low = refl
  left_by_more s (g ∷ gs) (suc k) e low = left_by_more (next s g) gs k e (omega (arith, low))

  -- what is seen of each glyph where the change does not matter
  pub scan_alike :
      (see : ShapedGlyph → ShapedGlyph) → ((s : S) (g : ShapedGlyph) → see (out s g) ≡ see g) → (s : S) (gs : List ShapedGlyph)
      → map see (scan next out s gs) ≡ map see gs
  scan_alike see same s [] = refl
  scan_alike see same s (g ∷ gs) = ap₂ (λ (h : ShapedGlyph) (hs : List ShapedGlyph). h ∷ hs) (same s g) (scan_alike see same (next s g) gs)

  -- and of glyphs as they are seen
  pub scan_seen :
      (see : ShapedGlyph → ShapedGlyph) → ((s : S) (g : ShapedGlyph) → see (out s g) ≡ out s (see g))
      → ((s : S) (g : ShapedGlyph) → next s (see g) ≡ next s g) → (s : S) (gs : List ShapedGlyph)
      → map see (scan next out s gs) ≡ scan next out s (map see gs)
  scan_seen see same left s [] = refl
  scan_seen see same left s (g ∷ gs) =
      ap₂ (λ (h : ShapedGlyph) (hs : List ShapedGlyph). h ∷ hs) (same s g)
      (scan_seen see same left (next s g) gs ∙ ap (λ (t : S). scan next out t (map see gs)) (sym (left s g)))
