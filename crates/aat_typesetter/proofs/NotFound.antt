-- Characters that a font lacks.
use Rattle.std.proofs.Common.{◌≡◌, ◌∙◌, ℕ, Bool, true, false, List, [], ◌∷◌, ap, ap₂, arith, map, refl, sym}
use Rattle.std.specs.Prelude.{◌==◌, if◌then◌else◌}
use Rattle.std.proofs.lemmas.Bool.Decides.{nat_tests}
use Rattle.aat_shaped_text.specs.declared.text.TextGlyph.{TextGlyph}
use Rattle.aat_typesetter.specs.Prepared.{told_glyph}

same_if : (b : Bool) (g h : TextGlyph) → (b ≡ true → h ≡ g) → (if b then h else g) ≡ g
same_if true g h same = same refl
same_if false g h same = refl

is_none : (id : ℕ) → (id == 0) ≡ true → 0 ≡ id
is_none id none = grind (arith, nat_tests)

untold_glyph : (g : TextGlyph) → told_glyph 0 g ≡ g
untold_glyph g =
    same_if (g.glyph_id == 0) g (record g { glyph_id = 0 })
    (λ none. ap (λ (id : ℕ). record g { glyph_id = id }) (is_none g.glyph_id none))

-- where 0 is told for them, glyphs stay as they are
pub untold : (not_found : ℕ) (glyphs : List TextGlyph) → not_found ≡ 0 → glyphs ≡ map (told_glyph not_found) glyphs
untold not_found [] zero = refl
untold not_found (g ∷ glyphs) zero =
    ap₂ (λ (h : TextGlyph) (hs : List TextGlyph). h ∷ hs)
    (sym (ap (λ (id : ℕ). told_glyph id g) zero ∙ untold_glyph g))
    (untold not_found glyphs zero)
