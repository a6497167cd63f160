-- Whether clusters rise along a text, glyph by glyph.
use Rattle.std.proofs.Common.{◌≡◌, ◌∙◌, ap, refl, sym, ℕ, zero, suc, ◌<◌, ◌≤◌, ◌&&◌, true, not, List, [], ◌∷◌, arith, drop, get_or, length}
use Rattle.std.specs.Prelude.{nat_lt}
use Rattle.std.proofs.Math.Seq.{drop-cons}
use Rattle.aat_shaped_text.specs.Breaks.{is_rising}
use Rattle.aat_shaped_text.specs.declared.text.TextGlyph.{TextGlyph}

-- two glyphs in a row
pub rising_step :
    (text : List TextGlyph) (i : ℕ) (g : TextGlyph) → suc i < length text
    → is_rising (drop i text)
    ≡ (not (nat_lt (get_or text (suc i) g).cluster (get_or text i g).cluster) && is_rising (drop (suc i) text))
rising_step text i g low =
    let x = get_or text i g in
    let y = get_or text (suc i) g in
    let behind = drop (suc (suc i)) text in
    let second : drop (suc i) text ≡ y ∷ behind = drop-cons text (suc i) g low in
    let first : drop i text ≡ x ∷ y ∷ behind =
    drop-cons text i g (omega (arith, low)) ∙ ap (λ (t : List TextGlyph). x ∷ t) second
    in
    ap is_rising first ∙ ap (λ (t : List TextGlyph). not (nat_lt y.cluster x.cluster) && is_rising t) (sym second)

-- the last glyph alone, or none
pub rising_end : (text : List TextGlyph) (i : ℕ) → length text ≤ suc i → is_rising (drop i text) ≡ true
rising_end [] zero few = refl
rising_end [] (suc i) few = refl
rising_end (g ∷ []) zero few = refl
rising_end (g ∷ h ∷ text) zero few = absurd (omega (arith, few))
rising_end (g ∷ text) (suc i) few = rising_end text i (omega (arith, few))
