-- The clusters of a text that never fall, along its line.
use Rattle.std.proofs.Common.{◌≡◌, ap, refl, sym, ℕ, zero, suc, ◌<◌, ◌≤◌, ◌&&◌, Bool, true, false, true≢false, not, List, [], ◌∷◌, arith, get_or, length, map}
use Rattle.std.specs.Prelude.{AllPairs, nat_lt}
use Rattle.std.proofs.lemmas.Bool.{ltb-false}
use Rattle.std.proofs.lemmas.List.{get_or-map, length-map}
use Rattle.aat_buffer.specs.Clusters.{IsRisingLine}
use Rattle.aat_font.specs.declared.face.hb_font_t.{hb_font_t}
use Rattle.aat_font.specs.declared.plan.Feature.{Feature}
use Rattle.aat_glyph.specs.declared.glyph.hb_glyph_info_t.{hb_glyph_info_t}
use Rattle.aat_shaped_text.specs.Breaks.{is_rising}
use Rattle.aat_shaped_text.specs.ShapedText.{line_glyph}
use Rattle.aat_shaped_text.specs.declared.text.CharacterKind.TheVariants.{Other}
use Rattle.aat_shaped_text.specs.declared.text.TextGlyph.{TextGlyph}

both : (a b : Bool) → (a && b) ≡ true → (a ≡ true) × (b ≡ true)
both true b is = (refl, is)
both false b is = absurd (true≢false (sym is))

negated : (a : Bool) → not a ≡ true → a ≡ false
negated true is = absurd (true≢false (sym is))
negated false is = refl

-- the second glyph is not before the first
second_up : (g h : TextGlyph) (text : List TextGlyph) → is_rising (g ∷ h ∷ text) ≡ true → g.cluster ≤ h.cluster
second_up g h text up =
    ltb-false h.cluster g.cluster
    (negated (nat_lt h.cluster g.cluster) (both (not (nat_lt h.cluster g.cluster)) (is_rising (h ∷ text)) up).0)

-- all but the first rise
rest_up : (g : TextGlyph) (text : List TextGlyph) → is_rising (g ∷ text) ≡ true → is_rising text ≡ true
rest_up g [] up = refl
rest_up g (h ∷ text) up = (both (not (nat_lt h.cluster g.cluster)) (is_rising (h ∷ text)) up).1

-- no glyph is before the first
first_least :
    (g : TextGlyph) (text : List TextGlyph) → is_rising (g ∷ text) ≡ true → (j : ℕ) (d : TextGlyph) → j < length text
    → g.cluster ≤ (get_or text j d).cluster
first_least g [] up j d low = absurd (omega (arith, low))
first_least g (h ∷ text) up zero d low = second_up g h text up
first_least g (h ∷ text) up (suc j) d low =
    omega (arith, second_up g h text up, first_least h text (rest_up g (h ∷ text) up) j d (omega (arith, low)))

-- no glyph is before one that stands before it
pairs_up :
    (text : List TextGlyph) → is_rising text ≡ true → AllPairs (λ g h. g.cluster ≤ h.cluster) text
pairs_up [] up i j d below low = absurd (omega (arith, low))
pairs_up (g ∷ text) up zero zero d below low = absurd (omega (arith, below))
pairs_up (g ∷ text) up zero (suc j) d below low = first_least g text up j d (omega (arith, low))
pairs_up (g ∷ text) up (suc i) zero d below low = absurd (omega (arith, below))
pairs_up (g ∷ text) up (suc i) (suc j) d below low =
    pairs_up text (rest_up g text up) i j d (omega (arith, below)) (omega (arith, low))

pub no_text_glyph : TextGlyph
no_text_glyph = record { glyph_id = 0; cluster = 0; is_ignorable = false; is_mark = false; kind = Other }

-- so the line of the text rises
pub rising_line :
    (face : hb_font_t) (features : List Feature) (text : List TextGlyph) → is_rising text ≡ true
    → IsRisingLine (map (line_glyph face features) text)
rising_line face features text up i j d below low =
    let within : j < length text = omega (arith, low, length-map text (line_glyph face features)) in
    let first = ap (λ (g : hb_glyph_info_t). g.cluster)
    (get_or-map (line_glyph face features) text i no_text_glyph d (omega (arith, below, within))) in
    let second = ap (λ (g : hb_glyph_info_t). g.cluster)
    (get_or-map (line_glyph face features) text j no_text_glyph d within) in
    omega (arith, first, second, pairs_up text up i j no_text_glyph below within)
