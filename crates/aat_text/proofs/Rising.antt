-- Clusters never fall along the glyphs of a text.
use Rattle.std.proofs.Common.{◌≡◌, ℕ, ◌≤◌, ◌+◌, true, not, ◌&&◌, List, [], ◌∷◌, ◌++◌, map, refl, ap, ◌∙◌, arith, nat_lt}
use Rattle.std.specs.Str.{chars}
use Rattle.std.proofs.lemmas.Bool.Decides.{nat_tests}
use Rattle.unicode_segmentation.specs.Grapheme.{graphemes}
use Rattle.aat_face.specs.Faces.{FaceValue}
use Rattle.aat_shaped_text.specs.Breaks.{is_rising}
use Rattle.aat_shaped_text.specs.declared.text.TextGlyph.{TextGlyph}
use Rattle.aat_text.specs.Places.{count_in}
use Rattle.aat_text.specs.TextGlyphs.{text_glyph}
use Rattle.aat_text.specs.TextLaws.{TextsRise}
use Rattle.aat_text.specs.declared.unit.ClusterUnit.{ClusterUnit}
use Rattle.aat_text.proofs.Placed.{glyphs_from}

-- the clusters of glyphs rise from a place on
RisesFrom : ℕ → List TextGlyph → Type 0
RisesFrom place [] = Unit {0}
RisesFrom place (g ∷ text) = (place ≤ g.cluster) × RisesFrom g.cluster text

-- and so from an earlier one
rises_earlier : (p q : ℕ) (text : List TextGlyph) → p ≤ q → RisesFrom q text → RisesFrom p text
unfolding RisesFrom
rises_earlier p q [] le h = tt
rises_earlier p q (g ∷ text) le h = (omega (arith, h.0), h.1)

-- glyphs of one cluster, and then others
rises_behind : (face : FaceValue) (p q : ℕ) (cs : List ℕ) (text : List TextGlyph) → p ≤ q → RisesFrom q text → RisesFrom p (map (text_glyph face p) cs ++ text)
unfolding RisesFrom
rises_behind face p q [] text le h = rises_earlier p q text le h
rises_behind face p q (c ∷ cs) text le h = (omega arith, rises_behind face p q cs text le h)

glyphs_rise : (face : FaceValue) (unit : ClusterUnit) (place : ℕ) (pieces : List (List ℕ)) → RisesFrom place (glyphs_from face unit place pieces)
unfolding RisesFrom
glyphs_rise face unit place [] = tt
glyphs_rise face unit place (piece ∷ pieces) =
    rises_behind face place (place + count_in unit piece) (chars piece) (glyphs_from face unit (place + count_in unit piece) pieces) (omega arith)
    (glyphs_rise face unit (place + count_in unit piece) pieces)

not_below : (p q : ℕ) → p ≤ q → not (nat_lt q p) ≡ true
not_below p q le = grind (arith, nat_tests)

rises_from : (place : ℕ) (text : List TextGlyph) → RisesFrom place text → is_rising text ≡ true
unfolding RisesFrom
rises_from place [] h = refl
rises_from place (g ∷ []) h = refl
rises_from place (g ∷ (k ∷ text)) h =
    ap (λ b. b && is_rising (k ∷ text)) (not_below g.cluster k.cluster h.1.0) ∙ rises_from g.cluster (k ∷ text) h.1

pub texts_rise : TextsRise
texts_rise face unit text = rises_from 0 _ (glyphs_rise face unit 0 (graphemes true text))
