-- The glyphs of characters that were looked up before.
use Rattle.std.proofs.Common.{arith, ℕ}
use Rattle.std.proofs.lemmas.List.{get_or-replicate}
use Rattle.std.specs.Prelude.{replicate}
use Rattle.aat_face.specs.Faces.{FaceValue}
use Rattle.aat_shaped_text.specs.declared.text.TextGlyph.{TextGlyph}
use Rattle.aat_text.specs.inside.KnownGlyphs.{AreKnown, AreKnownWhole}

-- no character is kept
pub none_kept : (face : FaceValue) → AreKnown face (record { characters = replicate 256 0; glyphs = replicate 256 0 })
none_kept face = λ i below some. absurd (omega (arith, some, get_or-replicate {A = ℕ} 256 i 0 0 below))

pub none_whole : (glyph : TextGlyph) (face : FaceValue) → AreKnownWhole face (record { characters = replicate 128 0; glyphs = replicate 128 glyph })
none_whole glyph face = λ i below any some. absurd (omega (arith, some, get_or-replicate {A = ℕ} 128 i 0 0 below))
