-- The glyphs of characters that were looked up before.
use Rattle.std.specs.Prelude.{◌≡◌, ℕ, ◌<◌, slice_index, slice_index_or}
use Rattle.std.specs.Option.{option_map_or}
use Rattle.aat_face.specs.Faces.{FaceValue, glyph_of_character}
use Rattle.aat_shaped_text.specs.declared.text.TextGlyph.{TextGlyph}
use Rattle.aat_text.specs.IgnorableCharacters.{is_ignorable_character}
use Rattle.aat_text.specs.Kinds.{character_kind}
use Rattle.aat_text.specs.TextGlyphs.{is_mark_character, text_glyph}
use Rattle.aat_text.specs.declared.known_glyphs.KnownGlyphs.{KnownGlyphs}
use Rattle.aat_text.specs.declared.known_glyphs.KnownTextGlyphs.{KnownTextGlyphs}

-- the number of the glyph of a character, 0 where a font has none
abbrev pub glyph_id_in : FaceValue → ℕ → ℕ
glyph_id_in face character = option_map_or (λ glyph. glyph.0) (glyph_of_character face character) 0

-- a character that is kept at a place has its glyph kept there too
abbrev pub IsKnown : FaceValue → KnownGlyphs → ℕ → Type 0
IsKnown face known i =
    0 < slice_index known.characters i → slice_index known.glyphs i ≡ glyph_id_in face (slice_index known.characters i)

-- so has all that is kept
abbrev pub AreKnown : FaceValue → KnownGlyphs → Type 0
AreKnown face known = (i : ℕ) → i < 256 → IsKnown face known i

-- a character that is kept at a place has its glyph kept there too, as one of the cluster 0
abbrev pub IsKnownWhole : FaceValue → KnownTextGlyphs → ℕ → Type 0
IsKnownWhole face known i =
    (glyph : TextGlyph) → 0 < slice_index known.characters i
    → slice_index_or known.glyphs i glyph ≡ text_glyph face 0 (slice_index known.characters i)

abbrev pub AreKnownWhole : FaceValue → KnownTextGlyphs → Type 0
AreKnownWhole face known = (i : ℕ) → i < 128 → IsKnownWhole face known i

-- a character of a cluster as a glyph with a number
abbrev pub glyph_of_id : ℕ → ℕ → ℕ → TextGlyph
glyph_of_id id cluster character = record {
  glyph_id = id;
  cluster = cluster;
  is_ignorable = is_ignorable_character character;
  is_mark = is_mark_character character;
  kind = character_kind character;
}
