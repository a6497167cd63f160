-- The glyphs of a text.
use Rattle.std.specs.Prelude.{ℕ, Bool, false, not, List, map}
use Rattle.std.specs.List.{flat_map}
use Rattle.std.specs.Option.{option_map_or}
use Rattle.std.specs.Str.{chars}
use Rattle.ucd_category.specs.GeneralCategory.{general_category}
use Rattle.ucd_category.specs.declared.GeneralCategory.{GeneralCategory}
use Rattle.ucd_category.specs.declared.GeneralCategory.TheVariants as Category
use Rattle.aat_face.specs.Faces.{FaceValue, glyph_of_character}
use Rattle.aat_shaped_text.specs.declared.text.TextGlyph.{TextGlyph}
use Rattle.aat_text.specs.IgnorableCharacters.{is_ignorable_character}
use Rattle.aat_text.specs.Kinds.{character_kind}
use Rattle.aat_text.specs.Places.{clusters}
use Rattle.aat_text.specs.declared.unit.ClusterUnit.{ClusterUnit}

-- a character of a category is a mark: a nonspacing one that is not ignorable
abbrev pub is_mark_of : GeneralCategory → ℕ → Bool
is_mark_of Category.NonspacingMark character = not (is_ignorable_character character)
is_mark_of _ character = false

-- so is a character
abbrev pub is_mark_character : ℕ → Bool
is_mark_character character = is_mark_of (general_category character) character

-- a character of a cluster as a glyph: 0 where the font has none
abbrev pub text_glyph : FaceValue → ℕ → ℕ → TextGlyph
text_glyph face cluster character = record {
  glyph_id = option_map_or (λ glyph. glyph.0) (glyph_of_character face character) 0;
  cluster = cluster;
  is_ignorable = is_ignorable_character character;
  is_mark = is_mark_character character;
  kind = character_kind character;
}

-- the glyphs of the characters of a text, each with the place of its extended grapheme cluster
abbrev pub text_of : FaceValue → ClusterUnit → List ℕ → List TextGlyph
text_of face unit text =
    flat_map (λ (place, piece). map (text_glyph face place) (chars piece)) (clusters unit text)
