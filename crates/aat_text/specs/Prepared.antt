-- The glyphs of a text as HarfBuzz hands it to the layer.
use Rattle.std.specs.Prelude.{ℕ, Bool, List, map, Option, unwrap_or, if◌then◌else◌}
use Rattle.ucd_script.specs.declared.Script.{Script}
use Rattle.aat_face.specs.Faces.{FaceValue}
use Rattle.aat_glyph.specs.Directions.{is_backward, is_forward, is_vertical}
use Rattle.aat_glyph.specs.declared.glyph.Direction.{Direction}
use Rattle.aat_shaped_text.specs.declared.text.TextGlyph.{TextGlyph}
use Rattle.aat_characters.specs.Clusters.{merged_clusters, turned_clusters}
use Rattle.aat_characters.specs.Composed.{normalized}
use Rattle.aat_characters.specs.Decomposed.{has_glyph}
use Rattle.aat_characters.specs.Exchanges.{mirrored, vertical_form}
use Rattle.aat_characters.specs.Native.{native_direction, natural_direction}
use Rattle.aat_characters.specs.PlacedCharacters.{placed}
use Rattle.aat_text.specs.Kinds.{placed_kind}
use Rattle.aat_text.specs.Places.{characters}
use Rattle.aat_text.specs.TextGlyphs.{text_glyph}
use Rattle.aat_text.specs.declared.clusters.ClusterLevel.{ClusterLevel}
use Rattle.aat_text.specs.declared.clusters.ClusterLevel.TheVariants.{Graphemes, Characters}
use Rattle.aat_characters.specs.declared.placed_character.PlacedCharacter.{PlacedCharacter}
use Rattle.aat_text.specs.declared.unit.ClusterUnit.{ClusterUnit}

-- another character, if the font has it
abbrev pub preferred : (ℕ → Bool) → ℕ → ℕ → ℕ
preferred has other character = if has other then other else character

-- a character of a text that runs in a direction, mirrored in backward text
abbrev pub mirrored_in : (ℕ → Bool) → Direction → ℕ → ℕ
mirrored_in has direction character =
    if is_backward direction then preferred has (mirrored character) character else character

-- and then vertical in columns
abbrev pub exchanged : (ℕ → Bool) → Direction → ℕ → ℕ
exchanged has direction character =
    let seen = mirrored_in has direction character in
    if is_vertical direction then preferred has (vertical_form seen) seen else seen

-- so is a character at its place
abbrev pub exchanged_at : (ℕ → Bool) → Direction → PlacedCharacter → PlacedCharacter
exchanged_at has direction c = record c { character = exchanged has direction c.character }

-- the characters of a text, each at its own place
abbrev pub own_characters : ClusterUnit → List ℕ → List PlacedCharacter
own_characters unit text = map placed (characters unit text)

-- the same at their own places or at those of their clusters
abbrev pub by_level : ClusterLevel → List PlacedCharacter → List PlacedCharacter
by_level Graphemes characters = merged_clusters characters
by_level Characters characters = characters

-- those of a text in its order, and those of one whose clusters are taken from last to first, each with one place
abbrev pub placed_text : (ℕ → Bool) → Direction → ClusterLevel → ClusterUnit → List ℕ → List PlacedCharacter
placed_text has direction level unit text = map (exchanged_at has direction) (by_level level (own_characters unit text))

abbrev pub turned_text : (ℕ → Bool) → Direction → ClusterUnit → List ℕ → List PlacedCharacter
turned_text has direction unit text = map (exchanged_at has direction) (turned_clusters (own_characters unit text))

-- the direction that a text is told, or else that of its script
abbrev pub told_direction : Option Direction → Option Script → Direction
told_direction direction script = unwrap_or direction (natural_direction script)

-- whether a text of a script that runs in a direction is shaped in the other one
abbrev pub is_turned : Option Script → Direction → List ℕ → Bool
is_turned script direction text =
    let native = native_direction script text direction in
    if is_forward direction then is_backward native else is_forward native

-- its characters as they are shaped
abbrev pub shaped_characters :
    (ℕ → Bool) → Option Script → Direction → ClusterLevel → ClusterUnit → List ℕ → List PlacedCharacter
shaped_characters has script direction level unit text =
    normalized has
    (if is_turned script direction text then turned_text has direction unit text else placed_text has direction level unit text)

-- a character as a glyph
abbrev pub placed_glyph : FaceValue → PlacedCharacter → TextGlyph
placed_glyph face c = record (text_glyph face c.place c.character) { kind = placed_kind c }

-- their glyphs
abbrev pub prepared_glyphs :
    FaceValue → ClusterUnit → ClusterLevel → Option Script → Direction → List ℕ → List TextGlyph
prepared_glyphs face unit level script direction text =
    map (placed_glyph face) (shaped_characters (has_glyph face) script direction level unit text)
