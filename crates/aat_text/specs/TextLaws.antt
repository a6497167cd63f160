-- What follows of the glyphs of a text, and of the places where its lines may end.
use Rattle.std.specs.Prelude.{◌≡◌, ℕ, ◌<◌, List, All, AllPairs, IsTrue, map}
use Rattle.std.specs.Str.{chars, IsUtf8}
use Rattle.aat_face.specs.Faces.{FaceValue}
use Rattle.aat_shaped_text.specs.Breaks.{is_rising}
use Rattle.aat_shaped_text.specs.declared.text.TextGlyph.{TextGlyph}
use Rattle.aat_text.specs.LineEnds.{line_ends}
use Rattle.aat_text.specs.Places.{count_in}
use Rattle.aat_text.specs.TextGlyphs.{text_glyph, text_of}
use Rattle.aat_text.specs.declared.unit.ClusterUnit.{ClusterUnit}

-- clusters never fall along the glyphs of a text
abbrev pub TextsRise : Type 0
TextsRise = (face : FaceValue) (unit : ClusterUnit) (text : List ℕ) → IsTrue (is_rising (text_of face unit text))

-- a glyph as one of the cluster 0
abbrev pub without_cluster : TextGlyph → TextGlyph
without_cluster g = record g { cluster = 0 }

-- but for their clusters, they are those of its characters in their order
abbrev pub CharactersHaveGlyphs : Type 0
CharactersHaveGlyphs =
    (face : FaceValue) (unit : ClusterUnit) (text : List ℕ) → IsUtf8 text
    → map without_cluster (text_of face unit text) ≡ map (text_glyph face 0) (chars text)

-- the places where its lines may end rise, and are within it
abbrev pub LineEndsRise : Type 0
LineEndsRise =
    (unit : ClusterUnit) (text : List ℕ) → IsUtf8 text
    → AllPairs (λ a b. a.place < b.place) (line_ends unit text)
    × All (λ a. (0 < a.place) × (a.place < count_in unit text)) (line_ends unit text)
