-- Worked examples of texts that are turned and mirrored.
use Rattle.std.specs.Prelude.{◌≡◌, [], ◌∷◌, encode_utf8_all, map, Some, None}
use Rattle.ucd_script.specs.declared.Script.TheVariants as Scripts
use Rattle.aat_characters.specs.NormalizedExamples.{among, at}
use Rattle.aat_glyph.specs.declared.glyph.Direction.TheVariants.{LeftToRight, RightToLeft, TopToBottom}
use Rattle.aat_shaped_text.specs.declared.text.CharacterKind.TheVariants.{Mark, Other, Space}
use Rattle.aat_shaped_text.specs.declared.text.SpaceWidth.TheVariants.{Em}
use Rattle.aat_text.specs.Kinds.{placed_kind}
use Rattle.aat_text.specs.Prepared.{shaped_characters}
use Rattle.aat_text.specs.declared.clusters.ClusterLevel.TheVariants as Level
use Rattle.aat_text.specs.declared.unit.ClusterUnit.TheVariants.{Bytes}

-- Hebrew that is told to run to the right is turned: a point stays behind its letter, and has its place
abbrev pub HebrewIsTurned : Type 0
HebrewIsTurned =
    shaped_characters (among []) (Some Scripts.Hebrew) LeftToRight Level.Characters Bytes (encode_utf8_all (0x5D0 ∷ 0x5B0 ∷ 0x5D1 ∷ []))
    ≡ at 4 0x5D1 ∷ at 0 0x5D0 ∷ at 0 0x5B0 ∷ []

-- two people with a joiner between them are one cluster, and stay so in a text that is turned
abbrev pub FamiliesStayWhole : Type 0
FamiliesStayWhole =
    shaped_characters (among []) (Some Scripts.Hebrew) LeftToRight Level.Graphemes Bytes (encode_utf8_all (0x5D0 ∷ 0x1F468 ∷ 0x200D ∷ 0x1F469 ∷ []))
    ≡ at 2 0x1F468 ∷ at 2 0x200D ∷ at 2 0x1F469 ∷ at 0 0x5D0 ∷ []

-- a dot below has the class of marks below, a space that the font lacks its width, and a space that is as wide as that
-- of the font is no other one
abbrev pub KindsAreTold : Type 0
KindsAreTold =
    map placed_kind
    (shaped_characters (among (0x20 ∷ 0x61 ∷ 0x323 ∷ [])) None LeftToRight Level.Graphemes Bytes
    (encode_utf8_all (0x61 ∷ 0x323 ∷ 0x2003 ∷ 0xA0 ∷ [])))
    ≡ Other ∷ Mark 220 ∷ Space Em ∷ Other ∷ []

-- a parenthesis is mirrored in backward text, where the font has the other one, and stays in forward text
abbrev pub ParenthesesAreMirrored : Type 0
ParenthesesAreMirrored =
    (shaped_characters (among (0x29 ∷ [])) (Some Scripts.Hebrew) RightToLeft Level.Graphemes Bytes (encode_utf8_all (0x5D0 ∷ 0x28 ∷ []))
    ≡ at 0 0x5D0 ∷ at 2 0x29 ∷ [])
    × (shaped_characters (among []) (Some Scripts.Hebrew) RightToLeft Level.Graphemes Bytes (encode_utf8_all (0x5D0 ∷ 0x28 ∷ []))
    ≡ at 0 0x5D0 ∷ at 2 0x28 ∷ [])
    × (shaped_characters (among (0x29 ∷ [])) None LeftToRight Level.Graphemes Bytes (encode_utf8_all (0x28 ∷ [])) ≡ at 0 0x28 ∷ [])
    × (shaped_characters (among (0xFE11 ∷ [])) None TopToBottom Level.Graphemes Bytes (encode_utf8_all (0x3001 ∷ [])) ≡ at 0 0xFE11 ∷ [])
