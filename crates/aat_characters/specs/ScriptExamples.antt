-- Worked examples of scripts, native directions and exchanged characters.
use Rattle.std.specs.Prelude.{◌≡◌, [], ◌∷◌, encode_utf8_all, Some, None}
use Rattle.ucd_script.specs.declared.Script.TheVariants as Scripts
use Rattle.aat_glyph.specs.declared.glyph.Direction.TheVariants.{LeftToRight, RightToLeft, TopToBottom, BottomToTop}
use Rattle.aat_characters.specs.Exchanges.{mirrored, vertical_form}
use Rattle.aat_characters.specs.MirroredRows.{mirrored_rows}
use Rattle.aat_characters.specs.Native.{native_direction, natural_direction, told_script}
use Rattle.aat_characters.specs.Scripts.{text_script}
use Rattle.aat_characters.specs.VerticalRows.{vertical_rows}
use Rattle.aat_characters.specs.declared.mirrored_rows.TheConstants.{MIRRORED}
use Rattle.aat_characters.specs.declared.vertical_rows.TheConstants.{VERTICAL}

-- digits and spaces have no script; a text of Hebrew runs to the left, also if it is told to run to the right
abbrev pub ScriptsRun : Type 0
ScriptsRun =
    (text_script (encode_utf8_all (0x31 ∷ 0x20 ∷ 0x5D0 ∷ 0x61 ∷ [])) ≡ Some Scripts.Hebrew)
    × (text_script (encode_utf8_all (0x31 ∷ 0x20 ∷ [])) ≡ None)
    × (natural_direction (told_script None (encode_utf8_all (0x20 ∷ 0x5D0 ∷ 0x61 ∷ []))) ≡ RightToLeft)
    × (natural_direction (told_script None (encode_utf8_all (0x31 ∷ []))) ≡ LeftToRight)
    × (native_direction (Some Scripts.Hebrew) (encode_utf8_all (0x5D0 ∷ [])) LeftToRight ≡ RightToLeft)
    × (native_direction (Some Scripts.Latin) (encode_utf8_all (0x61 ∷ [])) RightToLeft ≡ LeftToRight)
    × (native_direction (Some Scripts.Hebrew) (encode_utf8_all (0x5D0 ∷ [])) BottomToTop ≡ TopToBottom)

-- Arabic digits run to the right, if they are told to, and with a letter they do not; runes run as they are told
abbrev pub DigitsRunToTheRight : Type 0
DigitsRunToTheRight =
    (native_direction (Some Scripts.Arabic) (encode_utf8_all (0x661 ∷ 0x64B ∷ [])) LeftToRight ≡ LeftToRight)
    × (native_direction (Some Scripts.Arabic) (encode_utf8_all (0x661 ∷ 0x627 ∷ [])) LeftToRight ≡ RightToLeft)
    × (native_direction (Some Scripts.Runic) (encode_utf8_all (0x16A0 ∷ [])) RightToLeft ≡ RightToLeft)
    × (native_direction (Some Scripts.Runic) (encode_utf8_all (0x16A0 ∷ [])) LeftToRight ≡ LeftToRight)

-- the rows of the code are those of the definition; a parenthesis is mirrored, and a letter is not
abbrev pub RowsAreUnicodes : Type 0
RowsAreUnicodes =
    (MIRRORED ≡ mirrored_rows) × (VERTICAL ≡ vertical_rows)
    × (mirrored 0x28 ≡ 0x29) × (mirrored 0x61 ≡ 0x61) × (mirrored 0x226B ≡ 0x226A)
    × (vertical_form 0x3001 ≡ 0xFE11) × (vertical_form 0x28 ≡ 0x28)
