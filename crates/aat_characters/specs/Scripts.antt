-- The script of a text, and the direction in which a script is written.
use Rattle.std.specs.Prelude.{ℕ, List, Option, Some, None, slice_get}
use Rattle.std.specs.List.{filter_map}
use Rattle.std.specs.Str.{chars}
use Rattle.ucd_script.specs.Script.{script}
use Rattle.ucd_script.specs.declared.Script.{Script}
use Rattle.ucd_script.specs.declared.Script.TheVariants as Scripts
use Rattle.aat_glyph.specs.declared.glyph.Direction.{Direction}
use Rattle.aat_glyph.specs.declared.glyph.Direction.TheVariants.{LeftToRight, RightToLeft}

-- a script, if it is one of characters of its own
abbrev pub if_specific : Script → Option Script
if_specific Scripts.Common = None
if_specific Scripts.Inherited = None
if_specific Scripts.Unknown = None
if_specific other = Some other

-- that of a character
abbrev pub specific_script : ℕ → Option Script
specific_script character = if_specific (script character)

-- the script of a text: that of its first character that has a specific one
abbrev pub text_script : List ℕ → Option Script
text_script text = slice_get (filter_map specific_script (chars text)) 0

-- the direction in which a script is written along rows, none where it is written both ways
abbrev pub script_direction : Script → Option Direction
script_direction Scripts.OldHungarian = None
script_direction Scripts.OldItalic = None
script_direction Scripts.Runic = None
script_direction Scripts.Tifinagh = None
script_direction Scripts.Adlam = Some RightToLeft
script_direction Scripts.Arabic = Some RightToLeft
script_direction Scripts.Avestan = Some RightToLeft
script_direction Scripts.Chorasmian = Some RightToLeft
script_direction Scripts.Cypriot = Some RightToLeft
script_direction Scripts.Elymaic = Some RightToLeft
script_direction Scripts.Garay = Some RightToLeft
script_direction Scripts.HanifiRohingya = Some RightToLeft
script_direction Scripts.Hatran = Some RightToLeft
script_direction Scripts.Hebrew = Some RightToLeft
script_direction Scripts.ImperialAramaic = Some RightToLeft
script_direction Scripts.InscriptionalPahlavi = Some RightToLeft
script_direction Scripts.InscriptionalParthian = Some RightToLeft
script_direction Scripts.Kharoshthi = Some RightToLeft
script_direction Scripts.Lydian = Some RightToLeft
script_direction Scripts.Mandaic = Some RightToLeft
script_direction Scripts.Manichaean = Some RightToLeft
script_direction Scripts.MendeKikakui = Some RightToLeft
script_direction Scripts.MeroiticCursive = Some RightToLeft
script_direction Scripts.MeroiticHieroglyphs = Some RightToLeft
script_direction Scripts.Nabataean = Some RightToLeft
script_direction Scripts.Nko = Some RightToLeft
script_direction Scripts.OldNorthArabian = Some RightToLeft
script_direction Scripts.OldSogdian = Some RightToLeft
script_direction Scripts.OldSouthArabian = Some RightToLeft
script_direction Scripts.OldTurkic = Some RightToLeft
script_direction Scripts.OldUyghur = Some RightToLeft
script_direction Scripts.Palmyrene = Some RightToLeft
script_direction Scripts.Phoenician = Some RightToLeft
script_direction Scripts.PsalterPahlavi = Some RightToLeft
script_direction Scripts.Samaritan = Some RightToLeft
script_direction Scripts.Sidetic = Some RightToLeft
script_direction Scripts.Sogdian = Some RightToLeft
script_direction Scripts.Syriac = Some RightToLeft
script_direction Scripts.Thaana = Some RightToLeft
script_direction Scripts.Yezidi = Some RightToLeft
script_direction _ = Some LeftToRight
