-- Worked examples of what a text is typeset with.
use Rattle.std.specs.Prelude.{◌≡◌, ℕ, true, false, List, [], ◌∷◌, Some, None}
use Rattle.aat_characters.specs.declared.script_rules.ScriptRules.TheVariants.{Default, Hebrew, Khmer}
use Rattle.aat_font.specs.declared.face.FaceTables.{FaceTables}
use Rattle.aat_font.specs.declared.face.hb_font_t.{hb_font_t}
use Rattle.aat_glyph.specs.declared.glyph.Direction.TheVariants.{LeftToRight, RightToLeft}
use Rattle.aat_shaped_text.specs.declared.text.CharacterKind.TheVariants.{Other}
use Rattle.aat_shaped_text.specs.declared.text.TextGlyph.{TextGlyph}
use Rattle.ucd_script.specs.declared.Script.TheVariants as scripts
use Rattle.aat_typesetter.specs.ScriptSettings.{boxes_for, features_for, kern_off, marks_for}
use Rattle.aat_typesetter.specs.ScriptTags.{script_of_tag}
use Rattle.aat_typesetter.specs.Stops.{stops_for}

-- no tables, and the extended kerning table alone
abbrev pub no_tables : FaceTables
no_tables = record { morx = None; kerx = None; kern = None; feat = None; ankr = None }

abbrev pub kerx_alone : FaceTables
kerx_alone = record no_tables { kerx = Some [] }

-- a font with these tables
abbrev pub font_of : FaceTables → hb_font_t
font_of tables = record { tables = tables; glyph_classes = None; advances = None }

-- Khmer does not take `kern`, which is off where there is no `kerx`; Hebrew takes it, and glyphs without a script do
abbrev pub KhmerIsNotKerned : Type 0
KhmerIsNotKerned =
    (features_for (font_of no_tables) (Some Khmer) [] ≡ kern_off ∷ [])
    × (features_for (font_of kerx_alone) (Some Khmer) [] ≡ [])
    × (features_for (font_of no_tables) (Some Hebrew) [] ≡ [])
    × (features_for (font_of no_tables) None [] ≡ [])

-- marks lose their width without `kerx`, and move then in forward text; those of Khmer and of glyphs keep it
abbrev pub MarksAreNarrow : Type 0
MarksAreNarrow =
    (marks_for (font_of no_tables) (Some Default) LeftToRight ≡ Some true)
    × (marks_for (font_of no_tables) (Some Default) RightToLeft ≡ Some false)
    × (marks_for (font_of kerx_alone) (Some Default) LeftToRight ≡ None)
    × (marks_for (font_of no_tables) (Some Khmer) LeftToRight ≡ None)
    × (marks_for (font_of no_tables) None LeftToRight ≡ None)

-- they are placed by boxes without `kerx`, but not those of Khmer
abbrev pub MarksAreBoxed : Type 0
MarksAreBoxed =
    (boxes_for (font_of no_tables) (Some Hebrew) RightToLeft ≡ Some false)
    × (boxes_for (font_of kerx_alone) (Some Hebrew) RightToLeft ≡ None)
    × (boxes_for (font_of no_tables) (Some Khmer) LeftToRight ≡ None)

-- a glyph of a text
abbrev pub glyph_at : ℕ → ℕ → TextGlyph
glyph_at id cluster =
    record { glyph_id = id; cluster = cluster; is_ignorable = false; is_mark = false; kind = Other }

-- a letter, two spaces and a letter: a line may end behind the spaces, which hang from the first one on
abbrev pub SpacesHang : Type 0
SpacesHang =
    stops_for (Some (record { 0 = 3 })) (glyph_at 5 0 ∷ glyph_at 3 1 ∷ glyph_at 3 2 ∷ glyph_at 6 3 ∷ [])
    (record { place = 3; is_forced = false } ∷ [])
    ≡ record { place = 3; hang = Some 1; is_forced = false } ∷ record { place = 4; hang = None; is_forced = true } ∷ []

-- `Latn`, `lATN` and `KHMR` are tags of scripts, and `Late` is none
abbrev pub TagsAreCased : Type 0
TagsAreCased =
    (script_of_tag 0x4C61746E ≡ Some scripts.Latin)
    × (script_of_tag 0x6C41544E ≡ Some scripts.Latin)
    × (script_of_tag 0x4B484D52 ≡ Some scripts.Khmer)
    × (script_of_tag 0x4C617465 ≡ None)
