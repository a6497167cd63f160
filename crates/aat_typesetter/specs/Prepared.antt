-- A text that is ready to be shaped.
use Rattle.std.specs.Prelude.{ℕ, ◌==◌, List, [], map, Option, Some, None, unwrap_or, if◌then◌else◌}
use Rattle.aat_characters.specs.Native.{native_direction, told_script}
use Rattle.aat_characters.specs.ScriptRules.{script_rules_of}
use Rattle.aat_characters.specs.declared.script_rules.ScriptRules.{ScriptRules}
use Rattle.aat_face.specs.Faces.{FaceValue}
use Rattle.aat_glyph.specs.declared.glyph.Direction.{Direction}
use Rattle.aat_glyph.specs.declared.glyph.Direction.TheVariants.{LeftToRight}
use Rattle.aat_shaped_text.specs.declared.text.TextGlyph.{TextGlyph}
use Rattle.aat_text.specs.Prepared.{prepared_glyphs, told_direction}
use Rattle.aat_typesetter.specs.declared.options.TextOptions.{TextOptions}

-- a text that is ready: its glyphs in the order in which they are shaped, the rules of its script, if it is one of
-- characters, and the direction in which it is shaped
pub record Prepared : Type 0 where
  pub glyphs : List TextGlyph
  pub rules : Option ScriptRules
  pub direction : Direction

-- no text
abbrev pub no_text : Prepared
no_text = record { glyphs = []; rules = None; direction = LeftToRight }

-- the direction in which a text is shaped: the native one of that which is told, or else of its script's
abbrev pub shaped_direction : TextOptions → List ℕ → Direction
shaped_direction options text =
    let script = told_script options.script text in
    native_direction script text (told_direction options.direction script)

-- a glyph of a text of characters: 0, which stands for one that the font lacks, is the glyph that is told for it
abbrev pub told_glyph : ℕ → TextGlyph → TextGlyph
told_glyph not_found g = if g.glyph_id == 0 then record g { glyph_id = not_found } else g

-- its glyphs, as HarfBuzz hands them to the layer
abbrev pub shaped_glyphs : FaceValue → TextOptions → List ℕ → List TextGlyph
shaped_glyphs face options text =
    let script = told_script options.script text in
    map (told_glyph options.not_found)
    (prepared_glyphs face options.unit options.level script (told_direction options.direction script) text)

-- a text made ready in a face
abbrev pub prepared : FaceValue → TextOptions → List ℕ → Prepared
prepared face options text = record {
  glyphs = shaped_glyphs face options text;
  rules = Some (script_rules_of (told_script options.script text) (shaped_direction options text));
  direction = shaped_direction options text;
}

-- the options of a text that is broken into lines: it is told the direction in which it is shaped, and so is not turned
abbrev pub options_for_lines : TextOptions → List ℕ → TextOptions
options_for_lines options text = record options { direction = Some (shaped_direction options text) }

-- a text of glyphs, which runs from left to right where no direction is told
abbrev pub glyph_text : Option Direction → List TextGlyph → Prepared
glyph_text told glyphs = record { glyphs = glyphs; rules = None; direction = unwrap_or told LeftToRight }
