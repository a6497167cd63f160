-- What a font holds.
use Rattle.std.specs.Prelude.{ℕ, List, [], Option, Some, None, is_some, unwrap_or, Bool}
use Rattle.aat_lookup.specs.Keys.{value_in}
use Rattle.aat_font.specs.Morx.{chains_of}
use Rattle.aat_kerning_tables.specs.declared.kern.KernSubtable.{KernSubtable}
use Rattle.aat_kerning_tables.specs.declared.kerx.KerxSubtable.{KerxSubtable}
use Rattle.aat_machine_tables.specs.declared.morx.Chain.{Chain}
use Rattle.aat_font.specs.declared.morx.Morx.{Morx}
use Rattle.aat_font.specs.declared.face.FaceTables.{FaceTables}
use Rattle.aat_font.specs.declared.face.hb_font_t.{hb_font_t}

-- the optional tables
abbrev pub tables_of : hb_font_t → FaceTables
tables_of font = font.tables

-- the chains of a table, none where there is no table
abbrev pub chains_in : Option Morx → List Chain
chains_in None = []
chains_in (Some m) = chains_of m

-- the subtables of an extended kerning table, none where there is no table
abbrev pub kerx_in : Option (List KerxSubtable) → List KerxSubtable
kerx_in None = []
kerx_in (Some subtables) = subtables

-- the subtables of a kerning table, none where there is no table
abbrev pub kern_in : Option (List KernSubtable) → List KernSubtable
kern_in None = []
kern_in (Some subtables) = subtables

-- the classes of glyphs, if the font has them
abbrev pub glyph_classes_of : hb_font_t → Option (List (ℕ × ℕ))
glyph_classes_of font = font.glyph_classes

-- the advances of glyphs, if the font has them
abbrev pub advances_of : hb_font_t → Option (List (ℕ × ℕ))
advances_of font = font.advances

-- whether the font has classes of glyphs
abbrev pub has_classes : hb_font_t → Bool
has_classes font = is_some (glyph_classes_of font)

-- the value of a glyph in a lookup that may be missing, 0 where there is none
abbrev pub value_or_zero : Option (List (ℕ × ℕ)) → ℕ → ℕ
value_or_zero None g = 0
value_or_zero (Some pairs) g = unwrap_or (value_in pairs g) 0

-- the properties of a glyph
abbrev pub props_of : hb_font_t → ℕ → ℕ
props_of font g = value_or_zero (glyph_classes_of font) g

-- the advance of a glyph
abbrev pub advance_of : hb_font_t → ℕ → ℕ
advance_of font g = value_or_zero (advances_of font) g
