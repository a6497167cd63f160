-- Kerning as it runs over a text, and where it leaves a line open, so that its parts are kerned alike. (No chapter of the
-- manual: where a line may be broken is the shaper's own.)
use Rattle.std.specs.Prelude.{ℕ, ◌-◌, Bool, List, length, is_some, if◌then◌else◌}
use Rattle.aat_buffer.specs.Buffer.{Buffer}
use Rattle.aat_glyph.specs.Directions.{is_backward}
use Rattle.aat_glyph.specs.declared.glyph.Direction.{Direction}
use Rattle.aat_font.specs.Face.{kern_in, kerx_in, tables_of}
use Rattle.aat_font.specs.declared.face.hb_font_t.{hb_font_t}
use Rattle.aat_font.specs.declared.plan.Feature.{Feature}
use Rattle.aat_cut_kinds.specs.KernedTables.{by_kern, by_kerx}
use Rattle.aat_cut_kinds.specs.KerningCuts.{KernedRun}
use Rattle.aat_shaped_text.specs.TextFeatures.{requests_kerning}

-- all subtables of the kerning table that is in use, as they run over texts of a direction under the features of a text
abbrev pub table_run : hb_font_t → Direction → List Feature → KernedRun
table_run face d features =
    let asked = requests_kerning features in
    if is_some (tables_of face).kerx
    then by_kerx asked 8 (tables_of face).ankr (kerx_in (tables_of face).kerx) d
    else by_kern asked 8 (kern_in (tables_of face).kern) d

-- a place of a line of n glyphs in drawing order, as one in reading order
abbrev pub read_place : Direction → ℕ → ℕ → ℕ
read_place d n i = if is_backward d then n - i else i

-- kerning leaves a line open at a place in drawing order
abbrev pub kerning_opens : hb_font_t → Direction → List Feature → Buffer → ℕ → Bool
kerning_opens face d features b i = (table_run face d features).opens (read_place d (length b.line) i) b
