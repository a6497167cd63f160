-- What kerns a text, and which places of its line that leaves open.
use Rattle.std.specs.Prelude.{ℕ, ◌&&◌, Bool, true, false, List, get_or, if◌then◌else◌}
use Rattle.std.specs.Borrow.{Bor}
use Rattle.aat_buffer.specs.Buffer.{glyph_at}
use Rattle.aat_font.specs.declared.face.hb_font_t.{hb_font_t}
use Rattle.aat_glyph.specs.declared.glyph.Direction.{Direction}
use Rattle.aat_glyph.specs.declared.glyph.hb_glyph_info_t.{hb_glyph_info_t}
use Rattle.aat_kerning.specs.Pairs.{is_solid}
use Rattle.aat_shaped_text.specs.Breaks.{kerns_by_pairs, may_break_by, skips_of}
use Rattle.aat_shaped_text.specs.declared.breaks.BreakRules.{BreakRules}
use Rattle.aat_shaped_text.specs.Unkerned.{is_unkerned}
use Rattle.aat_drawn_text.specs.declared.kerned.KernedBy.{KernedBy}
use Rattle.aat_drawn_text.specs.declared.kerned.KernedBy.TheVariants.{Nothing, Others, Pairs}
use Rattle.aat_drawn_text.specs.declared.kerned.OpenPlaces.{OpenPlaces}
use Rattle.aat_drawn_text.specs.declared.kerned.OpenPlaces.TheVariants.{Each, Solid, Told}

-- what of a font kerns texts of a direction
abbrev pub kerned_by : hb_font_t → Direction → KernedBy
kerned_by face d = if is_unkerned face d then Nothing else (if kerns_by_pairs face d then Pairs else Others)

-- the glyphs of the kerned line tell before which places it may be broken
abbrev pub is_told_by_glyphs : KernedBy → Bool
is_told_by_glyphs Nothing = true
is_told_by_glyphs Pairs = true
is_told_by_glyphs Others = false

-- which places kerning leaves open: by the glyphs, or those that are told of
abbrev pub open_places : hb_font_t → KernedBy → Bor (List Bool) → OpenPlaces
open_places face Nothing places = Each
open_places face Pairs places = Solid (skips_of face)
open_places face Others places = Told places

-- a line may be cut at a place that is open by its kerning and by its glyphs
abbrev pub is_open : OpenPlaces → BreakRules → List hb_glyph_info_t → ℕ → Bool
is_open Each rules line j = may_break_by rules line j
is_open (Solid skips) rules line j = is_solid skips (glyph_at line j) && may_break_by rules line j
is_open (Told places) rules line j = get_or places.now j false
