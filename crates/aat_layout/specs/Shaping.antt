-- Shaping: substitution, the advances, kerning, and the deleted glyphs go. TrueType Reference Manual: The 'morx' table,
-- The 'kerx' table and The 'kern' table.
use Rattle.std.specs.Prelude.{ℕ, Bool, true, false, pos, ◌-ℤ◌, is_some, map, if◌then◌else◌}
use Rattle.aat_buffer.specs.Buffer.{Buffer, with_positions, zero_position}
use Rattle.aat_buffer.specs.Removal.{is_deleted, removed}
use Rattle.aat_glyph.specs.Directions.{is_horizontal}
use Rattle.aat_glyph.specs.declared.glyph.GlyphPosition.{GlyphPosition}
use Rattle.aat_font.specs.Face.{advance_of, kern_in, kerx_in, tables_of}
use Rattle.aat_font.specs.declared.face.hb_font_t.{hb_font_t}
use Rattle.aat_font.specs.declared.plan.hb_ot_shape_plan_t.{hb_ot_shape_plan_t}
use Rattle.aat_run.specs.Outcome.{Outcome, then_run, untouched}
use Rattle.aat_kerning.specs.Positioning.{kern_positioning, kerx_positioning}
use Rattle.aat_kerning.specs.Zeroing.{zeroed}
use Rattle.aat_layout.specs.Planned.{substitution}

-- the position that a glyph has by its advance alone: to the right where the text is horizontal, and else down, which
-- is below 0
abbrev pub advanced : Bool → ℕ → GlyphPosition
advanced true advance = record zero_position { x_advance = pos advance }
advanced false advance = record zero_position { y_advance = pos 0 -ℤ pos advance }

-- each glyph has the position that its advance gives it
abbrev pub with_advances : (ℕ → ℕ) → Buffer → Buffer
with_advances advance b = with_positions b (map (λ g. advanced (is_horizontal b.direction) (advance g.glyph_id)) b.line)

-- the advances, what kerns, and the deleted glyphs take no room
unfoldable pub placed_by : (ℕ → ℕ) → (Buffer → Outcome) → Buffer → Outcome
placed_by advance kern b =
    let o = kern (with_advances advance b) in record { buffer = zeroed o.buffer; turns = o.turns }

-- the same behind what substitutes; the turns are added up
unfoldable pub shaped_with_deleted_by : (Buffer → Outcome) → (ℕ → ℕ) → (Buffer → Outcome) → Buffer → Outcome
shaped_with_deleted_by substitute advance kern b = then_run (substitute b) (placed_by advance kern)

-- the same, and then no deleted glyph is left
unfoldable pub shaped_by : (Buffer → Outcome) → (ℕ → ℕ) → (Buffer → Outcome) → Buffer → Outcome
shaped_by substitute advance kern b =
    let o = shaped_with_deleted_by substitute advance kern b in
    record { buffer = removed is_deleted o.buffer; turns = o.turns }

-- substitution where the plan applies the table; else the line stays as it is, and no request is looked at
abbrev pub substituted_by_plan : hb_ot_shape_plan_t → hb_font_t → Buffer → Outcome
substituted_by_plan plan face b = if plan.apply_morx then substitution plan face b else untouched b

-- kerning by the extended kerning table where the font has it, and else by the kerning table
abbrev pub kerned_by_font : hb_ot_shape_plan_t → hb_font_t → Buffer → Outcome
kerned_by_font plan face b =
    if is_some (tables_of face).kerx
    then kerx_positioning plan.requested_kerning plan.kern_mask (tables_of face).ankr (kerx_in (tables_of face).kerx) b
    else kern_positioning plan.requested_kerning plan.kern_mask (kern_in (tables_of face).kern) b

-- shaping by a plan and a font
abbrev pub shaping : hb_ot_shape_plan_t → hb_font_t → Buffer → Outcome
shaping plan face b = shaped_by (substituted_by_plan plan face) (advance_of face) (kerned_by_font plan face) b

-- the same, where the deleted glyphs stay, and take no room
abbrev pub shaping_with_deleted : hb_ot_shape_plan_t → hb_font_t → Buffer → Outcome
shaping_with_deleted plan face b =
    shaped_with_deleted_by (substituted_by_plan plan face) (advance_of face) (kerned_by_font plan face) b

-- what is left of a line behind substitution: advances, kerning, and deleted glyphs without room
abbrev pub placing : hb_ot_shape_plan_t → hb_font_t → Buffer → Outcome
placing plan face b = placed_by (advance_of face) (kerned_by_font plan face) b
