-- Kerning by a plan and a font: by its kerning table, and by its extended kerning table.
use Rattle.std.specs.Prelude.{List, map}
use Rattle.aat_buffer.specs.Buffer.{Buffer}
use Rattle.aat_font.specs.Face.{kern_in, kerx_in, tables_of}
use Rattle.aat_font.specs.declared.face.hb_font_t.{hb_font_t}
use Rattle.aat_kerning_tables.specs.declared.kern.KernSubtable.{KernSubtable}
use Rattle.aat_kerning_tables.specs.declared.kerx.KerxSubtable.{KerxSubtable}
use Rattle.aat_font.specs.declared.plan.hb_ot_shape_plan_t.{hb_ot_shape_plan_t}
use Rattle.aat_kerning.specs.Cut.{IsLeftOfAlikeParts, IsLeftOfParts}
use Rattle.aat_kerning.specs.Pairs.{kern_skips, kerx_skips}
use Rattle.aat_kerning.specs.Positioning.{Kerning, kerning_of_kern_subtable, kern_positioning, kerning_of_kerx_subtable, kerx_positioning}
use Rattle.aat_run.specs.Outcome.{Outcome}

-- the subtables of a font's kerning table, none where there is no table
abbrev pub kern_subtables : hb_font_t → List KernSubtable
kern_subtables face = kern_in (tables_of face).kern

-- those of its extended kerning table
abbrev pub kerx_subtables : hb_font_t → List KerxSubtable
kerx_subtables face = kerx_in (tables_of face).kerx

-- what a plan and a font's kerning table leave of a line
abbrev pub kerned_by_kern : hb_ot_shape_plan_t → hb_font_t → Buffer → Outcome
kerned_by_kern plan face b = kern_positioning plan.requested_kerning plan.kern_mask (kern_subtables face) b

-- what a plan and its extended kerning table leave
abbrev pub kerned_by_kerx : hb_ot_shape_plan_t → hb_font_t → Buffer → Outcome
kerned_by_kerx plan face b =
    kerx_positioning plan.requested_kerning plan.kern_mask (tables_of face).ankr (kerx_subtables face) b

-- the subtables, as positioning sees them
abbrev pub kernings_of_kern : hb_ot_shape_plan_t → hb_font_t → List Kerning
kernings_of_kern plan face = map (kerning_of_kern_subtable plan.kern_mask) (kern_subtables face)

abbrev pub kernings_of_kerx : hb_ot_shape_plan_t → hb_font_t → List Kerning
kernings_of_kerx plan face = map (kerning_of_kerx_subtable plan.kern_mask (tables_of face).ankr) (kerx_subtables face)

-- a line that was left by the kerning table can be cut, into parts with any buffer flags
abbrev pub KernCanBeCut : hb_ot_shape_plan_t → hb_font_t → Buffer → Buffer → Type 0
KernCanBeCut plan face b left = IsLeftOfParts kern_skips (kernings_of_kern plan face) (kerned_by_kern plan face) b left

-- into parts with the buffer flags of the whole
abbrev pub KernCanBeCutAlike : hb_ot_shape_plan_t → hb_font_t → Buffer → Buffer → Type 0
KernCanBeCutAlike plan face b left =
    IsLeftOfAlikeParts kern_skips (kernings_of_kern plan face) (kerned_by_kern plan face) b left

-- the same of a line that was left by the extended kerning table
abbrev pub KerxCanBeCut : hb_ot_shape_plan_t → hb_font_t → Buffer → Buffer → Type 0
KerxCanBeCut plan face b left = IsLeftOfParts kerx_skips (kernings_of_kerx plan face) (kerned_by_kerx plan face) b left

abbrev pub KerxCanBeCutAlike : hb_ot_shape_plan_t → hb_font_t → Buffer → Buffer → Type 0
KerxCanBeCutAlike plan face b left =
    IsLeftOfAlikeParts kerx_skips (kernings_of_kerx plan face) (kerned_by_kerx plan face) b left
