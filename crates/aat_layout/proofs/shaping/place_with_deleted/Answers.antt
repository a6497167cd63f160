use Rattle.std.proofs.Common.{◌≡◌, ap, refl}
use Rattle.aat_font.specs.Face.{advance_of}
use Rattle.aat_buffer.specs.Buffer.{Buffer}
use Rattle.aat_layout.proofs.Shaped.{placed_by_test, placed_so, settings_of_shaped, standing_of_shaped}
use Rattle.aat_layout.proofs.ShapedLines.{length_of_shaped, order_of_placed, small_marked}
use Rattle.aat_layout.specs.Shaping.{kerned_by_font}
use Rattle.aat_layout.proofs.shaping.place_with_deleted.Goals as goal

pub returns-clause-placing : goal.returns-clause-placing
returns-clause-placing g c =
    placed_so (advance_of c.args.face.now) (kerned_by_font c.args.plan.now c.args.face.now) c.args.buffer.now c.advance.new.buffer
    c.kern_by_font-kerning.new.buffer c.hb_aat_layout_zero_width_deleted_glyphs.new.buffer c.kern_by_font-kerning.result
    c.in_ok-advance.ensures.ok c.kern_by_font-kerning.ensures.kerned c.hb_aat_layout_zero_width_deleted_glyphs.ensures

pub returns-clause-ids : goal.returns-clause-ids
returns-clause-ids g c =
    let d = c.advance.new.buffer in
    let e = c.kern_by_font-kerning.new.buffer in
    let f = c.hb_aat_layout_zero_width_deleted_glyphs.new.buffer in
    let line_d : d.line ≡ c.args.buffer.now.line = ap (λ (x : Buffer). x.line) c.in_ok-advance.ensures.ok in
    let line_f : f.line ≡ e.line = ap (λ (x : Buffer). x.line) c.hb_aat_layout_zero_width_deleted_glyphs.ensures in
    rw line_f (small_marked d e c.kern_by_font-kerning.ensures.kept.line (rw line_d c.requires.ids))

pub returns-clause-number : goal.returns-clause-number
returns-clause-number g c =
    length_of_shaped c.args.buffer.now c.advance.new.buffer c.kern_by_font-kerning.new.buffer
    c.hb_aat_layout_zero_width_deleted_glyphs.new.buffer
    (ap (λ (x : Buffer). x.line) c.in_ok-advance.ensures.ok) c.kern_by_font-kerning.ensures.kept
    (ap (λ (x : Buffer). x.line) c.hb_aat_layout_zero_width_deleted_glyphs.ensures)

pub returns-clause-standing : goal.returns-clause-standing
returns-clause-standing g c =
    standing_of_shaped c.kern_by_font-kerning.new.buffer c.hb_aat_layout_zero_width_deleted_glyphs.new.buffer
    (c.kern_by_font-kerning.ensures.kept.text.standing (rw c.in_ok-advance.ensures.ok refl)) c.hb_aat_layout_zero_width_deleted_glyphs.ensures

pub returns-clause-placed : goal.returns-clause-placed
returns-clause-placed g c =
    placed_by_test c.hb_aat_layout_zero_width_deleted_glyphs.new.buffer c.has_positions-placed.result c.has_positions-placed.ensures.standing
    c.has_positions-placed.ensures.placed (returns-clause-standing g c)

pub returns-clause-settings : goal.returns-clause-settings
returns-clause-settings g c =
    settings_of_shaped (advance_of c.args.face.now) c.args.buffer.now c.args.buffer.now c.advance.new.buffer c.kern_by_font-kerning.new.buffer
    c.hb_aat_layout_zero_width_deleted_glyphs.new.buffer
    (record { direction = refl; cluster_level = refl; flags = refl; scratch_flags = refl; max_len = refl; successful = refl })
    c.in_ok-advance.ensures.ok c.kern_by_font-kerning.ensures.kept
    c.hb_aat_layout_zero_width_deleted_glyphs.ensures

pub returns-clause-order : goal.returns-clause-order
returns-clause-order g c =
    order_of_placed c.args.buffer.now c.advance.new.buffer c.kern_by_font-kerning.new.buffer
    c.hb_aat_layout_zero_width_deleted_glyphs.new.buffer
    (ap (λ (x : Buffer). x.line) c.in_ok-advance.ensures.ok) c.kern_by_font-kerning.ensures.kept
    (ap (λ (x : Buffer). x.line) c.hb_aat_layout_zero_width_deleted_glyphs.ensures)
