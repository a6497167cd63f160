use Rattle.std.proofs.Common.{◌≡◌, ◌∙◌, ◌++◌, List, Bool, ap, drop, length, refl, subst, sym, take, ℕ}
use Rattle.std.proofs.Math.Seq.{take-append_seam}
use Rattle.aat_buffer.specs.Buffer.{Buffer}
use Rattle.aat_font.specs.Face.{advance_of}
use Rattle.aat_layout.proofs.Shaped.{placed_by_test, settings_of_shaped, standing_of_shaped}
use Rattle.aat_layout.proofs.ShapedLines.{length_of_shaped, order_of_placed, small_marked}
use Rattle.aat_layout.specs.Shaping.{kerned_by_font, with_advances}
use Rattle.aat_shaped_text.specs.KernedPlaces.{TellsOpenPlaces}
use Rattle.aat_shaped_text.specs.inside.KernedRuns.{ClosesKerned, TellsByGlyphs}
use Rattle.aat_shaped_text.proofs.OpenTables.{font_changes_little, placing_so, told_so}
use Rattle.aat_shaped_text.proofs.open_line.place_openly.Goals as goal

pub returns-clause-placing : goal.returns-clause-placing
returns-clause-placing g c =
    let plan = c.args.plan.now in
    let face = c.args.face.now in
    placing_so plan face c.args.buffer.now c.advance.new.buffer c.kern_openly.new.buffer
    c.hb_aat_layout_zero_width_deleted_glyphs.new.buffer c.in_ok-advance.ensures.ok
    (c.in_ok-kern_openly.ensures.kerned ∙ ap (λ (b : Buffer). (kerned_by_font plan face b).buffer) c.in_ok-places.ensures.same)
    c.hb_aat_layout_zero_width_deleted_glyphs.ensures

pub returns-clause-told : goal.returns-clause-told
returns-clause-told g c =
    let face = c.args.face.now in
    let asked = c.args.rules in
    let b = c.args.buffer.now in
    let advanced = c.advance.new.buffer in
    let before = c.in_ok-places.places.items in
    let new = c.kern_openly.new.places in
    let count = c.in_ok-places.places.len in
    let glyphs : TellsByGlyphs asked advanced before = c.in_ok-places.ensures.told in
    let closed : ClosesKerned face asked.features.now advanced before new =
    subst (λ (old : List Bool). ClosesKerned face asked.features.now advanced old new) c.deref_mut.ensures.value
    (subst (λ (x : Buffer). ClosesKerned face asked.features.now x c.deref_mut.result.now new) c.in_ok-places.ensures.same
    (c.in_ok-kern_openly.ensures.closed asked.features.now c.requires.requested)) in
    let same : count ≡ length new = sym c.deref_mut.ensures.len ∙ (ap length c.deref_mut.ensures.value ∙ sym closed.long) in
    let whole : take count (new ++ drop (length new) before) ≡ new =
    ap (λ (n : ℕ). take n (new ++ drop (length new) before)) same ∙ take-append_seam new (drop (length new) before) in
    subst (λ (told : List Bool). TellsOpenPlaces face asked (with_advances (advance_of face) b) told) (sym whole)
    (told_so face asked b advanced before new c.in_ok-advance.ensures.ok glyphs closed)

pub returns-clause-ids : goal.returns-clause-ids
returns-clause-ids g c =
    let d = c.places_by_glyphs.new.buffer in
    let e = c.kern_openly.new.buffer in
    let line_d : d.line ≡ c.args.buffer.now.line = ap (λ (x : Buffer). x.line) (c.in_ok-places.ensures.same ∙ c.in_ok-advance.ensures.ok) in
    let line_f : c.hb_aat_layout_zero_width_deleted_glyphs.new.buffer.line ≡ e.line = ap (λ (x : Buffer). x.line) c.hb_aat_layout_zero_width_deleted_glyphs.ensures in
    rw line_f (small_marked d e (font_changes_little c.args.plan.now c.args.face.now d e c.in_ok-kern_openly.ensures.kerned).line (rw line_d c.requires.ids))

pub returns-clause-number : goal.returns-clause-number
returns-clause-number g c =
    let d = c.places_by_glyphs.new.buffer in
    let e = c.kern_openly.new.buffer in
    length_of_shaped c.args.buffer.now d e c.hb_aat_layout_zero_width_deleted_glyphs.new.buffer
    (ap (λ (x : Buffer). x.line) (c.in_ok-places.ensures.same ∙ c.in_ok-advance.ensures.ok))
    (font_changes_little c.args.plan.now c.args.face.now d e c.in_ok-kern_openly.ensures.kerned)
    (ap (λ (x : Buffer). x.line) c.hb_aat_layout_zero_width_deleted_glyphs.ensures)

pub returns-clause-standing : goal.returns-clause-standing
returns-clause-standing g c =
    let d = c.places_by_glyphs.new.buffer in
    let e = c.kern_openly.new.buffer in
    standing_of_shaped e c.hb_aat_layout_zero_width_deleted_glyphs.new.buffer
    ((font_changes_little c.args.plan.now c.args.face.now d e c.in_ok-kern_openly.ensures.kerned).text.standing
    (rw (c.in_ok-places.ensures.same ∙ c.in_ok-advance.ensures.ok) refl)) c.hb_aat_layout_zero_width_deleted_glyphs.ensures

pub returns-clause-placed : goal.returns-clause-placed
returns-clause-placed g c =
    placed_by_test c.hb_aat_layout_zero_width_deleted_glyphs.new.buffer c.has_positions-placed.result c.has_positions-placed.ensures.standing
    c.has_positions-placed.ensures.placed (returns-clause-standing g c)

pub returns-clause-settings : goal.returns-clause-settings
returns-clause-settings g c =
    let d = c.places_by_glyphs.new.buffer in
    let e = c.kern_openly.new.buffer in
    settings_of_shaped (advance_of c.args.face.now) c.args.buffer.now c.args.buffer.now d e c.hb_aat_layout_zero_width_deleted_glyphs.new.buffer
    (record { direction = refl; cluster_level = refl; flags = refl; scratch_flags = refl; max_len = refl; successful = refl })
    (c.in_ok-places.ensures.same ∙ c.in_ok-advance.ensures.ok)
    (font_changes_little c.args.plan.now c.args.face.now d e c.in_ok-kern_openly.ensures.kerned)
    c.hb_aat_layout_zero_width_deleted_glyphs.ensures

pub returns-clause-order : goal.returns-clause-order
returns-clause-order g c =
    let d = c.places_by_glyphs.new.buffer in
    let e = c.kern_openly.new.buffer in
    order_of_placed c.args.buffer.now d e c.hb_aat_layout_zero_width_deleted_glyphs.new.buffer
    (ap (λ (x : Buffer). x.line) (c.in_ok-places.ensures.same ∙ c.in_ok-advance.ensures.ok))
    (font_changes_little c.args.plan.now c.args.face.now d e c.in_ok-kern_openly.ensures.kerned)
    (ap (λ (x : Buffer). x.line) c.hb_aat_layout_zero_width_deleted_glyphs.ensures)
