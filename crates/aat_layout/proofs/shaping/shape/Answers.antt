use Rattle.std.proofs.Common.{◌==◌, not, arith}
use Rattle.aat_font.specs.Face.{advance_of}
use Rattle.aat_layout.proofs.Shaped.{placed_by_test, removed_so, settings_of_removed, standing_of_removed}
use Rattle.aat_layout.proofs.ShapedLines.{length_of_others, order_behind, small_filtered}
use Rattle.aat_layout.specs.Shaping.{kerned_by_font, substituted_by_plan}
use Rattle.aat_layout.proofs.shaping.shape.Goals as goal

pub returns-clause-shaped : goal.returns-clause-shaped
returns-clause-shaped g c =
    let plan = c.args.plan.now in
    let face = c.args.face.now in
    removed_so (substituted_by_plan plan face) (advance_of face) (kerned_by_font plan face) c.args.buffer.now
    c.shape_with_deleted.new.buffer c.hb_aat_layout_remove_deleted_glyphs.new.buffer c.in_ok-turns.turns
    c.in_ok-turns.ensures.shaped c.hb_aat_layout_remove_deleted_glyphs.ensures.removed

pub returns-clause-ids : goal.returns-clause-ids
returns-clause-ids g c =
    small_filtered (λ x. not (x == 0xFFFF)) c.shape_with_deleted.new.buffer c.hb_aat_layout_remove_deleted_glyphs.new.buffer
    c.hb_aat_layout_remove_deleted_glyphs.ensures.others c.in_ok-turns.ensures.ids

pub returns-clause-bounded : goal.returns-clause-bounded
returns-clause-bounded g c =
    omega (
      arith,
      c.in_ok-turns.ensures.bounded,
      length_of_others (λ x. not (x == 0xFFFF)) c.shape_with_deleted.new.buffer.line
          c.hb_aat_layout_remove_deleted_glyphs.new.buffer.line c.hb_aat_layout_remove_deleted_glyphs.ensures.others,
    )

pub returns-clause-unlengthened : goal.returns-clause-unlengthened
returns-clause-unlengthened g c unapplied =
    omega (
      arith,
      c.in_ok-turns.ensures.unlengthened unapplied,
      length_of_others (λ x. not (x == 0xFFFF)) c.shape_with_deleted.new.buffer.line
          c.hb_aat_layout_remove_deleted_glyphs.new.buffer.line c.hb_aat_layout_remove_deleted_glyphs.ensures.others,
    )

pub returns-clause-standing : goal.returns-clause-standing
returns-clause-standing g c =
    standing_of_removed c.shape_with_deleted.new.buffer c.hb_aat_layout_remove_deleted_glyphs.new.buffer
    c.in_ok-turns.ensures.standing c.hb_aat_layout_remove_deleted_glyphs.ensures.removed

pub returns-clause-placed : goal.returns-clause-placed
returns-clause-placed g c =
    placed_by_test c.hb_aat_layout_remove_deleted_glyphs.new.buffer c.has_positions-placed.result c.has_positions-placed.ensures.standing
    c.has_positions-placed.ensures.placed (returns-clause-standing g c)

pub returns-clause-settings : goal.returns-clause-settings
returns-clause-settings g c =
    settings_of_removed c.args.buffer.now c.shape_with_deleted.new.buffer c.hb_aat_layout_remove_deleted_glyphs.new.buffer
    c.in_ok-turns.ensures.settings c.hb_aat_layout_remove_deleted_glyphs.ensures.removed

pub returns-clause-order : goal.returns-clause-order
returns-clause-order g c =
    order_behind c.args.plan.now.apply_morx c.args.buffer.now c.shape_with_deleted.new.buffer c.hb_aat_layout_remove_deleted_glyphs.new.buffer
    c.in_ok-turns.ensures.order c.hb_aat_layout_remove_deleted_glyphs.ensures.order
