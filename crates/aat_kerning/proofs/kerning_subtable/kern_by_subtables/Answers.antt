use Rattle.std.proofs.Common.{◌+◌, ◌≤◌, length, arith}
use Rattle.std.specs.Option.{option_copied}
use Rattle.aat_kerning.specs.Positioning.{Positioned}
use Rattle.aat_kerning.proofs.Positioned.{so_far_all, so_far_next}
use Rattle.aat_kerning.proofs.kerning_subtable.kern_by_subtables.Goals as goal

pub overflow_add-turns : goal.overflow_add-turns
overflow_add-turns g c =
    omega (arith, c.loop-subtable.invariant.below, c.kern_by_subtable-turns.ensures.few, c.loop-subtable-test.true, c.requires.few)

pub loop-subtable-preserved : goal.loop-subtable-preserved
loop-subtable-preserved g c =
    let kerning = g.S.KerningSubtable.kerning c.args.plan.now.kern_mask (option_copied c.args.ankr) in
    let was : Positioned = record { buffer = c.loop-subtable.buffer; turns = c.loop-subtable.turns; is_attached = c.loop-subtable.is_attached } in
    let now : Positioned = record {
      buffer = c.kern_by_subtable-turns.new.buffer;
      turns = c.loop-subtable.turns + c.kern_by_subtable-turns.result;
      is_attached = c.kern_by_subtable-turns.new.is_attached;
    } in
    record {
      same =
          so_far_next c.args.plan.now.requested_kerning kerning c.args.subtables.now c.loop-subtable.subtable-index c.subtable-item.result
          c.args.buffer.now was now c.loop-subtable-test.true c.subtable-item.is c.loop-subtable.invariant.same
          (c.kern_by_subtable-turns.ensures.positioned c.loop-subtable.turns);
      below = omega (arith, c.loop-subtable.invariant.below, c.kern_by_subtable-turns.ensures.few);
      ids = c.kern_by_subtable-turns.ensures.ids;
      placed = c.kern_by_subtable-turns.ensures.placed;
    }

pub returns : goal.returns
returns g c =
    let requested = c.args.plan.now.requested_kerning in
    let kerning = g.S.KerningSubtable.kerning c.args.plan.now.kern_mask (option_copied c.args.ankr) in
    let subtables = c.args.subtables.now in
    let b = c.args.buffer.now in
    let past : length subtables ≤ c.loop-subtable.subtable-index = omega (arith, c.loop-subtable-test.false) in
    so_far_all requested kerning subtables c.loop-subtable.subtable-index b c.loop-subtable.buffer c.reorder-2.new.buffer
    c.loop-subtable.turns c.loop-subtable.is_attached past c.loop-subtable.invariant.same c.reorder-2.ensures
