use Rattle.std.proofs.Common.{◌≡◌, ◌∙◌, arith, false, map, subst, sym}
use Rattle.aat_cut_kinds.specs.KernedTables.{runs_over}
use Rattle.aat_cut_kinds.specs.KerningCuts.{kerned_by_all}
use Rattle.aat_font.specs.Face.{tables_of}
use Rattle.aat_glyph.specs.declared.glyph.Direction.{Direction}
use Rattle.aat_shaped_text.specs.inside.KernedRuns.{Kerns, is_attached_behind, runs_of}
use Rattle.aat_shaped_text.proofs.OpenRuns.{kerns_end, kerns_rest, split_at}
use Rattle.aat_shaped_text.proofs.kerned_places.kern_by_subtables.Goals as goal

pub loop-subtable-preserved : goal.loop-subtable-preserved
loop-subtable-preserved g c =
    let l = c.loop-subtable in
    let requested = c.args.kerning.now.plan.now.requested_kerning in
    let d = c.args.buffer.now.direction in
    let kerned = g.S.OpenKerning.kerned (tables_of c.args.kerning.now.face.now).ankr in
    let xs = c.args.subtables.now in
    let x = c.subtable-item.result in
    let split = split_at xs l.subtable-index x c.loop-subtable-test.true c.subtable-item.is in
    let after = c.kern_by_subtable.new in
    let one = subst (λ (e : Direction). Kerns (kerned_by_all (runs_of requested e l.is_attached (kerned x))) l.buffer l.places after.buffer after.places) l.invariant.way
    c.in_ok-kern_by_subtable.ensures.kerned in
    let noted = subst (λ (e : Direction). after.is_attached ≡ is_attached_behind e l.is_attached (kerned x)) l.invariant.way c.in_ok-kern_by_subtable.ensures.noted in
    record {
      ids = c.kern_by_subtable.ensures.ids;
      placed = c.kern_by_subtable.ensures.placed;
      way = one.direction ∙ l.invariant.way;
      count = one.long ∙ (l.invariant.count ∙ sym one.count);
      rest =
          kerns_rest requested d kerned
          (Kerns (kerned_by_all (runs_over requested d false (map kerned xs))) c.args.buffer.now c.args.places.now)
          xs l.subtable-index x l.is_attached after.is_attached l.buffer after.buffer l.places after.places split noted l.invariant.rest one;
    }

pub returns : goal.returns
returns g c =
    let l = c.loop-subtable in
    let requested = c.args.kerning.now.plan.now.requested_kerning in
    let d = c.args.buffer.now.direction in
    let kerned = g.S.OpenKerning.kerned (tables_of c.args.kerning.now.face.now).ankr in
    let xs = c.args.subtables.now in
    record {
      kerned = kerns_end requested d kerned
          (Kerns (kerned_by_all (runs_over requested d false (map kerned xs))) c.args.buffer.now c.args.places.now)
          xs l.subtable-index l.is_attached l.buffer l.places (omega (arith, c.loop-subtable-test.false)) l.invariant.rest;
    }
