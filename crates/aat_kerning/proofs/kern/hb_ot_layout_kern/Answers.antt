use Rattle.std.proofs.Common.{◌+◌, ◌*◌, length}
use Rattle.aat_font.specs.Face.{tables_of}
use Rattle.aat_kerning.specs.Advances.{KernSumsAdvances}
use Rattle.aat_kerning.specs.FontKerning.{KernCanBeCut, KernCanBeCutAlike, kern_subtables, kerned_by_kern}
use Rattle.aat_kerning.specs.KerningLawful.{IsPaidBeyond}
use Rattle.aat_kerning_machines.specs.KerningLaws.{IsKernedFrom}
use Rattle.aat_kerning.proofs.Called.{kern_called, kern_without_table, of_left, of_outcome, placed_as_asked, still_placed}
use Rattle.aat_kerning.proofs.CutAlike.{alike_parts_are_kerned_apart}
use Rattle.aat_kerning.proofs.CutHolds.{parts_are_kerned_apart}
use Rattle.aat_kerning.proofs.KerningLawsHold.{kerning_changes_little, kerning_is_bounded}
use Rattle.aat_kerning.proofs.SummedTables.{kern_sums}
use Rattle.aat_kerning.proofs.kern.hb_ot_layout_kern.Goals as goal

pub returns-clause-positioned : goal.returns-clause-positioned
returns-clause-positioned g c =
    kern_called c.args.plan.now.requested_kerning c.args.plan.now.kern_mask (tables_of c.args.face.now).kern c.args.buffer.now
    c.kern_by_subtables.new.buffer c.kern_by_subtables.result c.kern_subtables.result.now c.kern_subtables.ensures.listed c.kern_by_subtables.ensures

pub returns-clause-without_table : goal.returns-clause-without_table
returns-clause-without_table g c missing =
    kern_without_table c.args.plan.now.requested_kerning c.args.plan.now.kern_mask (tables_of c.args.face.now).kern c.args.buffer.now
    c.kern_by_subtables.new.buffer c.kern_by_subtables.result missing (returns-clause-positioned g c)

pub returns-clause-kept : goal.returns-clause-kept
returns-clause-kept g c =
    let plan = c.args.plan.now in
    let face = c.args.face.now in
    let subtables = kern_subtables face in
    let b = c.args.buffer.now in
    let d = c.kern_by_subtables.new.buffer in
    let n = c.kern_by_subtables.result in
    of_left (kerned_by_kern plan face) b d n (returns-clause-positioned g c) (IsKernedFrom b)
    (kerning_changes_little.kern plan.requested_kerning plan.kern_mask subtables b)

pub returns-clause-cut : goal.returns-clause-cut
returns-clause-cut g c free =
    let plan = c.args.plan.now in
    let face = c.args.face.now in
    let subtables = kern_subtables face in
    let b = c.args.buffer.now in
    let d = c.kern_by_subtables.new.buffer in
    let n = c.kern_by_subtables.result in
    of_left (kerned_by_kern plan face) b d n (returns-clause-positioned g c) (KernCanBeCut plan face b)
    (parts_are_kerned_apart.kern plan.requested_kerning plan.kern_mask subtables b free)

pub returns-clause-cut_alike : goal.returns-clause-cut_alike
returns-clause-cut_alike g c =
    let plan = c.args.plan.now in
    let face = c.args.face.now in
    let subtables = kern_subtables face in
    let b = c.args.buffer.now in
    let d = c.kern_by_subtables.new.buffer in
    let n = c.kern_by_subtables.result in
    of_left (kerned_by_kern plan face) b d n (returns-clause-positioned g c) (KernCanBeCutAlike plan face b)
    (alike_parts_are_kerned_apart.kern plan.requested_kerning plan.kern_mask subtables b)

pub returns-clause-paid : goal.returns-clause-paid
returns-clause-paid g c =
    let plan = c.args.plan.now in
    let face = c.args.face.now in
    let subtables = kern_subtables face in
    let b = c.args.buffer.now in
    let d = c.kern_by_subtables.new.buffer in
    let n = c.kern_by_subtables.result in
    of_outcome (kerned_by_kern plan face) b d n (returns-clause-positioned g c)
    (IsPaidBeyond (length subtables * (length b.line + 1)) b) (kerning_is_bounded.kern plan.requested_kerning plan.kern_mask subtables b)

pub returns-clause-summed : goal.returns-clause-summed
returns-clause-summed g c asked free =
    let plan = c.args.plan.now in
    let face = c.args.face.now in
    let subtables = kern_subtables face in
    let b = c.args.buffer.now in
    let d = c.kern_by_subtables.new.buffer in
    let n = c.kern_by_subtables.result in
    of_left (kerned_by_kern plan face) b d n (returns-clause-positioned g c)
    (KernSumsAdvances plan.kern_mask subtables b)
    (kern_sums plan.requested_kerning plan.kern_mask subtables b asked free
    (placed_as_asked b c.has_positions-placed.result c.has_positions-placed.ensures.standing c.has_positions-placed.ensures.placed c.requires.positions))

pub returns-clause-placed : goal.returns-clause-placed
returns-clause-placed g c =
    let b = c.args.buffer.now in
    still_placed b c.kern_by_subtables.new.buffer (returns-clause-kept g c)
    (placed_as_asked b c.has_positions-placed.result c.has_positions-placed.ensures.standing c.has_positions-placed.ensures.placed c.requires.positions)
