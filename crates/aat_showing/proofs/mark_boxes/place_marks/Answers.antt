use Rattle.std.proofs.Common.{sym, ◌∙◌}
use Rattle.aat_showing.specs.FaceMetrics.{mark_placing}
use Rattle.aat_showing.proofs.RunsAlone.{none_placed}
use Rattle.aat_showing.proofs.mark_boxes.place_marks.Goals as goal

pub returns-then-all_begin_runs : goal.returns-then-all_begin_runs
returns-then-all_begin_runs c =
    none_placed (mark_placing c.args.face.now c.args.direction c.args.moves) c.args.glyphs.now (sym c.if-all_begin_runs.true ∙ c.all_begin_runs.ensures)
