use Rattle.std.proofs.Common.{◌+◌, refl, ap, ◌∙◌}
use Rattle.aat_text.proofs.Placed.{ends_all, ends_at_start, ends_here, ends_nowhere, room_at_start, room_more}
use Rattle.aat_text.proofs.lines.line_ends.Goals as goal
use Rattle.aat_text.proofs.lines.line_ends.Goals.{in-Some-end_before+in_ok-push, in_default}
use Rattle.unicode_segmentation.specs.Iter.{graphemes_left}

pub loop-piece-init : goal.loop-piece-init
loop-piece-init g c =
    let left = ap graphemes_left c.into_iter-piece-iterator.ensures.into_iter_gives ∙ c.graphemes-piece-items.ensures.left in
    record {
      made = rw c.new-ends.ensures.items (ends_at_start c.args.unit c.args.text.now _ left);
      room = room_at_start c.args.text.now _ c.utf8.text left;
    }

pub loop-piece-preserved : goal.loop-piece-preserved
loop-piece-preserved g c =
    let held = c.loop-piece.invariant in
    let count = c.count_of-place.ensures in
    let step = c.in-Some.ensures.steps in
    let place = ap (λ k. c.loop-piece.place + k) count.value in
    record {
      made = elim c.match-end_before.branch [
        | in-Some-end_before+in_ok-push w ↦ rw w.ends-is
            (ends_here c.args.unit c.loop-piece.ends.items _ c.loop-piece.before c.loop-piece.place c.at_end.result _ c.in-Some.piece.now _ _ _ w.in-Some-end_before.end step c.at_end.ensures
            place w.in-Some-end_before.ensures w.in_ok-push.ensures.items held.made)
        | in_default w ↦ rw w.ends-is
            (ends_nowhere c.args.unit c.loop-piece.ends.items _ c.loop-piece.before c.loop-piece.place c.at_end.result _ c.in-Some.piece.now _ _ _ step c.at_end.ensures
            place w.in_default.ensures refl held.made)
      ];
      room = room_more c.loop-piece.place c.count_of-place.result _ c.in-Some.piece.now _ _ step count.small held.room;
    }

pub returns-clause-ok : goal.returns-clause-ok
returns-clause-ok g c = ends_all c.args.unit c.loop-piece.ends.items _ c.loop-piece.before c.loop-piece.place _ c.in-None.ensures.steps.0 c.loop-piece.invariant.made
