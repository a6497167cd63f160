use Rattle.std.proofs.Common.{◌≡◌, ◌++◌, ◌+◌, ◌≤◌, length}
use Rattle.std.specs.List.{concat}
use Rattle.unicode_segmentation.specs.Iter.{graphemes_left}
use Rattle.aat_text.specs.LineEnds.{line_ends}
use Rattle.aat_text.proofs.Placed.{ends_from}
use Rattle.aat_text.proofs.lines.line_ends.Given as goal

abbrev pub invariant-loop-piece : goal.invariant-loop-piece
invariant-loop-piece g l = record {
  made : l.ends.items ++ ends_from l.fn.unit l.before l.place (graphemes_left l.piece-iterator) ≡ line_ends l.fn.unit l.fn.text;
  room : l.place + length (concat (graphemes_left l.piece-iterator)) ≤ length l.fn.text;
}
