use Rattle.std.proofs.Common.{◌≡◌, ◌-◌, ◌++◌, take, drop, length}
use Rattle.std.specs.Prelude.{slice_range}
use Rattle.aat_buffer.specs.Buffer.{with_line}
use Rattle.aat_kinds.proofs.Parts.{covered}
use Rattle.aat_kinds.proofs.rearrangement_span.move_right.Given as goal

abbrev pub invariant-loop-moved : goal.invariant-loop-moved
invariant-loop-moved g l = record {
  after : l.buffer ≡ with_line l.initial.buffer (take (l.end - l.moved) l.initial.buffer.line ++ drop (l.end - l.moved) (covered l.initial.buffer.line l.start l.end (slice_range l.initial.buffer.line (l.start - l.by) (l.end - l.by))));
  count : length l.buffer.line ≡ length l.initial.buffer.line;
}
