use Rattle.std.proofs.Common.{◌≡◌, ◌-◌, ◌++◌, take, drop, length}
use Rattle.std.specs.Prelude.{slice_range}
use Rattle.aat_buffer.specs.Buffer.{with_line}
use Rattle.aat_kinds.proofs.Parts.{covered}
use Rattle.aat_kinds.proofs.rearrangement_span.move_left.Given as goal

abbrev pub invariant-loop-i : goal.invariant-loop-i
invariant-loop-i g l = record {
  after : l.buffer ≡ with_line l.initial.buffer (take (l.i - l.by) (covered l.initial.buffer.line (l.start - l.by) (l.end - l.by) (slice_range l.initial.buffer.line l.start l.end)) ++ drop (l.i - l.by) l.initial.buffer.line);
  count : length l.buffer.line ≡ length l.initial.buffer.line;
}
