use Rattle.std.proofs.Common.{◌≡◌, ◌+◌, ◌-◌, ◌<◌, length, All}
use Rattle.aat_buffer.specs.Buffer.{Is16Bit, with_line}
use Rattle.aat_kinds.specs.Ligature.{later_deleted}
use Rattle.aat_kinds.proofs.ligature.Components.delete_later.Given as goal

abbrev pub invariant-loop-n : goal.invariant-loop-n
invariant-loop-n g l = record {
  same : l.buffer ≡ with_line l.fn.buffer l.buffer.line;
  done : later_deleted l.self l.c l.n l.buffer.line ≡ later_deleted l.self l.c (l.self.count - 1 - l.c) l.fn.buffer.line;
  below : l.c + l.n < l.self.count;
  count : length l.buffer.line ≡ length l.fn.buffer.line;
  small : All Is16Bit l.buffer.line;
}

abbrev pub decreases-loop-n : goal.decreases-loop-n
decreases-loop-n g l = l.n
