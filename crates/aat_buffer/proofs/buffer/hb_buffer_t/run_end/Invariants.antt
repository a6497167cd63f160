use Rattle.std.proofs.Common.{◌≡◌, ◌+◌}
use Rattle.aat_buffer.specs.Marks.{run_after}
use Rattle.aat_buffer.proofs.buffer.hb_buffer_t.run_end.Given as goal

abbrev pub invariant-loop-i : goal.invariant-loop-i
invariant-loop-i g l = run_after l.self.line l.end l.cluster + l.end ≡ run_after l.self.line l.i l.cluster + l.i
