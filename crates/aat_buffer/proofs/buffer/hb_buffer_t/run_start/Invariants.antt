use Rattle.std.proofs.Common.{◌≡◌, ◌+◌, ◌-◌}
use Rattle.aat_buffer.specs.Marks.{run_before}
use Rattle.aat_buffer.proofs.buffer.hb_buffer_t.run_start.Given as goal

abbrev pub invariant-loop-count : goal.invariant-loop-count
invariant-loop-count g l = run_before l.self.line l.from l.start l.cluster ≡ run_before l.self.line l.from (l.start - l.count) l.cluster + l.count
