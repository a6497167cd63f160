use Rattle.std.proofs.Common.{◌≡◌, length}
use Rattle.aat_buffer.specs.inside.Pending.{IsPending, shown}
use Rattle.aat_buffer.proofs.buffer.hb_buffer_t.write_runs.Given as goal

abbrev pub invariant-loop-count : goal.invariant-loop-count
invariant-loop-count g l = (shown l.count l.last l.self ≡ shown l.fn.runs.count l.fn.runs.last l.initial.self) × (IsPending l.self l.count l.last × (length l.self.line ≡ length l.initial.self.line))

abbrev pub decreases-loop-count : goal.decreases-loop-count
decreases-loop-count g l = l.count
