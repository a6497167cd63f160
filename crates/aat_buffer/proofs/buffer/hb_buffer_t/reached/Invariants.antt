use Rattle.aat_buffer.specs.inside.Pending.{IsReached}
use Rattle.aat_buffer.proofs.buffer.hb_buffer_t.reached.Given as goal

abbrev pub invariant-loop-first : goal.invariant-loop-first
invariant-loop-first g l = IsReached l.self.line l.fn.runs.count l.fn.runs.last l.cluster l.p l.first l.count l.last

abbrev pub decreases-loop-first : goal.decreases-loop-first
decreases-loop-first g l = l.first
