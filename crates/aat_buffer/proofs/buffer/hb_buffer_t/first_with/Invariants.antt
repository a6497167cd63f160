use Rattle.std.proofs.Common.{◌≢◌, ℕ, ◌<◌, ◌≤◌}
use Rattle.aat_buffer.specs.Marks.{cluster_at}
use Rattle.aat_buffer.proofs.buffer.hb_buffer_t.first_with.Given as goal

abbrev pub invariant-loop-i : goal.invariant-loop-i
invariant-loop-i g l = (k : ℕ) → l.start ≤ k → k < l.i → cluster_at l.self.line k ≢ l.cluster
