use Rattle.std.proofs.Common.{rules}
use Rattle.aat_buffer.proofs.pending_runs.with_cluster_and_flags.Goals as goal

-- answered here, so that a wrong body is refused sooner
pub returns : goal.returns
returns c = search rules
