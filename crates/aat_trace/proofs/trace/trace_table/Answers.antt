use Rattle.aat_morx.proofs.Prepared.{prepared_ids}
use Rattle.aat_trace.proofs.trace.trace_table.Goals as goal

pub trace_chains-requires-clause-ids : goal.trace_chains-requires-clause-ids
trace_chains-requires-clause-ids g c = rw c.prepare.ensures (prepared_ids c.args.buffer.now c.requires.ids)
