use Rattle.std.proofs.Common.{Some}
use Rattle.aat_buffer.specs.facts.Ids.{small_of_unsafe}
use Rattle.aat_kinds.proofs.contextual.ContextualCtx.replace_marked.Goals as goal

pub replace-requires-clause-ids : goal.replace-requires-clause-ids
replace-requires-clause-ids g c =
    rw c.unsafe_to_break.ensures.after (small_of_unsafe c.args.buffer.now (Some c.self.inside.mark) (Some c.min-end.result) c.requires.ids)
