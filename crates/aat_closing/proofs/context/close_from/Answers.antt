use Rattle.std.proofs.Common.{◌+◌, Some}
use Rattle.aat_buffer.specs.facts.Ids.{small_of_unsafe}
use Rattle.aat_closing.proofs.context.close_from.Goals as goal

pub returns-then-from-cursor-clause-ids : goal.returns-then-from-cursor-clause-ids
returns-then-from-cursor-clause-ids g c =
    rw c.unsafe_to_break.ensures.after (small_of_unsafe c.args.buffer.now (Some c.args.from) (Some (c.backtrack_len-cursor.result + 1)) c.requires)
