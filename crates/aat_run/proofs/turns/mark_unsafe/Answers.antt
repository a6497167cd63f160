use Rattle.std.specs.Prelude.{Some}
use Rattle.std.proofs.Common.{◌-◌, ◌+◌}
use Rattle.aat_buffer.specs.facts.Ids.{small_of_unsafe}
use Rattle.aat_run.proofs.turns.mark_unsafe.Goals as goal

pub returns-then-not-is_safe_at_cursor-clause-ids : goal.returns-then-not-is_safe_at_cursor-clause-ids
returns-then-not-is_safe_at_cursor-clause-ids g c =
    let p = c.args.buffer.now.cursor in
    rw c.unsafe_to_break_at_cursor.ensures.after (small_of_unsafe c.args.buffer.now (Some (p - 1)) (Some (p + 1)) c.requires.ids)
