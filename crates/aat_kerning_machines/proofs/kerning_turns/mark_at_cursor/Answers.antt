use Rattle.std.specs.Prelude.{Some, ◌+◌, ◌-◌}
use Rattle.aat_buffer.specs.facts.Ids.{small_of_unsafe}
use Rattle.aat_kerning_machines.proofs.kerning_turns.mark_at_cursor.Goals as goal

pub returns-clause-ids : goal.returns-clause-ids
returns-clause-ids g c =
    rw c.unsafe_to_break_at_cursor.ensures.after (small_of_unsafe c.args.buffer.now (Some (c.args.buffer.now.cursor - 1)) (Some (c.args.buffer.now.cursor + 1)) c.requires.ids)
