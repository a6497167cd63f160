use Rattle.std.specs.Prelude.{Some}
use Rattle.aat_buffer.specs.facts.Ids.{small_of_unsafe}
use Rattle.aat_kerning_machines.proofs.kerning_turns.mark.Goals as goal

pub returns-clause-ids : goal.returns-clause-ids
returns-clause-ids g c =
    rw c.unsafe_to_break.ensures.after (small_of_unsafe c.args.buffer.now (Some c.args.start) (Some c.args.end) c.requires.ids)
