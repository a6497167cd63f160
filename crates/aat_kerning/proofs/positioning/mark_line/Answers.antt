use Rattle.std.proofs.Common.{None}
use Rattle.aat_buffer.specs.facts.Small.{small_concat}
use Rattle.aat_kerning.proofs.positioning.mark_line.Goals as goal

pub returns-then-is_asked-clause-ids : goal.returns-then-is_asked-clause-ids
returns-then-is_asked-clause-ids g c =
    rw c.unsafe_to_concat.ensures.after (small_concat c.args.buffer.now None None c.requires.ids)
