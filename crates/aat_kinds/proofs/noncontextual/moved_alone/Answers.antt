use Rattle.std.proofs.Common.{arith}
use Rattle.aat_kinds.proofs.Moved.{moved_is}
use Rattle.aat_kinds.proofs.noncontextual.moved_alone.Goals as goal

pub returns-clause-replaced : goal.returns-clause-replaced
returns-clause-replaced c on lookup is_on told =
    rw c.moved.ensures (moved_is on lookup c.args.moves c.args.glyph is_on told (omega (arith, c.requires.id)))
