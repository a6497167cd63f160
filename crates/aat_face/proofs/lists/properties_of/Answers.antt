use Rattle.std.proofs.Common.{arith}
use Rattle.aat_face.specs.Lists.{mark_property}
use Rattle.aat_face.proofs.Pairs.{each_value}
use Rattle.aat_face.proofs.lists.properties_of.Goals as goal

pub returns-clause-each : goal.returns-clause-each
returns-clause-each c =
    each_value (mark_property c.args.classes.now) c.loop-from.properties.items c.args.glyph_count
    c.loop-from.invariant.long (λ k lt. c.loop-from.invariant.written k (omega arith))
