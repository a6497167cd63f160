use Rattle.std.proofs.Common.{arith}
use Rattle.aat_lookup.proofs.CellAnswers.{in_cell, no_cell}
use Rattle.aat_lookup.proofs.listing.value_from.Goals as goal

pub returns-then-place-values : goal.returns-then-place-values
returns-then-place-values c =
    in_cell c.args.lowest c.args.values.now c.requires c.args.glyph (omega arith) (omega arith)

pub returns-else-place-values : goal.returns-else-place-values
returns-else-place-values c =
    no_cell c.args.lowest c.args.values.now c.requires c.args.glyph (omega arith) (omega arith)
