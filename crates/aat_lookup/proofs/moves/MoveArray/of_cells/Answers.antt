use Rattle.std.proofs.Common.{arith}
use Rattle.std.proofs.lemmas.Grind.{common_steps}
use Rattle.aat_lookup.proofs.CellAnswers.{moves_in_cells}
use Rattle.aat_lookup.proofs.moves.MoveArray.of_cells.Goals as goal

pub returns-clause-moved : goal.returns-clause-moved
returns-clause-moved g c =
    moves_in_cells c.args.lowest c.args.cells.items c.requires.small c.in_ok-kept.kept.items
    (grind (arith, common_steps)) (λ k lt. grind (arith, common_steps)) c.requires.some
