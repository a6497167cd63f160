use Rattle.aat_lookup.proofs.MoveAnswers.{moves_answer}
use Rattle.aat_lookup.proofs.moves.MoveArray.over.Goals as goal

pub returns : goal.returns
returns g c = record {
  moved = moves_answer c.args.lowest c.args.count c.args.pairs.now c.in_ok-cells.cells.items c.in_ok-kept.kept.items c.in_ok-cells.ensures.long c.in_ok-kept.ensures.few c.requires.small c.in_ok-cells.ensures.values c.in_ok-kept.ensures.marks c.requires.within c.requires.some;
}
