use Rattle.std.proofs.Common.{◌∙◌, ap, arith, Some}
use Rattle.aat_map.proofs.FirstLemmas.{first_found, first_missing}
use Rattle.aat_map.proofs.live.first_of.Goals as goal

pub returns-then-at-len : goal.returns-then-at-len
returns-then-at-len g c =
    ap Some c.index.ensures
    ∙ first_found c.args.list.now.items c.args.group.now c.index.result.now c.count_of_others-at.result c.count_of_others-at.ensures.count (omega (arith, c.len.ensures, c.if-at-len.true))

pub returns-else-at-len : goal.returns-else-at-len
returns-else-at-len g c =
    first_missing c.args.list.now.items c.args.group.now c.count_of_others-at.result c.count_of_others-at.ensures.count (omega (arith, c.len.ensures, c.if-at-len.false))
