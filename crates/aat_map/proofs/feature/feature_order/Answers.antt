use Rattle.aat_map.proofs.GatherLemmas.{group_total}
use Rattle.aat_map.proofs.feature.feature_order.Goals as goal

pub returns-clause-total : goal.returns-clause-total
returns-clause-total c = group_total
