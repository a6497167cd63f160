use Rattle.aat_morx.proofs.OrderOfRuns as order
use Rattle.aat_morx.proofs.laws.clusters_keep_their_order.Goals as goal

pub returns : goal.returns
returns c = order.clusters_keep_their_order
