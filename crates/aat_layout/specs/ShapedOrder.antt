-- What shaping leaves of the clusters.
use Rattle.std.specs.Prelude.{◌≡◌, Bool, true}
use Rattle.aat_buffer.specs.Buffer.{Buffer}
use Rattle.aat_buffer.specs.Clusters.{ClustersMerge}
use Rattle.aat_run.specs.Laws.{KeepsOrderWhere}

-- clusters that never fall along the line never fall behind shaping, and those that never rise never rise, where
-- clusters merge, and at every cluster level where the plan does not apply substitution; at every level each of them
-- stood on the line
abbrev pub HasShapedOrderOf : Bool → Buffer → Buffer → Type 0
HasShapedOrderOf applied old new = KeepsOrderWhere (applied ≡ true → ClustersMerge old.cluster_level) old new
