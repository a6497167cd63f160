use Rattle.std.proofs.Common.{ltb, ltb-true, ltb-false, rules}
use Rattle.std.proofs.lemmas.Fn.{always_returns_same}
use Rattle.std.proofs.lemmas.List.Sorted.{IsPartitionedBy-ltb}
use Rattle.aat_map.proofs.KeptSearch.{kinds_rise}
use Rattle.aat_map.proofs.chain_flags.count_below.Goals as goal

pub returns-clause-lower : goal.returns-clause-lower
returns-clause-lower c =
    let parted = IsPartitionedBy-ltb (λ i. i.kind) _ c.args.kind (kinds_rise c.args.settings.now c.requires) in
    let point = c.partition_point.ensures.partitioned (λ i. ltb i.kind c.args.kind) (search (rules, always_returns_same)) parted in
    λ k d low lt. ltb-true _ _ (point.0 k d low lt)

pub returns-clause-others : goal.returns-clause-others
returns-clause-others c =
    let parted = IsPartitionedBy-ltb (λ i. i.kind) _ c.args.kind (kinds_rise c.args.settings.now c.requires) in
    let point = c.partition_point.ensures.partitioned (λ i. ltb i.kind c.args.kind) (search (rules, always_returns_same)) parted in
    λ k d low lt. ltb-false _ _ (point.1 k d low lt)
