use Rattle.std.proofs.Common.{rules}
use Rattle.std.proofs.lemmas.List.Sorted.{IsNonDecreasingBy-from_sort_by_key}
use Rattle.aat_map.specs.declared.feature.feature_range_t.{feature_range_t}
use Rattle.aat_map.proofs.walk.by_end.Goals as goal

pub returns-clause-rising : goal.returns-clause-rising
returns-clause-rising g c =
    IsNonDecreasingBy-from_sort_by_key (λ (r : feature_range_t). r.end) _ c.in_ok-sort_by_key.ensures.sorted (λ a r q k. search rules)
