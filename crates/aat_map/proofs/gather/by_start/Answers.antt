use Rattle.std.proofs.Common.{◌∙◌, ap, rules, fold, []}
use Rattle.std.proofs.lemmas.List.Sorted.{IsNonDecreasingBy-from_sort_by_key, answers_always}
use Rattle.aat_map.specs.declared.feature.feature_range_t.{feature_range_t}
use Rattle.aat_map.specs.Live.{placed_by_start}
use Rattle.aat_map.proofs.ByStart.{stable_is}
use Rattle.aat_map.proofs.gather.by_start.Goals as goal

pub returns-clause-ok : goal.returns-clause-ok
returns-clause-ok g c =
    let up = IsNonDecreasingBy-from_sort_by_key (λ (r : feature_range_t). r.start) _ c.in_ok-sort_by_key.ensures.sorted (λ a r q k. search rules) in
    let stays = c.sort_by_key.ensures.stable (λ (r : feature_range_t). r.start) (answers_always _ _ _ (λ f a r q k. search rules)) in
    stable_is c.in_ok-ordered.ordered.items c.sort_by_key.new.self.items up stays ∙ ap (fold placed_by_start []) c.in_ok-ordered.ensures.ok
