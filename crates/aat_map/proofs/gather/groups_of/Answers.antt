use Rattle.std.proofs.Common.{rules}
use Rattle.std.specs.Ordering.{is_lt}
use Rattle.std.proofs.lemmas.List.Sorted.{answers_always, ranks_by}
use Rattle.aat_map.specs.declared.feature.feature_info_t.{feature_info_t}
use Rattle.aat_map.specs.Live.{group_order, infos}
use Rattle.aat_map.proofs.GatherLemmas.{kept_rising, group_total}
use Rattle.aat_map.proofs.KeptFirsts.{groups_moved}
use Rattle.aat_map.proofs.gather.groups_of.Goals as goal

pub returns-clause-ok : goal.returns-clause-ok
returns-clause-ok g c =
    groups_moved (infos c.args.requests.now) c.sort_unstable_by.new.self.items
    (rw c.in_ok-groups.ensures.ok at c.sort_unstable_by.ensures.permutation)

pub returns-clause-kept : goal.returns-clause-kept
returns-clause-kept g c = rw c.in_ok-groups.ensures.ok at c.sort_unstable_by.ensures.permutation

pub returns-clause-rising : goal.returns-clause-rising
returns-clause-rising g c =
    let moved = rw c.in_ok-groups.ensures.ok at c.sort_unstable_by.ensures.permutation in
    let sorted = c.sort_unstable_by.ensures.sorted (λ a b. is_lt (group_order a b)) (ranks_by group_total (λ (i : feature_info_t). i)) (search (rules, answers_always)) in
    kept_rising (infos c.args.requests.now) c.sort_unstable_by.new.self.items moved sorted
