use Rattle.std.proofs.Common.{◌∙◌, ap, arith, length, ◌++◌, ◌+◌}
use Rattle.aat_map.specs.Live.{infos, has_begun}
use Rattle.aat_map.proofs.WalkLemmas.{count_of_rest, front_of_rest}
use Rattle.aat_map.proofs.walk.start_up_to.Goals as goal

pub returns-clause-live : goal.returns-clause-live
returns-clause-live g c =
    c.in_ok-push_all.ensures.ok
    ∙ ap (λ l. c.args.live.now.active.items ++ infos l) (front_of_rest c.args.ordered.now (has_begun c.args.cluster) c.args.begun (length c.args.ordered.now) c.count_up_to-more.result (omega arith) c.count_up_to-more.ensures.count)

pub returns-clause-count : goal.returns-clause-count
returns-clause-count g c =
    ap (λ k. c.args.begun + k) (count_of_rest c.args.ordered.now (has_begun c.args.cluster) c.args.begun (length c.args.ordered.now) c.count_up_to-more.result (omega arith) c.count_up_to-more.ensures.count)
