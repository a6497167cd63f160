use Rattle.std.proofs.Common.{◌∙◌, ap, arith, length, fold, ◌+◌}
use Rattle.aat_map.specs.Live.{infos, without_earliest}
use Rattle.aat_map.specs.inside.Walked.{ends_by}
use Rattle.aat_map.proofs.WalkLemmas.{count_of_rest, front_of_rest}
use Rattle.aat_map.proofs.walk.end_up_to.Goals as goal

pub returns-clause-live : goal.returns-clause-live
returns-clause-live g c =
    c.take_out_all.ensures.live
    ∙ ap (λ l. fold without_earliest c.args.live.now.active.items (infos l)) (front_of_rest c.args.ending.now (ends_by c.args.cluster) c.args.ended (length c.args.ending.now) c.count_ending-more.result (omega arith) c.count_ending-more.ensures.count)

pub returns-clause-count : goal.returns-clause-count
returns-clause-count g c =
    ap (λ k. c.args.ended + k) (count_of_rest c.args.ending.now (ends_by c.args.cluster) c.args.ended (length c.args.ending.now) c.count_ending-more.result (omega arith) c.count_ending-more.ensures.count)
