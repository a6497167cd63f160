use Rattle.std.proofs.Common.{◌∙◌, ◌<◌, sym, arith, get_or, false}
use Rattle.aat_map.specs.declared.feature.feature_info_t.{feature_info_t}
use Rattle.aat_map.proofs.KeptSearch.{none_from}
use Rattle.aat_map.proofs.chain_flags.has_in_front.Goals as goal

pub returns-then-info-wanted : goal.returns-then-info-wanted
returns-then-info-wanted c =
    let list = c.args.settings.now in
    let at = c.loop-info.info-index in
    let d : feature_info_t = record { kind = 0; setting = 0; is_exclusive = false } in
    let above : c.args.wanted.0 < (get_or list at d).kind = omega (arith, c.requires.from at d c.loop-info-test.true, c.if-info-wanted.true) in
    sym (none_from list at c.args.wanted.0 c.args.wanted.1 d c.requires.rising c.loop-info-test.true above) ∙ c.loop-info.invariant
