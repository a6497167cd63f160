use Rattle.std.proofs.Common.{◌∙◌, ap, arith}
use Rattle.aat_map.specs.Live.{has_setting}
use Rattle.aat_map.proofs.KeptSearch.{from_place, rest_rises, slice_to_end}
use Rattle.aat_map.proofs.chain_flags.has_setting.Goals as goal

pub has_in_front-requires-clause-rising : goal.has_in_front-requires-clause-rising
has_in_front-requires-clause-rising c =
    rw (slice_to_end c.args.settings.now c.count_below.result) (rest_rises c.args.settings.now c.count_below.result c.requires)

pub returns : goal.returns
returns c =
    let list = c.args.settings.now in
    c.has_in_front.ensures
    ∙ ap (λ rest. has_setting rest c.args.wanted.0 c.args.wanted.1) (slice_to_end list c.count_below.result)
    ∙ from_place list c.count_below.result c.args.wanted.0 c.args.wanted.1 (λ i d lt. c.count_below.ensures.lower i d (omega arith) lt)
