use Rattle.std.proofs.Common.{◌≡◌, take, fold}
use Rattle.aat_map.specs.ChainFlags.{after_feature}
use Rattle.aat_map.specs.Live.{has_setting}
use Rattle.aat_map.specs.inside.Firsts.{present}
use Rattle.aat_map.proofs.placed.flags_of_placed.Given as goal

abbrev pub invariant-loop-i : goal.invariant-loop-i
invariant-loop-i g l =
    l.flags ≡ fold (after_feature (has_setting (present l.fn.live.firsts.items))) l.fn.chain.default_flags (take l.i l.fn.chain.features.items)
