use Rattle.std.proofs.Common.{◌≡◌, take, fold}
use Rattle.aat_map.specs.ChainFlags.{after_feature}
use Rattle.aat_map.specs.Live.{has_setting}
use Rattle.aat_map.proofs.chain_flags.flags_of.Given as goal

abbrev pub invariant-loop-feature : goal.invariant-loop-feature
invariant-loop-feature l =
    l.flags ≡ fold (after_feature (has_setting l.fn.settings)) l.fn.chain.default_flags (take l.feature-index l.fn.chain.features.items)
