use Rattle.std.proofs.Common.{◌≡◌, drop}
use Rattle.aat_map.specs.Live.{has_setting}
use Rattle.aat_map.proofs.chain_flags.has_in_front.Given as goal

abbrev pub invariant-loop-info : goal.invariant-loop-info
invariant-loop-info l =
    has_setting (drop l.info-index l.fn.settings) l.fn.wanted.0 l.fn.wanted.1 ≡ has_setting l.fn.settings l.fn.wanted.0 l.fn.wanted.1
