use Rattle.std.proofs.Common.{◌≡◌, fold, take}
use Rattle.std.specs.Prelude.{bit_or}
use Rattle.aat_shaped_text.proofs.font.all_flags.Given as goal

abbrev pub invariant-loop-feature : goal.invariant-loop-feature
invariant-loop-feature l =
    l.flags
    ≡ fold (λ flags f. bit_or flags f.enable_flags) l.fn.chain.default_flags
    (take l.feature-index l.fn.chain.features.items)
