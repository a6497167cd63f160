use Rattle.std.proofs.Common.{◌≡◌, ◌++◌, take}
use Rattle.std.specs.List.{flat_map}
use Rattle.aat_write_machine.specs.ChainBytes.{feature_bytes}
use Rattle.aat_write_machine.proofs.write.append_features.Given as goal

abbrev pub invariant-loop-feature : goal.invariant-loop-feature
invariant-loop-feature l = l.out.items ≡ l.fn.out.items ++ flat_map feature_bytes (take l.feature-index l.features)
