use Rattle.std.proofs.Common.{◌≡◌, take}
use Rattle.std.specs.Prelude.{min}
use Rattle.aat_write_machine.specs.ChainBytes.{count_subtables}
use Rattle.aat_write_machine.proofs.sizes.count_subtables.Given as goal

abbrev pub invariant-loop-chain : goal.invariant-loop-chain
invariant-loop-chain l = l.count ≡ min (count_subtables (take l.chain-index l.chains)) 65536
