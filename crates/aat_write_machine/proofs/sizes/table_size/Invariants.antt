use Rattle.std.proofs.Common.{◌≡◌, ◌^◌, take}
use Rattle.std.specs.Prelude.{min}
use Rattle.aat_write_machine.specs.ChainBytes.{table_size}
use Rattle.aat_write_machine.proofs.sizes.table_size.Given as goal

abbrev pub invariant-loop-chain : goal.invariant-loop-chain
invariant-loop-chain l = l.size ≡ min (table_size (take l.chain-index l.chains)) (2 ^ 32)
