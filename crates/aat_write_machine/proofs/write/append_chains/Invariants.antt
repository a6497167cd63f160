use Rattle.std.proofs.Common.{◌≡◌, ◌++◌, take}
use Rattle.std.specs.List.{flat_map}
use Rattle.aat_write_machine.specs.ChainBytes.{chain_bytes}
use Rattle.aat_write_machine.proofs.write.append_chains.Given as goal

abbrev pub invariant-loop-chain : goal.invariant-loop-chain
invariant-loop-chain l = l.out.items ≡ l.fn.out.items ++ flat_map chain_bytes (take l.chain-index l.chains)
