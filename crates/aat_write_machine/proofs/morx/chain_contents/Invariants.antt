use Rattle.std.proofs.Common.{◌≡◌, drop}
use Rattle.aat_read_extended.specs.morx.Chains.{value_of_chain}
use Rattle.aat_write_machine.specs.MorxBytes.{chain_content, each_written}
use Rattle.aat_write_machine.proofs.EachWritten.{behind}
use Rattle.aat_write_machine.proofs.morx.chain_contents.Given as goal

abbrev pub invariant-loop-chain : goal.invariant-loop-chain
invariant-loop-chain l =
    each_written (λ c. chain_content (value_of_chain c)) l.chains
    ≡ behind (λ c. chain_content (value_of_chain c)) l.contents.items (drop l.chain-index l.chains)
