use Rattle.aat_write_machine.specs.ChainBytes.{chain_bytes}
use Rattle.aat_write_machine.proofs.Appended.{appended_more}
use Rattle.aat_write_machine.proofs.write.append_chains.Goals as goal

pub loop-chain-preserved : goal.loop-chain-preserved
loop-chain-preserved c =
    appended_more chain_bytes c.args.chains.now c.loop-chain.chain-index c.chain-item.result c.args.out.now.items
    c.loop-chain.out.items c.append_chain.new.out.items c.loop-chain-test.true c.chain-item.is
    c.loop-chain.invariant c.in_ok-append_chain.ensures
