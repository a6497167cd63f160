use Rattle.std.proofs.lemmas.Result.{err_from_is_err_and}
use Rattle.aat_read_extended.specs.morx.Chains.{value_of_chain}
use Rattle.aat_write_machine.specs.MorxBytes.{chain_content}
use Rattle.aat_write_machine.proofs.EachWritten.{are_written, is_pushed, is_refused}
use Rattle.aat_write_machine.proofs.morx.chain_contents.Goals as goal

pub loop-chain-preserved : goal.loop-chain-preserved
loop-chain-preserved c =
    is_pushed (λ k. chain_content (value_of_chain k)) c.args.chains.now c.loop-chain.chain-index c.chain-item.result
    c.loop-chain.contents.items c.push.new.self.items c.in_ok-content.content
    c.loop-chain-test.true c.chain-item.is c.loop-chain.invariant c.in_ok-content.ensures c.in_ok-push.ensures.items

pub returns-in_err-content : goal.returns-in_err-content
returns-in_err-content c =
    let p = err_from_is_err_and c.from_residual.result c.from_residual.ensures.1 in
    rw (p.1, p.2) (is_refused (λ k. chain_content (value_of_chain k)) c.args.chains.now c.loop-chain.chain-index c.chain-item.result
    c.loop-chain.contents.items c.in_err-content.field-0.0
    c.loop-chain-test.true c.chain-item.is c.loop-chain.invariant c.in_err-content.ensures)

pub returns : goal.returns
returns c =
    are_written (λ k. chain_content (value_of_chain k)) c.args.chains.now c.loop-chain.chain-index c.loop-chain.contents.items
    c.loop-chain-test.false c.loop-chain.invariant
