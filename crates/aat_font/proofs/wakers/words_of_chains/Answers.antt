use Rattle.std.proofs.Common.{arith, subst, List}
use Rattle.std.proofs.lemmas.Option.{slice_get_within}
use Rattle.aat_font.specs.Wakers.{AreWakers}
use Rattle.aat_font.proofs.MoreWakers.{chains_more}
use Rattle.aat_font.proofs.Numbered.{number_behind}
use Rattle.aat_machine_tables.specs.declared.morx.Subtable.{Subtable}
use Rattle.aat_font.proofs.wakers.words_of_chains.Goals as goal

pub loop-chain-preserved : goal.loop-chain-preserved
loop-chain-preserved c =
    let l = c.loop-chain in
    let was = l.invariant in
    let added = c.in_ok-add_chain.ensures in
    let own = subst (λ (ss : List Subtable). AreWakers ss c.add_chain.new.words.items l.first) c.deref.ensures.value added.awake in
    record {
      first = number_behind c.args.chains.now l.chain-index c.chain-item.result c.len-first.result l.first c.loop-chain-test.true c.chain-item.is c.len-first.ensures was.first;
      awake = chains_more c.args.chains.now l.words.items c.add_chain.new.words.items l.chain-index l.first c.chain-item.result c.loop-chain-test.true was.first added.kept c.chain-item.is own was.awake;
    }

pub returns : goal.returns
returns c = λ i chain found.
    c.loop-chain.invariant.awake i chain (omega (arith, c.loop-chain-test.false, slice_get_within c.args.chains.now i chain found)) found
