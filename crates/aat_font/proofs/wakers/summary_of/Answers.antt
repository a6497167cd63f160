use Rattle.std.proofs.Common.{arith}
use Rattle.std.proofs.lemmas.Option.{slice_get_within}
use Rattle.aat_font.proofs.SummedWords.{block_more}
use Rattle.aat_font.proofs.wakers.summary_of.Goals as goal

pub loop-i-preserved : goal.loop-i-preserved
loop-i-preserved c =
    let l = c.loop-i in
    let summed = c.in_ok-sum_up.ensures in
    record {
      summed = block_more c.args.blocks.now l.summary c.sum_up.new.self l.i c.index-blocks-i.result summed.kept c.index-blocks-i.is summed.summed l.invariant.summed;
    }

pub returns : goal.returns
returns c = λ i block found.
    c.loop-i.invariant.summed i block (omega (arith, c.loop-i-test.false, slice_get_within c.args.blocks.now i block found)) found
