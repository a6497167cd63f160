use Rattle.std.proofs.Common.{arith}
use Rattle.aat_font.proofs.MoreWakers.{wakers_more}
use Rattle.aat_font.proofs.wakers.add_chain.Goals as goal

pub loop-i-preserved : goal.loop-i-preserved
loop-i-preserved c =
    let was = c.loop-i.invariant in
    let added = c.in_ok-add_subtable.ensures in
    record {
      kept = λ k s below wake. added.kept k s (omega (arith, below)) (was.kept k s below wake);
      awake = wakers_more c.args.subtables.now c.loop-i.words.items c.add_subtable.new.words.items c.args.first c.loop-i.i c.index-subtables-i.result added.kept c.index-subtables-i.is added.awake was.awake;
    }
