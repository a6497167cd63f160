use Rattle.std.proofs.Common.{arith}
use Rattle.aat_findings.proofs.Marking.{longer_more, longer_same, row_more}
use Rattle.aat_findings.proofs.reached.mark_row.Goals as goal

pub loop-class-init : goal.loop-class-init
loop-class-init g c = record {
  marks = c.requires.marks;
  kept = λ s is. is;
  longer = longer_same c.args.order.now.items;
  row = λ k s below is. absurd (omega arith);
  sound = λ reached all. all;
}

pub loop-class-preserved : goal.loop-class-preserved
loop-class-preserved g c =
    let here = c.in_ok-mark_next.ensures in
    let before = c.loop-class.invariant in
    record {
      marks = here.marks;
      kept = λ s is. here.kept s (before.kept s is);
      longer = longer_more c.args.order.now.items c.loop-class.order.items c.mark_next.new.order.items before.longer here.longer;
      row = row_more c.args.table.now c.loop-class.marks c.mark_next.new.marks c.args.state c.loop-class.class before.row here.kept here.here;
      sound = λ reached all. here.sound reached (before.sound reached all);
    }

pub returns-clause-row : goal.returns-clause-row
returns-clause-row g c k s below is = c.loop-class.invariant.row k s (omega arith) is
