use Rattle.std.proofs.lemmas.Result.{err_from_is_err_and}
use Rattle.aat_write_machine.specs.MorxBytes.{subtable_content}
use Rattle.aat_write_machine.proofs.EachWritten.{are_written, is_pushed, is_refused}
use Rattle.aat_write_machine.proofs.morx.subtable_contents.Goals as goal

pub loop-subtable-preserved : goal.loop-subtable-preserved
loop-subtable-preserved c =
    is_pushed subtable_content c.args.subtables.now c.loop-subtable.subtable-index c.subtable-item.result
    c.loop-subtable.contents.items c.push.new.self.items c.in_ok-content.content
    c.loop-subtable-test.true c.subtable-item.is c.loop-subtable.invariant c.in_ok-content.ensures c.in_ok-push.ensures.items

pub returns-in_err-content : goal.returns-in_err-content
returns-in_err-content c =
    let p = err_from_is_err_and c.from_residual.result c.from_residual.ensures.1 in
    rw (p.1, p.2) (is_refused subtable_content c.args.subtables.now c.loop-subtable.subtable-index c.subtable-item.result
    c.loop-subtable.contents.items c.in_err-content.field-0.0
    c.loop-subtable-test.true c.subtable-item.is c.loop-subtable.invariant c.in_err-content.ensures)

pub returns : goal.returns
returns c =
    are_written subtable_content c.args.subtables.now c.loop-subtable.subtable-index c.loop-subtable.contents.items
    c.loop-subtable-test.false c.loop-subtable.invariant
