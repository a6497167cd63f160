use Rattle.aat_write_machine.specs.ChainBytes.{subtable_bytes}
use Rattle.aat_write_machine.proofs.Appended.{appended_more}
use Rattle.aat_write_machine.proofs.write.append_subtables.Goals as goal

pub loop-subtable-preserved : goal.loop-subtable-preserved
loop-subtable-preserved c =
    appended_more subtable_bytes c.args.subtables.now c.loop-subtable.subtable-index c.subtable-item.result c.args.out.now.items
    c.loop-subtable.out.items c.append_subtable.new.out.items c.loop-subtable-test.true c.subtable-item.is
    c.loop-subtable.invariant c.in_ok-append_subtable.ensures
