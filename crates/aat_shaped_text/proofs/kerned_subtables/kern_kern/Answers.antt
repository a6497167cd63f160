use Rattle.aat_shaped_text.proofs.OpenRuns.{kern_kerns}
use Rattle.aat_shaped_text.proofs.kerned_subtables.kern_kern.Goals as goal

pub returns-clause-kerned : goal.returns-clause-kerned
returns-clause-kerned g c =
    kern_kerns c.args.subtable.now c.args.buffer.now c.kern_by_kern.new.buffer
    c.args.places.now c.in_ok-told.told.items c.deref.result.now c.close_places.new.opens c.in_ok-told.ensures.kerned
    c.deref.ensures.value c.requires.count c.close_places.ensures.long c.close_places.ensures.first c.close_places.ensures.closed
