use Rattle.aat_font.specs.Face.{tables_of}
use Rattle.aat_shaped_text.proofs.OpenRuns.{kerx_kerns}
use Rattle.aat_shaped_text.proofs.kerned_subtables.kern_kerx.Goals as goal

pub returns-clause-kerned : goal.returns-clause-kerned
returns-clause-kerned g c =
    let points = (tables_of c.args.kerning.now.face.now).ankr in
    kerx_kerns points c.args.subtable.now c.takes_turned_line-is_turned.result
    c.args.buffer.now c.turn_round.new.buffer c.kern_by_kerx-told.new.buffer c.turn_round-2.new.buffer
    c.args.places.now c.in_ok-told.field-0.items c.deref.result.now c.close_places.new.opens
    c.takes_turned_line-is_turned.ensures c.turn_round.ensures c.in_ok-told.ensures.kerned c.turn_round-2.ensures
    c.deref.ensures.value c.requires.count c.close_places.ensures.long c.close_places.ensures.first c.close_places.ensures.closed
