use Rattle.std.proofs.Common.{◌≤◌, List, ap, get_or, length, subst, sym}
use Rattle.aat_shaped_text.specs.declared.text.ShapedGlyph.{ShapedGlyph}
use Rattle.aat_shaper.proofs.Stops.{stop_read, zero_stop}
use Rattle.aat_shaper.proofs.Widths.{tried_line}
use Rattle.aat_shaper.specs.inside.Filling.{glyphs_of}
use Rattle.aat_shaper.proofs.lines.filling.Filling.try_line.Goals as goal

pub has_room-fits-requires-clause-bounded : goal.has_room-fits-requires-clause-bounded
has_room-fits-requires-clause-bounded g c =
    subst
    (λ (gs : List ShapedGlyph).
    length (glyphs_of c.in_ok-glyphs.glyphs c.args.self.now.whole.now gs) ≤ 0x3FFFFFFF)
    (sym c.glyphs.ensures) c.in_ok-glyphs.ensures.bounded

pub returns-clause-tried : goal.returns-clause-tried
returns-clause-tried g c =
    let f = c.args.self.now in
    let line = c.in_ok-glyphs.glyphs in
    tried_line f c.args.first c.args.last c.draw.new.shaper.glyphs (glyphs_of line f.whole.now c.glyphs.result.now) line
    c.has_room-fits.result (get_or f.stops.now c.args.last zero_stop) (stop_read f.stops.now c.args.last c.requires.in_stops)
    c.in_ok-glyphs.ensures.within (ap (λ (gs : List ShapedGlyph). glyphs_of line f.whole.now gs) c.glyphs.ensures)
    c.in_ok-glyphs.ensures.alone c.has_room-fits.ensures
