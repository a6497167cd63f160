use Rattle.aat_shaper.proofs.Widths.{settled_line}
use Rattle.aat_shaper.proofs.lines.filling.Filling.line_from.Goals as goal

pub returns-clause-line : goal.returns-clause-line
returns-clause-line g c =
    let e = c.settle.ensures in
    settled_line c.args.self.now c.args.first c.guess-guess.result.last c.in_ok-reached.reached c.settle.new.shaper.glyphs
    c.settle.result e.tried e.up_to e.full e.fits c.guess-guess.ensures.unforced c.in_ok-reached.ensures.unforced
