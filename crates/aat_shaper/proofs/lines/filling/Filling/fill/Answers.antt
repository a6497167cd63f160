use Rattle.std.proofs.Common.{◌≡◌, ◌∙◌, List, ap, arith, length, subst, sym}
use Rattle.aat_shaped_text.specs.declared.text.ShapedGlyph.{ShapedGlyph}
use Rattle.aat_shaper.proofs.Widths.{end_of_lines, line_added}
use Rattle.aat_shaper.specs.Lines.{IsLine, start_of}
use Rattle.aat_shaper.specs.Lines.AreLines.{none}
use Rattle.aat_shaper.specs.inside.Filling.{glyphs_of, paragraph_of}
use Rattle.aat_shaper.proofs.lines.filling.Filling.fill.Goals as goal

pub loop-first-init : goal.loop-first-init
loop-first-init g c = record {
  shaper = c.requires.shaper;
  lines = rw (c.in_ok-with_capacity.ensures.items, c.new.ensures.items) none;
  within = omega arith;
}

pub loop-first-preserved : goal.loop-first-preserved
loop-first-preserved g c =
    let f = c.args.self.now in
    let p = paragraph_of f in
    let first = c.loop-first.first in
    let line = c.in_ok-line.line in
    let e = c.in_ok-line.ensures in
    let added = c.in_ok-add_line.ensures in
    record {
      shaper = e.shaper;
      lines =
          line_added p first line.last c.loop-first.lines.glyphs.items c.add_line.new.lines.glyphs.items
          (glyphs_of line.glyphs f.whole.now c.glyphs.result.now) c.loop-first.lines.lines.items
          c.add_line.new.lines.lines.items c.loop-first.invariant.lines e.from e.in_stops
          (subst (λ (gs : List ShapedGlyph). IsLine p first line.last (glyphs_of line.glyphs f.whole.now gs))
          (sym c.glyphs.ensures) e.line)
          added.glyphs added.lines;
      within = omega (arith, e.in_stops);
    }

pub returns-clause-end : goal.returns-clause-end
returns-clause-end g c =
    let row = c.args.self.now.stops.now in
    let all : c.loop-first.first ≡ length row =
    omega (arith, c.loop-first.invariant.within, c.loop-first-test.false)
    in
    end_of_lines (paragraph_of c.args.self.now) c.loop-first.first c.loop-first.lines.glyphs.items
    c.loop-first.lines.lines.items c.loop-first.invariant.lines
    ∙ ap (start_of row) all
