use Rattle.std.proofs.Common.{◌≡◌, ◌<◌, true, false}
use Rattle.aat_glyph.specs.Directions.{is_backward}
use Rattle.aat_shaper.proofs.Stretches.{backward_stretch, forward_stretch}
use Rattle.aat_shaper.proofs.lines.filling.Filling.stretch_between.Goals as goal
use Rattle.aat_shaper.proofs.lines.filling.Filling.stretch_between.Goals.{then-is_backward, else-is_backward}

pub returns-then-to-self-clause-alone : goal.returns-then-to-self-clause-alone
returns-then-to-self-clause-alone c =
    let f = c.args.self.now in
    elim c.if-is_backward.branch [
      | then-is_backward w ↦
          let is : is_backward f.direction ≡ true = cc in
          let low : c.in_ok-last.last < c.in_ok-first.first = rw w.from-is at c.if-from-to.true in
          rw w.from-is
          (backward_stretch c.texts_are_drawn_in_parts.ensures c.parts_keep_breaks.ensures f.value f.font.now f.direction
          f.features.now f.text.now f.whole.now c.in_ok-first.first c.in_ok-last.last c.args.start c.args.end
          c.requires.ready.drawn c.requires.ready.short is c.requires.order c.requires.in_text low c.in_ok-first.ensures
          c.in_ok-last.ensures)
      | else-is_backward w ↦
          let is : is_backward f.direction ≡ false = cc in
          let low : c.in_ok-first.first < c.in_ok-last.last = rw w.from-is at c.if-from-to.true in
          rw w.from-is
          (forward_stretch c.texts_are_drawn_in_parts.ensures c.parts_keep_breaks.ensures f.value f.font.now f.direction
          f.features.now f.text.now f.whole.now c.in_ok-first.first c.in_ok-last.last c.args.start c.args.end
          c.requires.ready.drawn c.requires.ready.short is c.requires.order c.requires.in_text low c.in_ok-first.ensures
          c.in_ok-last.ensures)
    ]
