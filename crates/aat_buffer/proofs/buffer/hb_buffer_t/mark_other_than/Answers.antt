use Rattle.std.proofs.Common.{◌≡◌, ◌≤◌, ◌∙◌, ap, arith, length, sym}
use Rattle.aat_buffer.specs.Buffer.{Buffer}
use Rattle.aat_buffer.specs.inside.Line.{Line}
use Rattle.aat_buffer.proofs.Marked.{merged_stays}
use Rattle.aat_buffer.proofs.buffer.hb_buffer_t.mark_other_than.Goals as goal

pub invariant_of-self : goal.invariant_of-self
invariant_of-self g c =
    let a = c.self.inside in
    let gs = a.line.glyphs in
    let hs = c.mark_other_than.new.self.glyphs in
    let lines : gs ≡ c.args.self.now.line = ap (λ (b : Buffer). b.line) c.self.view_is in
    let high : c.args.end ≤ length gs = omega (arith, c.requires.in_line, ap length lines) in
    let cursors : c.mark_other_than.new.self.cursor ≡ a.line.cursor = ap (λ (l : Line). l.cursor) c.mark_other_than.ensures.after in
    record {
      in_line = omega (arith, c.mark_other_than.ensures.len, cursors, c.self.invariant.in_line);
      within_max = omega (arith, c.mark_other_than.ensures.len, c.self.invariant.within_max);
      small = c.self.invariant.small;
      placed = λ stand. c.self.invariant.placed stand ∙ sym c.mark_other_than.ensures.len;
      marked = tt;
      merged = merged_stays c.args.cluster gs hs c.args.start c.args.end c.requires.ordered high (ap (λ (l : Line). l.glyphs) c.mark_other_than.ensures.after) a.merged c.self.invariant.merged;
    }
