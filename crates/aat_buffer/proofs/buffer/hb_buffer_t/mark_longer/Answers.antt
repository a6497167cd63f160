use Rattle.std.proofs.Common.{◌<◌, ◌∙◌, ap, arith}
use Rattle.aat_buffer.specs.Buffer.{Buffer, with_line}
use Rattle.aat_buffer.proofs.Marked.{longer_has, longer_same, lower_above, lower_front, lower_marked, lower_same, nothing_more}
use Rattle.aat_buffer.proofs.buffer.hb_buffer_t.mark_longer.Goals as goal

pub returns-then-span-end-clause-after : goal.returns-then-span-end-clause-after
returns-then-span-end-clause-after g c =
    ap (with_line c.args.self.now) (nothing_more c.args.self.now.line c.args.span c.args.end c.requires.marked c.if-span-end.true)

pub invariant_of-self : goal.invariant_of-self
invariant_of-self g c =
    let longer : c.args.span.end < c.args.end = omega (arith, c.requires.longer, c.if-span-end.false) in
    record {
      in_line = c.self.invariant.in_line;
      within_max = c.self.invariant.within_max;
      small = c.self.invariant.small;
      placed = c.self.invariant.placed;
      marked = longer_has c.args.self.now.line c.args.span c.args.end c.least_cluster-least.result c.requires.marked longer c.requires.in_line c.least_cluster-least.ensures c.if-span-least.true
          c.self.inside.line.glyphs (ap (λ (b : Buffer). b.line) (c.self.view_is ∙ c.mark_other_than.ensures.after));
      merged = c.self.invariant.merged;
    }

pub keep_marked-requires-clause-above : goal.keep_marked-requires-clause-above
keep_marked-requires-clause-above g c =
    let longer : c.args.span.end < c.args.end = omega (arith, c.requires.longer, c.if-span-end.false) in
    lower_above c.args.self.now.line c.args.span c.args.end c.least_cluster-least.result c.requires.marked longer c.requires.in_line c.least_cluster-least.ensures c.if-span-least.false
    c.mark_other_than-else-span-least.new.self.line (ap (λ (b : Buffer). b.line) c.mark_other_than-else-span-least.ensures.after)

pub keep_marked-requires-clause-front : goal.keep_marked-requires-clause-front
keep_marked-requires-clause-front g c =
    let longer : c.args.span.end < c.args.end = omega (arith, c.requires.longer, c.if-span-end.false) in
    lower_front c.args.self.now.line c.args.span c.args.end c.least_cluster-least.result c.requires.marked longer c.requires.in_line c.least_cluster-least.ensures c.if-span-least.false
    c.mark_other_than-else-span-least.new.self.line (ap (λ (b : Buffer). b.line) c.mark_other_than-else-span-least.ensures.after)

pub keep_marked-requires-clause-marked : goal.keep_marked-requires-clause-marked
keep_marked-requires-clause-marked g c =
    let longer : c.args.span.end < c.args.end = omega (arith, c.requires.longer, c.if-span-end.false) in
    lower_marked c.args.self.now.line c.args.span c.args.end c.least_cluster-least.result c.requires.marked longer c.requires.in_line c.least_cluster-least.ensures c.if-span-least.false
    c.mark_other_than-else-span-least.new.self.line (ap (λ (b : Buffer). b.line) c.mark_other_than-else-span-least.ensures.after)

pub returns-then-span-least-clause-after : goal.returns-then-span-least-clause-after
returns-then-span-least-clause-after g c =
    let longer : c.args.span.end < c.args.end = omega (arith, c.requires.longer, c.if-span-end.false) in
    c.self.view_is ∙ (c.mark_other_than.ensures.after
    ∙ ap (with_line c.args.self.now) (longer_same c.args.self.now.line c.args.span c.args.end c.least_cluster-least.result c.requires.marked longer c.requires.in_line c.least_cluster-least.ensures c.if-span-least.true))

pub returns-else-span-least-clause-after : goal.returns-else-span-least-clause-after
returns-else-span-least-clause-after g c =
    let longer : c.args.span.end < c.args.end = omega (arith, c.requires.longer, c.if-span-end.false) in
    c.keep_marked.ensures ∙ (c.mark_other_than-else-span-least.ensures.after
    ∙ ap (with_line c.args.self.now) (lower_same c.args.self.now.line c.args.span c.args.end c.least_cluster-least.result c.requires.marked longer c.requires.in_line c.least_cluster-least.ensures c.if-span-least.false))
