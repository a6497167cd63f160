use Rattle.std.proofs.Common.{ap, arith}
use Rattle.aat_buffer.specs.Buffer.{Buffer}
use Rattle.aat_buffer.proofs.Marked.{whole_above, whole_marked}
use Rattle.aat_buffer.proofs.buffer.hb_buffer_t.mark_break_span.Goals as goal

pub keep_marked-requires-clause-above : goal.keep_marked-requires-clause-above
keep_marked-requires-clause-above g c =
    whole_above c.least_cluster-least.result c.args.self.now.line c.mark_other_than.new.self.line c.args.start c.args.end (omega (arith, c.requires.some)) c.requires.in_line
    (ap (λ (b : Buffer). b.line) c.mark_other_than.ensures.after) c.least_cluster-least.ensures

pub keep_marked-requires-clause-marked : goal.keep_marked-requires-clause-marked
keep_marked-requires-clause-marked g c =
    whole_marked c.least_cluster-least.result c.args.self.now.line c.mark_other_than.new.self.line c.args.start c.args.end (omega (arith, c.requires.some)) c.requires.in_line
    (ap (λ (b : Buffer). b.line) c.mark_other_than.ensures.after) c.least_cluster-least.ensures
