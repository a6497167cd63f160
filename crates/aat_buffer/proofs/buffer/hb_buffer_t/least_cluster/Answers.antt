use Rattle.aat_buffer.proofs.Spans.{least_of_span}
use Rattle.aat_buffer.proofs.buffer.hb_buffer_t.least_cluster.Goals as goal

pub returns : goal.returns
returns g c = least_of_span c.args.self.now.line c.args.start c.args.end c.least_from.result c.glyph-first.result c.requires.some c.glyph-first.ensures c.least_from.ensures
