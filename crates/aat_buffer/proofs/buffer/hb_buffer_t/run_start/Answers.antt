use Rattle.std.proofs.Common.{arith, ◌≡◌, ◌-◌, ◌+◌}
use Rattle.aat_buffer.specs.Marks.{run_before}
use Rattle.aat_buffer.proofs.Runs.{run_before_more, run_before_other}
use Rattle.aat_buffer.proofs.buffer.hb_buffer_t.run_start.Goals as goal

pub returns-then-glyph-cluster-clause-run : goal.returns-then-glyph-cluster-clause-run
returns-then-glyph-cluster-clause-run g c =
    let none : run_before c.args.self.now.line c.args.from (c.args.start - c.loop-count.count) c.args.cluster ≡ 0 = run_before_other c.args.self.now.line c.args.cluster c.args.from (c.args.start - c.loop-count.count) (c.args.start - c.loop-count.count - 1) c.glyph.result (omega arith) (omega arith) (omega arith) c.glyph.ensures c.if-glyph-cluster.true in
    omega (arith, none, c.loop-count.invariant)

pub loop-count-preserved : goal.loop-count-preserved
loop-count-preserved g c = omega (arith, run_before_more c.args.self.now.line c.args.cluster c.args.from (c.args.start - c.loop-count.count) (c.args.start - c.loop-count.count - 1) (c.args.start - (c.loop-count.count + 1)) c.glyph.result (omega arith) (omega arith) (omega arith) (omega arith) c.glyph.ensures c.if-glyph-cluster.false, c.loop-count.invariant)
