use Rattle.std.proofs.Common.{arith, ◌≡◌}
use Rattle.aat_buffer.specs.Marks.{run_after}
use Rattle.aat_buffer.proofs.Runs.{run_after_more, run_after_other}
use Rattle.aat_buffer.proofs.buffer.hb_buffer_t.run_end.Goals as goal

pub returns-then-glyph-cluster-clause-run : goal.returns-then-glyph-cluster-clause-run
returns-then-glyph-cluster-clause-run g c =
    let none : run_after c.args.self.now.line c.loop-i.i c.args.cluster ≡ 0 = run_after_other c.args.self.now.line c.args.cluster c.loop-i.i c.glyph.result (omega arith) c.glyph.ensures c.if-glyph-cluster.true in
    omega (arith, none, c.loop-i.invariant)

pub loop-i-preserved : goal.loop-i-preserved
loop-i-preserved g c = omega (arith, run_after_more c.args.self.now.line c.args.cluster c.loop-i.i c.glyph.result (omega arith) c.glyph.ensures c.if-glyph-cluster.false, c.loop-i.invariant)
