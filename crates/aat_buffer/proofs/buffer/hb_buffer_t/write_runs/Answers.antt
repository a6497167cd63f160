use Rattle.std.proofs.Common.{arith, sym, ◌∙◌}
use Rattle.aat_buffer.proofs.Pending.{runs_top}
use Rattle.aat_buffer.proofs.Steps.{write_more, shown_none}
use Rattle.aat_buffer.proofs.buffer.hb_buffer_t.write_runs.Goals as goal

pub overflow_sub-last : goal.overflow_sub-last
overflow_sub-last g c =
    let at = c.loop-count in
    let top = runs_top at.count at.last at.self.line at.self.cursor c.loop-count-test.true at.invariant.1.0.apart in
    omega (arith, top.0.0)

pub place_at-first-requires : goal.place_at-first-requires
place_at-first-requires g c =
    let at = c.loop-count in
    let top = runs_top at.count at.last at.self.line at.self.cursor c.loop-count-test.true at.invariant.1.0.apart in
    omega (arith, top.0.0, top.0.1, at.invariant.1.0.in_line)

pub place_at-below-requires : goal.place_at-below-requires
place_at-below-requires g c =
    let at = c.loop-count in
    let top = runs_top at.count at.last at.self.line at.self.cursor c.loop-count-test.true at.invariant.1.0.apart in
    omega (arith, top.0.0, top.0.1, at.invariant.1.0.in_line, c.place_at-first.ensures)

pub write_run-requires-clause-ordered : goal.write_run-requires-clause-ordered
write_run-requires-clause-ordered g c =
    let at = c.loop-count in
    let top = runs_top at.count at.last at.self.line at.self.cursor c.loop-count-test.true at.invariant.1.0.apart in
    omega (arith, top.0.0, c.place_at-first.ensures)

pub write_run-requires-clause-in_line : goal.write_run-requires-clause-in_line
write_run-requires-clause-in_line g c =
    let at = c.loop-count in
    let top = runs_top at.count at.last at.self.line at.self.cursor c.loop-count-test.true at.invariant.1.0.apart in
    omega (arith, top.0.1, at.invariant.1.0.in_line)

pub loop-count-preserved : goal.loop-count-preserved
loop-count-preserved g c =
    let at = c.loop-count in
    let more = write_more at.self c.write_run.new.self at.count at.last c.place_at-first.result c.place_at-below.result c.loop-count-test.true at.invariant.1.0 c.place_at-first.ensures c.place_at-below.ensures c.write_run.ensures.after in
    ((cc), (more.1, c.write_run.ensures.count ∙ at.invariant.1.1))

pub returns-clause-after : goal.returns-clause-after
returns-clause-after g c = sym (shown_none c.loop-count.self c.loop-count.count c.loop-count.last (omega arith)) ∙ c.loop-count.invariant.0
