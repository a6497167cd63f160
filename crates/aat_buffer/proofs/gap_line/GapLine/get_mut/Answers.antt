use Rattle.std.proofs.Common.{arith, rules}
use Rattle.aat_buffer.proofs.Lent.{before_read, before_written, behind_read, behind_written}
use Rattle.aat_buffer.proofs.gap_line.GapLine.get_mut.Goals as goal

pub returns-then-i-self : goal.returns-then-i-self
returns-then-i-self g c =
    let a = c.self.inside in
    ((search rules, λ w. before_written c.args.self.now a.cells.items a.gap_start a.gap_end c.args.i w c.self.view_is (omega arith) (omega arith) (omega arith)), record { writes_back = tt; value = before_read c.args.self.now a.cells.items a.gap_start a.gap_end c.args.i _ c.self.view_is (omega arith) (omega arith) (omega arith) c.index_mut.ensures.value })

pub returns-else-i-self : goal.returns-else-i-self
returns-else-i-self g c =
    let a = c.self.inside in
    ((search rules, λ w. behind_written c.args.self.now a.cells.items a.gap_start a.gap_end c.args.i w c.self.view_is (omega arith) (omega arith) (omega arith) c.requires), record { writes_back = tt; value = behind_read c.args.self.now a.cells.items a.gap_start a.gap_end c.args.i _ c.self.view_is (omega arith) (omega arith) (omega arith) c.requires c.index_mut-else-i-self.ensures.value })
