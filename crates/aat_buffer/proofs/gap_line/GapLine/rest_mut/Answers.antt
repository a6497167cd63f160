use Rattle.std.proofs.Common.{rules, arith}
use Rattle.std.specs.Prelude.{vec_len}
use Rattle.aat_buffer.proofs.Lent.{rest_left, rest_lent}
use Rattle.aat_buffer.proofs.gap_line.GapLine.rest_mut.Goals as goal

pub returns : goal.returns
returns g c =
    let a = c.self.inside in
    ((search rules, λ w. rest_left c.args.self.now a.cells.items w a.gap_start a.gap_end (vec_len a.cells) c.self.view_is a.cells.ok.0 c.self.invariant.ordered (omega arith)), record { writes_back = tt; value = rest_lent c.args.self.now a.cells.items c.slice_mut.result.now a.gap_start a.gap_end (vec_len a.cells) c.self.view_is c.slice_mut.ensures.value a.cells.ok.0 c.self.invariant.ordered (omega arith) })
