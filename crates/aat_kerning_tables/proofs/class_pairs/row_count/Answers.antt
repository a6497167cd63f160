use Rattle.std.proofs.Common.{arith}
use Rattle.aat_kerning_tables.proofs.ClassRows.{rows_hold}
use Rattle.aat_kerning_tables.proofs.class_pairs.row_count.Goals as goal

pub returns-clause-all : goal.returns-clause-all
returns-clause-all c = rw c.min.ensures (rows_hold c.args.count c.args.right_count (omega (arith, c.if-right_count-eq0.false)))
