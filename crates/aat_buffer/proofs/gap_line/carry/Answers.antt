use Rattle.aat_buffer.proofs.Gap.{one_copied}
use Rattle.aat_buffer.proofs.gap_line.carry.Goals as goal

pub returns-then-count-eq1-clause-after : goal.returns-then-count-eq1-clause-after
returns-then-count-eq1-clause-after c = one_copied c.args.cells.now c.args.from c.args.count c.args.to _ c.if-count-eq1.true c.requires.read c.requires.written
