use Rattle.std.proofs.Common.{ap, ◌+◌, ◌-◌}
use Rattle.aat_buffer.proofs.Changed.{changed_parts}
use Rattle.aat_buffer.proofs.gap_line.change_cells.Goals as goal

pub returns-clause-after : goal.returns-clause-after
returns-clause-after g c = λ f by. changed_parts f c.args.cells.now c.change_all.new.glyphs c.change_all-2.new.glyphs c.args.gap_start c.args.gap_end c.args.start c.args.end _ _ _ _ c.requires.gap c.requires.in_cells c.requires.ordered c.requires.in_line c.min.ensures c.min-2.ensures (ap (λ m. m + (c.args.gap_end - c.args.gap_start)) c.max.ensures) (ap (λ m. m + (c.args.gap_end - c.args.gap_start)) c.max-2.ensures) (c.change_all.ensures.after f by) (c.change_all-2.ensures.after f by)
