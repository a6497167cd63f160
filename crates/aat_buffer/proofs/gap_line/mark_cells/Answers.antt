use Rattle.std.proofs.Common.{ap, ◌+◌, ◌-◌}
use Rattle.aat_buffer.specs.Marks.{marked_above}
use Rattle.aat_buffer.proofs.Changed.{changed_parts}
use Rattle.aat_buffer.proofs.gap_line.mark_cells.Goals as goal

pub returns-clause-after : goal.returns-clause-after
returns-clause-after c = changed_parts (marked_above c.args.cluster 3) c.args.cells.now c.mark_all_other_than.new.glyphs c.mark_all_other_than-2.new.glyphs c.args.gap_start c.args.gap_end c.args.start c.args.end _ _ _ _ c.requires.gap c.requires.in_cells c.requires.ordered c.requires.in_line c.min.ensures c.min-2.ensures (ap (λ m. m + (c.args.gap_end - c.args.gap_start)) c.max.ensures) (ap (λ m. m + (c.args.gap_end - c.args.gap_start)) c.max-2.ensures) c.mark_all_other_than.ensures.after c.mark_all_other_than-2.ensures.after
