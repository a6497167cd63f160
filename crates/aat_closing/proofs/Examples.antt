-- The examples of closing runs, by computing.
use Rattle.std.proofs.Common.{refl}
use Rattle.aat_buffer.specs.Marks.{merged, merged_out}
use Rattle.aat_run.specs.Driven.{comes_to_end, machine_run}
use Rattle.aat_run.specs.Machine.{acted, by_entry, marked, off, run, run_to_end, turn}
use Rattle.aat_run.specs.Safe.{is_safe}
use Rattle.aat_kinds.specs.Contextual.{act, answer_of, at_cursor, at_mark}
use Rattle.aat_kinds.specs.Ligature as l
use Rattle.aat_kinds.specs.Rearrangement as r
use Rattle.aat_closing.specs.AlikeExamples.{AlikeExamples}
use Rattle.aat_closing.specs.Closing.{are_in_order}
use Rattle.aat_closing.specs.ClosingExamples.{ClosingExamples}
use Rattle.aat_closing.specs.ClosingRuns.{told_run}

pub closing_examples : ClosingExamples
unfolding told_run comes_to_end machine_run run_to_end run turn by_entry acted marked off is_safe act answer_of at_cursor at_mark l.act l.ligated l.component_step l.stored l.later_deleted merged_out are_in_order r.act r.moved r.rearranged merged
closing_examples = record {
  a_settled_table_is_open = refl;
  a_mark_is_used_at_the_end = refl;
  a_mark_is_set_by_one_entry = refl;
  a_missing_entry_ends_the_run = refl;
  a_component_is_taken_over_the_cut = refl;
  one_entry_pushes = refl;
  the_end_ends_a_span = refl;
  a_marked_glyph_moves = refl;
}

pub alike_examples : AlikeExamples
unfolding told_run comes_to_end machine_run run_to_end run turn by_entry acted marked off is_safe act answer_of at_cursor at_mark
alike_examples = record {
  off_on_both_sides_is_told = refl;
  off_on_both_sides = record { left = refl; left_of_front = refl; left_of_back = refl };
  off_behind_alone_is_told = refl;
  off_behind_alone = record { left = refl; left_of_front = refl; left_of_back = refl };
}
