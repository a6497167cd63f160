-- The examples of cuts, by computing.
use Rattle.std.proofs.Common.{refl}
use Rattle.aat_run.specs.Driven.{machine_run}
use Rattle.aat_run.specs.Machine.{acted, by_entry, marked, off, run, run_to_end, turn}
use Rattle.aat_run.specs.Safe.{is_safe}
use Rattle.aat_kinds.specs.Contextual.{act, answer_of, at_cursor, at_mark}
use Rattle.aat_kinds.specs.Insertion as i
use Rattle.aat_kinds.specs.Ligature as l
use Rattle.aat_kinds.specs.Rearrangement as r
use Rattle.aat_buffer.specs.Marks.{merged, merged_out}
use Rattle.aat_kinds.specs.Kinds.{contextual_run, insertion_run, ligature_run, rearrangement_run}
use Rattle.aat_cut_kinds.specs.CutExamples.{CutExamples}
use Rattle.aat_cut_kinds.specs.EmptyRunExamples.{EmptyRunExamples}
use Rattle.aat_cut_kinds.specs.FallExamples.{FallExamples}
use Rattle.aat_cut_kinds.specs.OtherCutExamples.{InsertionCutExamples, LigatureCutExamples, RearrangementCutExamples}
use Rattle.aat_cut_kinds.specs.PremiseExamples.{BackwardPremises, ContextualPremises, FallingPremises, RisingPremises}

pub cut_examples : CutExamples
unfolding contextual_run machine_run run_to_end run turn by_entry acted marked off is_safe act answer_of at_cursor at_mark
cut_examples = record {
  a_settled_table_is_cut = record { left = refl; left_of_front = refl; left_of_back = refl };
  a_mark_outlives_the_cut = record { left = refl; left_of_front = refl; left_of_back = refl };
  two_entries_are_taken_for_one = record { left = refl; left_of_front = refl; left_of_back = refl };
  a_missing_entry_ends_the_run = record { left = refl; left_of_front = refl; left_of_back = refl };
  a_missing_lookup_sets_no_mark = record { left = refl; left_of_front = refl; left_of_back = refl };
  no_turn_asks_where_it_is_off = record { left = refl; left_of_front = refl; left_of_back = refl };
}

pub ligature_cut_examples : LigatureCutExamples
unfolding ligature_run machine_run run_to_end run turn by_entry acted marked off is_safe l.act l.through_last l.ligated l.component_step l.stored l.later_deleted merged_out
ligature_cut_examples = record {
  a_component_outlives_the_cut = record { left = refl; left_of_front = refl; left_of_back = refl };
  two_entries_are_taken_for_one = record { left = refl; left_of_front = refl; left_of_back = refl };
}

pub rearrangement_cut_examples : RearrangementCutExamples
unfolding rearrangement_run machine_run run_to_end run turn by_entry acted marked off is_safe r.act r.moved r.rearranged merged
rearrangement_cut_examples = record {
  the_end_of_the_text_acts = record { left = refl; left_of_front = refl; left_of_back = refl };
  the_marked_glyph_moves = record { left = refl; left_of_front = refl; left_of_back = refl };
  a_merge_splits_a_cluster = record { left = refl; left_of_front = refl; left_of_back = refl };
}

pub insertion_cut_examples : InsertionCutExamples
unfolding insertion_run machine_run run_to_end run turn by_entry acted marked off is_safe i.act i.at_mark i.at_cursor i.inserted
insertion_cut_examples = record {
  no_turn_asks_where_it_is_off = record { left = refl; left_of_front = refl; left_of_back = refl };
  a_missing_entry_ends_the_run = record { left = refl; left_of_front = refl; left_of_back = refl };
}

pub fall_examples : FallExamples
unfolding insertion_run machine_run run_to_end run turn by_entry acted marked off is_safe i.act i.at_mark i.at_cursor i.inserted
fall_examples = record {
  a_falling_line_is_cut = record { left = refl; left_of_front = refl; left_of_back = refl };
  a_line_is_cut_from_its_end = record { left = refl; left_of_front = refl; left_of_back = refl };
  the_glyph_before_the_cut_is_marked = record { left = refl; left_of_front = refl; left_of_back = refl };
}

pub empty_run_examples : EmptyRunExamples
unfolding insertion_run machine_run run_to_end run turn by_entry acted marked off is_safe i.act i.at_mark i.at_cursor i.inserted
empty_run_examples = record {
  rising = record { left = refl; left_of_front = refl; left_of_back = refl };
  falling = record { left = refl; left_of_front = refl; left_of_back = refl };
  backward = record { left = refl; left_of_front = refl; left_of_back = refl };
}

pub contextual_premises : ContextualPremises
unfolding contextual_run machine_run run_to_end run turn by_entry acted marked off is_safe act answer_of at_cursor at_mark
contextual_premises = record {
  no_cluster_starts = record { left = refl; left_of_front = refl; left_of_back = refl };
  the_cut_is_marked = record { left = refl; left_of_front = refl; left_of_back = refl };
  the_budget_is_spent = record { left = refl; left_of_front = refl; left_of_back = refl };
  spent = refl;
}

pub rising_premises : RisingPremises
unfolding insertion_run machine_run run_to_end run turn by_entry acted marked off is_safe i.act i.at_mark i.at_cursor i.inserted
rising_premises = record {
  no_cluster_starts = record { left = refl; left_of_front = refl; left_of_back = refl };
  the_cut_is_marked = record { left = refl; left_of_front = refl; left_of_back = refl };
  the_budget_is_spent = record { left = refl; left_of_front = refl; left_of_back = refl };
  spent = refl;
}

pub falling_premises : FallingPremises
unfolding insertion_run machine_run run_to_end run turn by_entry acted marked off is_safe i.act i.at_mark i.at_cursor i.inserted
falling_premises = record {
  a_missing_entry_ends_the_run = record { left = refl; left_of_front = refl; left_of_back = refl };
  no_turn_asks_where_it_is_off = record { left = refl; left_of_front = refl; left_of_back = refl };
  the_budget_is_spent = record { left = refl; left_of_front = refl; left_of_back = refl };
  spent = refl;
}

pub backward_premises : BackwardPremises
unfolding insertion_run machine_run run_to_end run turn by_entry acted marked off is_safe i.act i.at_mark i.at_cursor i.inserted
backward_premises = record {
  a_missing_entry_ends_the_run = record { left = refl; left_of_front = refl; left_of_back = refl };
  no_turn_asks_where_it_is_off = record { left = refl; left_of_front = refl; left_of_back = refl };
  no_cluster_starts = record { left = refl; left_of_front = refl; left_of_back = refl };
  the_cut_is_marked = record { left = refl; left_of_front = refl; left_of_back = refl };
  the_budget_is_spent = record { left = refl; left_of_front = refl; left_of_back = refl };
  spent = refl;
}
