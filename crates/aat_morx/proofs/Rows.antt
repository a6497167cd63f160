-- The worked rows of substitution, by computing.
use Rattle.std.proofs.Common.{refl}
use Rattle.aat_buffer.specs.Marks.{merged, merged_out}
use Rattle.aat_buffer.specs.Removal.{removal, cluster_kept_line, lowered_run}
use Rattle.aat_morx.specs.Substitution.{subtable_run}
use Rattle.aat_run.specs.Driven.{machine_run}
use Rattle.aat_kinds.specs.Kinds.{rearrangement_run, contextual_run, ligature_run, insertion_run, noncontextual_run}
use Rattle.aat_run.specs.Machine.{run, run_to_end, turn, off, by_entry, acted, marked}
use Rattle.aat_run.specs.Safe.{is_safe}
use Rattle.aat_morx.specs.RearrangementRows.{RearrangementRows}
use Rattle.aat_morx.specs.ContextualRows.{ContextualRows}
use Rattle.aat_morx.specs.LigatureRows.{LigatureRows}
use Rattle.aat_morx.specs.InsertionRows.{InsertionRows}
use Rattle.aat_kinds.specs.Rearrangement as rearrangement
use Rattle.aat_kinds.specs.Contextual as contextual
use Rattle.aat_kinds.specs.Ligature as ligature
use Rattle.aat_kinds.specs.Insertion as insertion

pub rearrangement_rows : RearrangementRows
unfolding subtable_run machine_run run run_to_end turn off by_entry acted marked is_safe merged rearrangement_run rearrangement.act rearrangement.moved rearrangement.rearranged
rearrangement_rows = record {
  row_8a = refl;
  row_8b = refl;
  row_8c = refl;
  row_8d = refl;
  row_8e = refl;
  row_8f = refl;
  row_9a = refl;
  row_9b = refl;
  row_22 = refl;
  row_23 = refl;
  row_26a = refl;
  row_26b = refl;
  row_26c = refl;
  row_36a = refl;
  row_36b = refl;
  level_1 = refl;
  level_2 = refl;
  concat = refl;
  all_verbs = refl;
}

pub contextual_rows : ContextualRows
unfolding subtable_run machine_run run run_to_end turn off by_entry acted marked is_safe noncontextual_run contextual_run contextual.act contextual.answer_of contextual.at_mark contextual.at_cursor
contextual_rows = record {
  row_1 = refl;
  by_own_cluster = refl;
  row_10a = refl;
  row_10b = refl;
  row_10c = refl;
  row_35 = refl;
  one_place = refl;
  new_props = refl;
}

pub ligature_rows : LigatureRows
unfolding subtable_run machine_run run run_to_end turn off by_entry acted marked is_safe merged_out removal cluster_kept_line lowered_run ligature_run ligature.act ligature.ligated ligature.component_step ligature.stored ligature.later_deleted
ligature_rows = record {
  row_11a = refl;
  row_11b = refl;
  row_12 = refl;
  row_24 = refl;
  row_31 = refl;
  row_32 = refl;
  row_37a = refl;
  row_37b = refl;
  kept_props = refl;
  held_once = refl;
  missing = refl;
  a_register_outlives_the_first_state = (refl, refl, refl);
}

pub insertion_rows : InsertionRows
unfolding subtable_run machine_run run run_to_end turn off by_entry acted marked is_safe insertion_run insertion.act insertion.at_mark insertion.at_cursor insertion.inserted
insertion_rows = record {
  row_13a = refl;
  row_13b = refl;
  row_13c = refl;
  row_13d = refl;
  row_14 = refl;
  row_25a = refl;
  row_25b = refl;
  row_27 = refl;
  row_33 = refl;
  mark_before = refl;
  empty_marked = refl;
  off_at_end = refl;
  on_at_end = refl;
}
