-- The examples of cuts of kerning machines, by computing.
use Rattle.std.proofs.Common.{refl}
use Rattle.std.specs.Int.{int_wrap}
use Rattle.aat_run.specs.Machine.{run}
use Rattle.aat_kerning_machines.specs.Anchors.{anchor_act}
use Rattle.aat_kerning_machines.specs.KerningMachine.{driver_run, kerning_acted, kerning_by_entry, kerning_marked, kerning_turn, kerning_whole, looked_ahead}
use Rattle.aat_kerning_machines.specs.Stack.{kern_act, kerx_act, popped}
use Rattle.aat_kerning.specs.PairKerning.{kerned, pair_kerning}
use Rattle.aat_kerning.specs.Pairs.{pairs_of}
use Rattle.aat_kerning.specs.Positioning.{kern_positioning, positioned, positioning}
use Rattle.aat_cut_kinds.specs.KerningClosing.{first_at, is_open, passes_each, taken_by}
use Rattle.aat_cut_kinds.specs.KerningExamples as examples

pub kerning_examples : examples.KerningExamples
unfolding int_wrap driver_run kerning_whole run kerning_turn kerning_by_entry kerning_marked looked_ahead kerning_acted kern_act kerx_act popped anchor_act is_open first_at passes_each taken_by
kerning_examples = record {
  a_plain_line = refl;
  a_stack_is_cleared = refl;
  a_stack_is_emptied = refl;
  the_state_is_another = refl;
  the_way_back_pushes = refl;
  an_entry_is_missing = refl;
  the_end_acts = refl;
  a_place_is_taken = refl;
  a_push_clears = refl;
  a_mark_is_used = refl;
  the_budget_is_used_up = refl;
  the_kern_mask_is_a_flag = refl;
}

pub kerned_table_examples : examples.KernedTableExamples
unfolding kern_positioning positioning positioned pair_kerning pairs_of kerned driver_run kerning_whole run kerning_turn kerning_by_entry kerning_marked looked_ahead kerning_acted kern_act popped is_open first_at passes_each taken_by
kerned_table_examples = record { between_pairs = refl; from_right_to_left = refl; within_a_pair = refl }
