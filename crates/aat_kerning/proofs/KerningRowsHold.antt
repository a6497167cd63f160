-- The worked rows and the examples of kerning, by computing.
use Rattle.std.proofs.Common.{◌≡◌, ◌<◌, refl, arith}
use Rattle.std.specs.Int.{int_wrap}
use Rattle.aat_buffer.specs.Marks.{merged}
use Rattle.aat_buffer.specs.Removal.{removal, cluster_kept_line, lowered_run}
use Rattle.aat_kerning_machines.specs.Anchors.{anchor_act}
use Rattle.aat_kerning_machines.specs.KerningMachine.{driver_run, kerning_marked, kerning_acted, looked_ahead, kerning_by_entry, kerning_turn, kerning_whole}
use Rattle.aat_kerning.specs.KerningRows.{KerningRows}
use Rattle.aat_kerning.specs.KerningExamples.{PairExamples, CutExamples, MachineExamples, StackExamples, AnchorExamples, PositioningExamples, OrderExamples, KerningExamples}
use Rattle.aat_run.specs.Machine.{run}
use Rattle.aat_kerning.specs.PairKerning.{kerned, pair_kerning}
use Rattle.aat_kerning.specs.Pairs.{pairs_of}
use Rattle.aat_kerning.specs.Positioning.{positioned, positioning, kerx_positioning, kern_positioning}
use Rattle.aat_kerning_machines.specs.Stack.{popped, kerx_act, kern_act}

pub kerning_rows : KerningRows
unfolding int_wrap merged removal cluster_kept_line lowered_run anchor_act kerning_marked kerning_acted looked_ahead kerning_by_entry kerning_turn kerning_whole run kerned pair_kerning pairs_of driver_run positioned positioning kerx_positioning kern_positioning popped kerx_act kern_act
kerning_rows = record {
  row_15a = refl;
  row_15b = refl;
  row_16 = refl;
  row_16_cut = refl;
  row_17a = refl;
  row_17b = refl;
  row_18a = refl;
  row_18b = refl;
  row_19a = refl;
  row_19b = refl;
  row_19c = refl;
  row_19d = refl;
  row_20 = refl;
  row_21 = refl;
  row_28a = refl;
  row_28b = refl;
  row_29a = refl;
  row_29b = refl;
  row_34 = refl;
}

pair_examples : PairExamples
unfolding int_wrap merged removal cluster_kept_line lowered_run anchor_act kerning_marked kerning_acted looked_ahead kerning_by_entry kerning_turn kerning_whole run kerned pair_kerning pairs_of driver_run positioned positioning kerx_positioning kern_positioning popped kerx_act kern_act
pair_examples = record {
  kern_stops_at_base = refl;
  kerx_skips_base = refl;
  ignorable_is_skipped = refl;
  substituted_is_solid = refl;
  unasked_pair = refl;
  skipped_at_left = refl;
  vertical_pair = refl;
  vertical_pair_across = refl;
  pair_by_classes = refl;
  kerx_pair_by_classes = (refl, refl);
  attaches_nothing = refl;
  backward_cut = refl;
  advances_added = refl;
  values_added = refl;
  advances_added_twice = refl;
  values_added_twice = refl;
}

machine_examples : MachineExamples
unfolding int_wrap merged removal cluster_kept_line lowered_run anchor_act kerning_marked kerning_acted looked_ahead kerning_by_entry kerning_turn kerning_whole run kerned pair_kerning pairs_of driver_run positioned positioning kerx_positioning kern_positioning popped kerx_act kern_act
machine_examples = record {
  unsafe_advancing = refl;
  unsafe_going_on = refl;
  unsafe_acting = refl;
  safe_staying = refl;
  unsafe_behind = refl;
  nothing_ahead = refl;
  last_operation_of_kern = refl;
  last_operation_of_kerx = refl;
}

stack_examples : StackExamples
unfolding int_wrap merged removal cluster_kept_line lowered_run anchor_act kerning_marked kerning_acted looked_ahead kerning_by_entry kerning_turn kerning_whole run kerned pair_kerning pairs_of driver_run positioned positioning kerx_positioning kern_positioning popped kerx_act kern_act
stack_examples = record {
  odd_ends = refl;
  odd_beyond = refl;
  unasked_place = refl;
  reset = refl;
  kerx_missing = refl;
  next_index_fits = refl;
  next_index_too_large = refl;
  kern_missing_first = refl;
  kern_stack_kept = refl;
  detached = refl;
  detached_by_odd = refl;
  values_across = refl;
  values_across_unattached = refl;
  vertical_values = refl;
  vertical_values_once = refl;
  vertical_values_across = refl;
}

anchor_examples : AnchorExamples
unfolding int_wrap merged removal cluster_kept_line lowered_run anchor_act kerning_marked kerning_acted looked_ahead kerning_by_entry kerning_turn kerning_whole run kerned pair_kerning pairs_of driver_run positioned positioning kerx_positioning kern_positioning popped kerx_act kern_act
anchor_examples = record {
  no_points = refl;
  mark_moves = refl;
  missing_pair = refl;
  at_end = refl;
}

positioning_examples : PositioningExamples
unfolding int_wrap merged removal cluster_kept_line lowered_run anchor_act kerning_marked kerning_acted looked_ahead kerning_by_entry kerning_turn kerning_whole run kerned pair_kerning pairs_of driver_run positioned positioning kerx_positioning kern_positioning popped kerx_act kern_act
positioning_examples = record {
  variable_is_passed = refl;
  vertical_is_passed = refl;
  horizontal_is_passed = refl;
  kerx_are_passed = refl;
  attached_at_second = refl;
  written_over = refl;
  attached_once = refl;
  attached_backward = refl;
  format_2_marks = refl;
  format_0_does_not = refl;
  kern_pairs_mark = refl;
  kern_machine_does_not = refl;
  kerx_marks = refl;
}

order_examples : OrderExamples
unfolding int_wrap merged removal cluster_kept_line lowered_run anchor_act kerning_marked kerning_acted looked_ahead kerning_by_entry kerning_turn kerning_whole run kerned pair_kerning pairs_of driver_run positioned positioning kerx_positioning kern_positioning popped kerx_act kern_act
order_examples = record {
  first_to_last = refl;
  last_to_first = refl;
  backward_first_to_last = refl;
  backward_last_to_first = refl;
  chain_in_its_order = refl;
  pairs_in_order = refl;
}

cut_examples : CutExamples
unfolding int_wrap merged removal cluster_kept_line lowered_run anchor_act kerning_marked kerning_acted looked_ahead kerning_by_entry kerning_turn kerning_whole run kerned pair_kerning pairs_of driver_run positioned positioning kerx_positioning kern_positioning popped kerx_act kern_act
cut_examples = record {
  falling_place = record {
    behind_first = omega arith;
    before_end = let inside : 1 < 3 = omega arith in inside;
    solid = refl;
    starts = λ e. let same : 1 ≡ 2 = e in absurd (omega (arith, same));
    unflagged = refl;
  };
  falling_parts = record {
    front = record { line = refl; places = refl; direction = refl };
    back = record { line = refl; places = refl; direction = refl };
  };
  falling_flagged = refl;
  falling_cut = refl;
  greater_flagged = refl;
  one_glyph_stays = refl;
  within_cluster = refl;
  before_skipped = refl;
  from_skipped = refl;
  mask_unasked = refl;
  mask_asked = refl;
  machine_alone = refl;
}

pub kerning_examples : KerningExamples
kerning_examples = record {
  pairs = pair_examples;
  cut = cut_examples;
  machines = machine_examples;
  stack = stack_examples;
  anchors = anchor_examples;
  positioning = positioning_examples;
  order = order_examples;
}
