-- The examples, by computing them.
use Rattle.std.proofs.Common.{refl}
use Rattle.aat_buffer.specs.Marks.{merged, merged_out}
use Rattle.aat_buffer.specs.Removal.{removal, cluster_kept_line, lowered_run}
use Rattle.aat_buffer.specs.Examples.{MergeExamples, MarkExamples, RemovalExamples}

pub merge_examples : MergeExamples
unfolding merged merged_out
merge_examples = record { grows_right = refl; grows_left = refl; stops_at_cursor = refl; out_grows_over_cursor = refl; end_past_line = refl; short_span_stays = refl; changed_loses_flags = refl; level_1_merges = refl; apart_keeps_clusters = refl; apart_marks = refl; apart_out_stays = refl }

pub mark_examples : MarkExamples
mark_examples = record { all_but_least = refl; least_of_span = refl; least_last = refl; keeps_other_bits = refl; short_span_stays = refl; concat_whole_span = refl; concat_one_glyph = refl; concat_not_asked = refl }

pub removal_examples : RemovalExamples
unfolding merged removal cluster_kept_line lowered_run
removal_examples = record { next_has_it = refl; next_has_it_inside = refl; kept_take_lower = refl; kept_take_its_flags = refl; kept_are_lower = refl; last_goes = refl; none_kept_merges = refl; none_kept_higher = refl; asked_as_it_stands = refl; all_go = refl; apart_kept_take_lower = refl; apart_none_kept_marks = refl; positions_go_along = refl; positions_stand_on_nothing = refl }
