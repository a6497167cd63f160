-- The worked rows of shaping, by computing.
use Rattle.std.proofs.Common.{refl}
use Rattle.std.specs.Int.{int_wrap}
use Rattle.aat_buffer.specs.Marks.{merged_out}
use Rattle.aat_buffer.specs.Removal.{removal, cluster_kept_line, lowered_run}
use Rattle.aat_run.specs.Driven.{machine_run}
use Rattle.aat_run.specs.Machine.{run, run_to_end, turn, off, by_entry, acted, marked}
use Rattle.aat_run.specs.Safe.{is_safe}
use Rattle.aat_kinds.specs.Kinds.{ligature_run}
use Rattle.aat_kinds.specs.Ligature as ligature
use Rattle.aat_morx.specs.Substitution.{subtable_run}
use Rattle.aat_kerning.specs.PairKerning.{kerned, pair_kerning}
use Rattle.aat_kerning.specs.Pairs.{pairs_of}
use Rattle.aat_kerning.specs.Positioning.{positioned, positioning, kern_positioning}
use Rattle.aat_layout.specs.Shaping.{placed_by, shaped_by, shaped_with_deleted_by}
use Rattle.aat_layout.specs.ShapingRows.{ShapingRows}

pub shaping_rows : ShapingRows
unfolding shaped_by shaped_with_deleted_by placed_by subtable_run machine_run run run_to_end turn off by_entry acted marked is_safe merged_out removal cluster_kept_line lowered_run ligature_run ligature.act ligature.ligated ligature.component_step ligature.stored ligature.later_deleted int_wrap kerned pair_kerning pairs_of positioned positioning kern_positioning
shaping_rows = record {
  row_38a = refl;
  row_38b = refl;
}
