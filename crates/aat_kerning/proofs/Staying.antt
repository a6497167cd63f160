-- A turn of a kerning machine that stays has been paid for, by each driver and by each subtable.
use Rattle.std.proofs.Common.{ℕ, Bool, true, false, List, Option}
use Rattle.std.specs.Prelude.{All}
use Rattle.std.specs.List.{slice_index_or}
use Rattle.aat_kerning_tables.specs.AnchorPoints.{Points}
use Rattle.aat_kerning_tables.specs.declared.kern.KernKind.{KernKind}
use Rattle.aat_kerning_tables.specs.declared.kern.KernKind.TheVariants as kind
use Rattle.aat_kerning_tables.specs.declared.kern.KernSubtable.{KernSubtable}
use Rattle.aat_kerning_tables.specs.declared.kerx.KerxFormat.{KerxFormat}
use Rattle.aat_kerning_tables.specs.declared.kerx.KerxFormat.TheVariants.{Format0, Format1, Format2, Format2Classes, Format4, Format6, Format6Classes}
use Rattle.aat_kerning_tables.specs.declared.kerx.KerxSubtable.{KerxSubtable}
use Rattle.aat_run.specs.Laws.{FitsAlways}
use Rattle.aat_kerning.specs.KerningLawful.{KernKindPaysForStaying, KernPaysForStaying, KerxFormatPaysForStaying, KerxPaysForStaying, StayingIsPaid}
use Rattle.aat_kerning_machines.specs.Anchors.{anchor_driver, IsFit}
use Rattle.aat_kerning_machines.specs.KerningMachine.{kerning_machine_of}
use Rattle.aat_kerning_machines.specs.Stack.{kerx_driver, kern_driver}
use Rattle.aat_kerning_machines.specs.facts.AnchorLaws.{anchors_are_lawful}
use Rattle.aat_kerning_machines.specs.facts.KerningPayments.{pays_for_staying}
use Rattle.aat_kerning_machines.specs.facts.StackLaws.{kerx_is_lawful, kern_is_lawful}

pub staying_is_paid : StayingIsPaid
staying_is_paid = record {
  kerx_stack = λ table is_cross kern_mask tuple_count values.
      pays_for_staying (kerning_machine_of false table (kerx_driver is_cross kern_mask tuple_count values)) FitsAlways
      (kerx_is_lawful is_cross kern_mask tuple_count values).keeps_place;
  kern_stack = λ table is_cross kern_mask values.
      pays_for_staying (kerning_machine_of true table (kern_driver is_cross kern_mask values)) FitsAlways
      (kern_is_lawful is_cross kern_mask values).keeps_place;
  anchors = λ table points pairs.
      pays_for_staying (kerning_machine_of false table (anchor_driver points pairs)) IsFit (anchors_are_lawful points pairs).keeps_place;
}

kerx_format_pays :
    (kern_mask : ℕ) (points : Option Points) (is_cross : Bool) (tuple_count : ℕ) (format : KerxFormat)
    → KerxFormatPaysForStaying kern_mask points is_cross tuple_count format
kerx_format_pays kern_mask points is_cross tuple_count (Format0 pairs) = tt
kerx_format_pays kern_mask points is_cross tuple_count (Format1 s) =
    staying_is_paid.kerx_stack s.state_table is_cross kern_mask tuple_count s.values
kerx_format_pays kern_mask points is_cross tuple_count (Format2 pairs) = tt
kerx_format_pays kern_mask points is_cross tuple_count (Format2Classes pairs) = tt
kerx_format_pays kern_mask points is_cross tuple_count (Format4 s) =
    staying_is_paid.anchors s.state_table points s.anchor_points
kerx_format_pays kern_mask points is_cross tuple_count (Format6 pairs) = tt
kerx_format_pays kern_mask points is_cross tuple_count (Format6Classes pairs) = tt

-- each subtable of `kerx` pays for staying
pub kerx_pays_for_staying :
    (kern_mask : ℕ) (points : Option Points) (subtables : List KerxSubtable)
    → All (KerxPaysForStaying kern_mask points) subtables
unfolding KerxPaysForStaying
kerx_pays_for_staying kern_mask points subtables k d below =
    let s = slice_index_or subtables k d in
    kerx_format_pays kern_mask points s.has_cross_stream s.tuple_count s.format

kern_kind_pays : (kern_mask : ℕ) (is_cross : Bool) (k : KernKind) → KernKindPaysForStaying kern_mask is_cross k
kern_kind_pays kern_mask is_cross (kind.Pairs pairs) = tt
kern_kind_pays kern_mask is_cross (kind.Classes pairs) = tt
kern_kind_pays kern_mask is_cross (kind.Machine s) =
    staying_is_paid.kern_stack s.state_table is_cross kern_mask s.values

-- and each of `kern`
pub kern_pays_for_staying :
    (kern_mask : ℕ) (subtables : List KernSubtable) → All (KernPaysForStaying kern_mask) subtables
unfolding KernPaysForStaying
kern_pays_for_staying kern_mask subtables k d below =
    let s = slice_index_or subtables k d in kern_kind_pays kern_mask s.has_cross_stream s.kind
