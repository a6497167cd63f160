-- That the drivers of kerning machines meet their laws, what kerning changes, and how many turns it takes.
use Rattle.std.specs.Prelude.{ℕ, ◌+◌, ◌*◌, ◌≤◌, Bool, true, false, List, length, ℤ, Option}
use Rattle.aat_buffer.specs.Buffer.{Buffer}
use Rattle.aat_kerning_tables.specs.AnchorPoints.{Points}
use Rattle.aat_machine_tables.specs.Table.{TableValue}
use Rattle.aat_machine_tables.specs.declared.entries.EntryData.{EntryData}
use Rattle.aat_machine_tables.specs.declared.entries.KernEntryData.{KernEntryData}
use Rattle.aat_kerning_tables.specs.declared.kern.KernKind.{KernKind}
use Rattle.aat_kerning_tables.specs.declared.kern.KernKind.TheVariants as kind
use Rattle.aat_kerning_tables.specs.declared.kern.KernSubtable.{KernSubtable}
use Rattle.aat_kerning_tables.specs.declared.kerx.KerxFormat.{KerxFormat}
use Rattle.aat_kerning_tables.specs.declared.kerx.KerxFormat.TheVariants.{Format0, Format1, Format2, Format2Classes, Format4, Format6, Format6Classes}
use Rattle.aat_kerning_tables.specs.declared.kerx.KerxSubtable.{KerxSubtable}
use Rattle.aat_machine_tables.specs.declared.state_table.GenericStateEntry.{GenericStateEntry}
use Rattle.aat_run.specs.Budget.{operations_left}
use Rattle.aat_run.specs.Laws.{FitsAlways, RunsEnd}
use Rattle.aat_run.specs.Outcome.{Outcome}
use Rattle.aat_kerning_machines.specs.Anchors.{anchor_driver, IsFit}
use Rattle.aat_kerning_machines.specs.KerningLaws.{IsLawfulDriver, PaysForStaying, IsKernedFrom}
use Rattle.aat_kerning_machines.specs.KerningMachine.{kerning_machine_of, kerning_turn}
use Rattle.aat_kerning.specs.Positioning.{kerx_positioning, kern_positioning}
use Rattle.aat_kerning_machines.specs.Stack.{kerx_driver, kern_driver}

-- fresh registers fit, passing and acting keep the fit, and an act changes positions and a scratch flag alone
pub record DriversAreLawful : Type 0 where
  pub kerx_stack :
      (is_cross : Bool) (kern_mask tuple_count : ℕ) (values : List ℤ)
      → IsLawfulDriver (kerx_driver is_cross kern_mask tuple_count values) FitsAlways
  pub kern_stack :
      (is_cross : Bool) (kern_mask : ℕ) (values : List ℤ)
      → IsLawfulDriver (kern_driver is_cross kern_mask values) FitsAlways
  pub anchors : (points : Option Points) (pairs : List (ℕ × ℕ)) → IsLawfulDriver (anchor_driver points pairs) IsFit

-- the turns of an outcome, but for so many of them, are paid for with an operation each
abbrev pub IsPaidBeyond : ℕ → Buffer → Outcome → Type 0
IsPaidBeyond free b o = o.turns + operations_left o.buffer.max_ops ≤ free + operations_left b.max_ops

-- K subtables take at most K(n + 1) + M turns, as each one beyond K(n + 1) is paid for, and each run of a machine ends
-- by itself
pub record KerningIsBounded : Type 0 where
  pub kerx :
      (requested : Bool) (kern_mask : ℕ) (points : Option Points) (subtables : List KerxSubtable) (b : Buffer)
      → IsPaidBeyond (length subtables * (length b.line + 1)) b
      (kerx_positioning requested kern_mask points subtables b)
  pub kern :
      (requested : Bool) (kern_mask : ℕ) (subtables : List KernSubtable) (b : Buffer)
      → IsPaidBeyond (length subtables * (length b.line + 1)) b (kern_positioning requested kern_mask subtables b)
  pub kerx_stack_ends :
      (table : TableValue (GenericStateEntry EntryData)) (is_cross : Bool) (kern_mask tuple_count : ℕ) (values : List ℤ)
      → RunsEnd (kerning_turn (kerning_machine_of false table (kerx_driver is_cross kern_mask tuple_count values)))
      FitsAlways
  pub kern_stack_ends :
      (table : TableValue (GenericStateEntry KernEntryData)) (is_cross : Bool) (kern_mask : ℕ) (values : List ℤ)
      → RunsEnd (kerning_turn (kerning_machine_of true table (kern_driver is_cross kern_mask values))) FitsAlways
  pub anchors_end :
      (table : TableValue (GenericStateEntry EntryData)) (points : Option Points) (pairs : List (ℕ × ℕ))
      → RunsEnd (kerning_turn (kerning_machine_of false table (anchor_driver points pairs))) IsFit

-- a turn of a machine that stays has been paid for
pub record StayingIsPaid : Type 0 where
  pub kerx_stack :
      (table : TableValue (GenericStateEntry EntryData)) (is_cross : Bool) (kern_mask tuple_count : ℕ) (values : List ℤ)
      → PaysForStaying (kerning_machine_of false table (kerx_driver is_cross kern_mask tuple_count values)) FitsAlways
  pub kern_stack :
      (table : TableValue (GenericStateEntry KernEntryData)) (is_cross : Bool) (kern_mask : ℕ) (values : List ℤ)
      → PaysForStaying (kerning_machine_of true table (kern_driver is_cross kern_mask values)) FitsAlways
  pub anchors :
      (table : TableValue (GenericStateEntry EntryData)) (points : Option Points) (pairs : List (ℕ × ℕ))
      → PaysForStaying (kerning_machine_of false table (anchor_driver points pairs)) IsFit

-- a turn that stays has been paid for in the machine that `run_of_kerx_subtable` runs by this format; pairs have no
-- turns
abbrev pub KerxFormatPaysForStaying : ℕ → Option Points → Bool → ℕ → KerxFormat → Type 0
KerxFormatPaysForStaying kern_mask points is_cross tuple_count (Format0 pairs) = Unit {0}
KerxFormatPaysForStaying kern_mask points is_cross tuple_count (Format1 s) =
    let driver = kerx_driver is_cross kern_mask tuple_count s.values in
    PaysForStaying (kerning_machine_of false s.state_table driver) FitsAlways
KerxFormatPaysForStaying kern_mask points is_cross tuple_count (Format2 pairs) = Unit {0}
KerxFormatPaysForStaying kern_mask points is_cross tuple_count (Format2Classes pairs) = Unit {0}
KerxFormatPaysForStaying kern_mask points is_cross tuple_count (Format4 s) =
    PaysForStaying (kerning_machine_of false s.state_table (anchor_driver points s.anchor_points)) IsFit
KerxFormatPaysForStaying kern_mask points is_cross tuple_count (Format6 pairs) = Unit {0}
KerxFormatPaysForStaying kern_mask points is_cross tuple_count (Format6Classes pairs) = Unit {0}

-- and so it has in this `kerx` subtable
unfoldable pub KerxPaysForStaying : ℕ → Option Points → KerxSubtable → Type 0
KerxPaysForStaying kern_mask points s =
    KerxFormatPaysForStaying kern_mask points s.has_cross_stream s.tuple_count s.format

-- a turn that stays has been paid for in the machine that `run_of_kern_subtable` runs; pairs have no turns
abbrev pub KernKindPaysForStaying : ℕ → Bool → KernKind → Type 0
KernKindPaysForStaying kern_mask is_cross (kind.Pairs pairs) = Unit {0}
KernKindPaysForStaying kern_mask is_cross (kind.Classes pairs) = Unit {0}
KernKindPaysForStaying kern_mask is_cross (kind.Machine s) =
    PaysForStaying (kerning_machine_of true s.state_table (kern_driver is_cross kern_mask s.values)) FitsAlways

-- and so it has in this `kern` subtable
unfoldable pub KernPaysForStaying : ℕ → KernSubtable → Type 0
KernPaysForStaying kern_mask s = KernKindPaysForStaying kern_mask s.has_cross_stream s.kind

-- kerning changes marks, positions, a scratch flag, the budget and the cursor alone
pub record KerningChangesLittle : Type 0 where
  pub kerx :
      (requested : Bool) (kern_mask : ℕ) (points : Option Points) (subtables : List KerxSubtable) (b : Buffer)
      → IsKernedFrom b (kerx_positioning requested kern_mask points subtables b).buffer
  pub kern :
      (requested : Bool) (kern_mask : ℕ) (subtables : List KernSubtable) (b : Buffer)
      → IsKernedFrom b (kern_positioning requested kern_mask subtables b).buffer
