-- Where runs leave the parts of a line open: wherever they leave the line open, so that the places of a text serve for
-- many cuts of it.
use Rattle.std.specs.Prelude.{◌≡◌, ℕ, ℤ, ◌-◌, ◌<◌, ◌≤◌, Bool, true, List, length, bit_and, Option}
use Rattle.std.specs.List.{AllByRecursion}
use Rattle.aat_buffer.specs.Buffer.{Buffer}
use Rattle.aat_kerning_tables.specs.AnchorPoints.{Points}
use Rattle.aat_machine_tables.specs.Table.{TableValue}
use Rattle.aat_machine_tables.specs.declared.entries.EntryData.{EntryData}
use Rattle.aat_machine_tables.specs.declared.entries.KernEntryData.{KernEntryData}
use Rattle.aat_machine_tables.specs.declared.state_table.GenericStateEntry.{GenericStateEntry}
use Rattle.aat_run.specs.Budget.{operations_left}
use Rattle.aat_cut_kinds.specs.KerningCuts.{HaveEnough, KeepsParts, KernedRun, StandIn, attaching, by_anchors, kern_stack, kerned_by_all, kerx_stack, turned}

-- Two lines are parts of a third for a run, cut at q: they stand in it at a place inside it that is open to the run,
-- and their budgets are enough for it to leave `least` of its own.
pub record ArePartsFor (r : KernedRun) (kern_mask q least : ℕ) (w f g : Buffer) : Type 0 where
  pub stand : StandIn kern_mask q w f g
  pub behind_first : 0 < q
  pub inside : q < length w.line
  pub opens : r.opens q w ≡ true
  pub some : 0 < least
  pub lasts : least ≤ operations_left (r.left w).max_ops
  pub enough : HaveEnough least w f g

-- Each other place inside the line that is open to the run is so in its part.
pub record KeepsOpens (kern_mask : ℕ) (r : KernedRun) : Type 0 where
  pub front :
      (q least : ℕ) (w f g : Buffer)
      → ArePartsFor r kern_mask q least w f g → (p : ℕ) → 0 < p → p < q → r.opens p w ≡ true
      → r.opens p f ≡ true
  pub back :
      (q least : ℕ) (w f g : Buffer)
      → ArePartsFor r kern_mask q least w f g → (p : ℕ) → q < p → p < length w.line → r.opens p w ≡ true
      → r.opens (p - q) g ≡ true

-- by a kern mask without glyph flags (7), runs of machines do so, and so do runs over the line turned round, attaching,
-- and runs one after another
pub record RunsKeepOpens : Type 0 where
  pub kern :
      (pays_first is_cross : Bool) (kern_mask : ℕ) (values : List ℤ)
      (table : TableValue (GenericStateEntry KernEntryData))
      → bit_and kern_mask 7 ≡ 0
      → KeepsOpens kern_mask (kern_stack pays_first is_cross kern_mask values table)
  pub kerx :
      (pays_first is_cross : Bool) (kern_mask tuple_count : ℕ) (values : List ℤ)
      (table : TableValue (GenericStateEntry EntryData))
      → bit_and kern_mask 7 ≡ 0
      → KeepsOpens kern_mask (kerx_stack pays_first is_cross kern_mask tuple_count values table)
  pub anchors :
      (pays_first : Bool) (kern_mask : ℕ) (points : Option Points) (pairs : List (ℕ × ℕ))
      (table : TableValue (GenericStateEntry EntryData))
      → bit_and kern_mask 7 ≡ 0 → KeepsOpens kern_mask (by_anchors pays_first points pairs table)
  pub turned_round : (kern_mask : ℕ) (r : KernedRun) → KeepsOpens kern_mask r → KeepsOpens kern_mask (turned r)
  pub attached : (kern_mask kind : ℕ) (chain : ℤ) → KeepsOpens kern_mask (attaching kind chain)
  pub in_order :
      (kern_mask : ℕ) (rs : List KernedRun)
      → AllByRecursion (KeepsParts kern_mask) rs → AllByRecursion (KeepsOpens kern_mask) rs
      → KeepsOpens kern_mask (kerned_by_all rs)
