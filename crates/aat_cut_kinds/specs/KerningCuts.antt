-- What is left of the positions where a line is cut at a place that runs of kerning machines leave open.
use Rattle.std.specs.Prelude.{◌≡◌, ℕ, ℤ, ◌+◌, ◌-◌, ◌<◌, ◌≤◌, ◌&&◌, Bool, true, List, [], ◌∷◌, ◌++◌, length, take, drop, map, option_map, bit_and, Option}
use Rattle.std.specs.List.{AllByRecursion}
use Rattle.aat_buffer.specs.Buffer.{Buffer, position_list, reversed, with_max_ops}
use Rattle.aat_glyph.specs.declared.glyph.hb_glyph_info_t.{hb_glyph_info_t}
use Rattle.aat_kerning_tables.specs.AnchorPoints.{Points}
use Rattle.aat_machine_tables.specs.Table.{TableValue}
use Rattle.aat_machine_tables.specs.declared.entries.EntryData.{EntryData}
use Rattle.aat_machine_tables.specs.declared.entries.KernEntryData.{KernEntryData}
use Rattle.aat_machine_tables.specs.declared.state_table.GenericStateEntry.{GenericStateEntry}
use Rattle.aat_run.specs.Budget.{has_operations, operations_left}
use Rattle.aat_run.specs.Switches.{meets}
use Rattle.aat_kerning_machines.specs.Anchors.{anchor_driver}
use Rattle.aat_kerning_machines.specs.KerningMachine.{Driver, driver_run}
use Rattle.aat_kerning_machines.specs.Positions.{IsPlaced, attached_as, on_positions}
use Rattle.aat_kerning_machines.specs.Stack.{kern_driver, kerx_driver}
use Rattle.aat_cut_kinds.specs.KerningClosing.{Touching, anchor_touching, is_open, kern_touching, kerx_touching}

-- a run that kerns a line: what it leaves, and the places that it leaves open
pub record KernedRun : Type 0 where
  pub left : Buffer → Buffer
  pub opens : ℕ → Buffer → Bool

-- the run of a driver
abbrev pub kerned_run : {R T : Type 0} → Touching R T → Bool → TableValue (GenericStateEntry T)
    → Driver R (GenericStateEntry T) → KernedRun
kerned_run k pays_first table driver = record {
  left = λ b. (driver_run pays_first table driver b).buffer;
  opens = is_open k table pays_first driver;
}

-- by the stack of a `kern` subtable, by that of a `kerx` subtable, and by anchors
abbrev pub kern_stack : Bool → Bool → ℕ → List ℤ → TableValue (GenericStateEntry KernEntryData) → KernedRun
kern_stack pays_first is_cross kern_mask values table =
    kerned_run (kern_touching values) pays_first table (kern_driver is_cross kern_mask values)

abbrev pub kerx_stack : Bool → Bool → ℕ → ℕ → List ℤ → TableValue (GenericStateEntry EntryData) → KernedRun
kerx_stack pays_first is_cross kern_mask tuple_count values table =
    kerned_run (kerx_touching tuple_count values) pays_first table
    (kerx_driver is_cross kern_mask tuple_count values)

abbrev pub by_anchors : Bool → Option Points → List (ℕ × ℕ) → TableValue (GenericStateEntry EntryData) → KernedRun
by_anchors pays_first points pairs table =
    kerned_run anchor_touching pays_first table (anchor_driver points pairs)

-- over the line turned round, which is then turned back
abbrev pub turned : KernedRun → KernedRun
turned r = record {
  left = λ b. reversed (r.left (reversed b));
  opens = λ q b. r.opens (length b.line - q) (reversed b);
}

-- all glyphs are attached so, which closes nothing
abbrev pub attaching : ℕ → ℤ → KernedRun
attaching kind chain = record { left = on_positions (attached_as kind chain); opens = λ q b. true }

-- one after another: a place is open to all
abbrev pub kerned_by_all : List KernedRun → KernedRun
kerned_by_all [] = record { left = λ b. b; opens = λ q b. true }
kerned_by_all (r ∷ rs) = record {
  left = λ b. (kerned_by_all rs).left (r.left b);
  opens = λ q b. r.opens q b && (kerned_by_all rs).opens q (r.left b);
}

-- what kerning sees of a glyph: its id, its props, and whether its mask meets the kern mask
pub record Seen : Type 0 where
  pub id : ℕ
  pub glyph_props : ℕ
  pub unicode_props : ℕ
  pub asked : Bool

abbrev pub seen_of : ℕ → hb_glyph_info_t → Seen
seen_of kern_mask g = record {
  id = g.glyph_id;
  glyph_props = g.glyph_props;
  unicode_props = g.unicode_props;
  asked = meets g.mask kern_mask;
}

-- Two placed lines stand in a third, one behind the other, the first of q glyphs: of its direction, and alike in what
-- kerning sees and in the positions.
pub record StandIn (kern_mask q : ℕ) (whole front back : Buffer) : Type 0 where
  pub front_direction : front.direction ≡ whole.direction
  pub back_direction : back.direction ≡ whole.direction
  pub front_length : length front.line ≡ q
  pub glyphs :
      map (seen_of kern_mask) whole.line ≡ map (seen_of kern_mask) front.line ++ map (seen_of kern_mask) back.line
  pub positions : position_list whole ≡ position_list front ++ position_list back
  pub front_placed : IsPlaced front
  pub back_placed : IsPlaced back

-- where so much of the budget of the whole is to be left, it takes less than each of two others has
pub record HaveEnough (least : ℕ) (w f g : Buffer) : Type 0 where
  pub front : operations_left w.max_ops < operations_left f.max_ops + least
  pub back : operations_left w.max_ops < operations_left g.max_ops + least

-- A run keeps direction and length, and adds nothing to the budget. Where parts stand in a line at a place inside it
-- that is open to the run, and their budgets are enough for it to leave some of its own, what is left of them stands in
-- what is left of it, and their budgets are enough for what comes then.
pub record KeepsParts (kern_mask : ℕ) (r : KernedRun) : Type 0 where
  pub direction : (b : Buffer) → (r.left b).direction ≡ b.direction
  pub long : (b : Buffer) → length (r.left b).line ≡ length b.line
  pub spends : (b : Buffer) → operations_left (r.left b).max_ops ≤ operations_left b.max_ops
  pub parts :
      (q least : ℕ) (w f g : Buffer)
      → StandIn kern_mask q w f g → 0 < q → q < length w.line → r.opens q w ≡ true
      → 0 < least → least ≤ operations_left (r.left w).max_ops → HaveEnough least w f g
      → StandIn kern_mask q (r.left w) (r.left f) (r.left g) × HaveEnough least (r.left w) (r.left f) (r.left g)

-- by a kern mask without glyph flags (7), runs of machines do so, and so do runs over the line turned round, attaching,
-- and runs one after another
pub record RunsKeepParts : Type 0 where
  pub kern :
      (pays_first is_cross : Bool) (kern_mask : ℕ) (values : List ℤ)
      (table : TableValue (GenericStateEntry KernEntryData))
      → bit_and kern_mask 7 ≡ 0 → KeepsParts kern_mask (kern_stack pays_first is_cross kern_mask values table)
  pub kerx :
      (pays_first is_cross : Bool) (kern_mask tuple_count : ℕ) (values : List ℤ)
      (table : TableValue (GenericStateEntry EntryData))
      → bit_and kern_mask 7 ≡ 0
      → KeepsParts kern_mask (kerx_stack pays_first is_cross kern_mask tuple_count values table)
  pub anchors :
      (pays_first : Bool) (kern_mask : ℕ) (points : Option Points) (pairs : List (ℕ × ℕ))
      (table : TableValue (GenericStateEntry EntryData))
      → bit_and kern_mask 7 ≡ 0 → KeepsParts kern_mask (by_anchors pays_first points pairs table)
  pub turned_round : (kern_mask : ℕ) (r : KernedRun) → KeepsParts kern_mask r → KeepsParts kern_mask (turned r)
  pub attached : (kern_mask kind : ℕ) (chain : ℤ) → KeepsParts kern_mask (attaching kind chain)
  pub in_order :
      (kern_mask : ℕ) (rs : List KernedRun) → AllByRecursion (KeepsParts kern_mask) rs
      → KeepsParts kern_mask (kerned_by_all rs)

-- the glyphs before place q with their positions, in a buffer that is else the same
abbrev pub placed_front : ℕ → Buffer → Buffer
placed_front q b = record b { line = take q b.line; positions = option_map (λ ps. take q ps) b.positions }

-- those from place q on
abbrev pub placed_back : ℕ → Buffer → Buffer
placed_back q b = record b { line = drop q b.line; positions = option_map (λ ps. drop q ps) b.positions }

-- the positions that were left of the whole are those of the front part, and behind them those of the back part
abbrev pub PlacesInParts : Buffer → Buffer → Buffer → Type 0
PlacesInParts whole front back = position_list whole ≡ position_list front ++ position_list back

-- a budget is above what a run from one buffer to another takes of its own
abbrev pub IsEnough : Buffer → Buffer → ℤ → Type 0
IsEnough old new budget = operations_left old.max_ops < operations_left budget + operations_left new.max_ops

-- Over a placed line, a run that leaves some of its budget leaves the positions of the parts, at each place inside the
-- line that is open to it, where the budgets of these are enough.
abbrev pub LeavesPlacesInParts : KernedRun → Type 0
LeavesPlacesInParts r =
    (q : ℕ) (b : Buffer) (front_budget back_budget : ℤ)
    → IsPlaced b → 0 < q → q < length b.line → r.opens q b ≡ true → has_operations (r.left b) ≡ true
    → IsEnough b (r.left b) front_budget → IsEnough b (r.left b) back_budget
    → PlacesInParts (r.left b) (r.left (with_max_ops (placed_front q b) front_budget))
    (r.left (with_max_ops (placed_back q b) back_budget))

-- each run that keeps parts does, and so do those of machines by a kern mask without glyph flags; anchors do by any
pub record RunsLeavePlacesInParts : Type 0 where
  pub kern :
      (pays_first is_cross : Bool) (kern_mask : ℕ) (values : List ℤ)
      (table : TableValue (GenericStateEntry KernEntryData))
      → bit_and kern_mask 7 ≡ 0 → LeavesPlacesInParts (kern_stack pays_first is_cross kern_mask values table)
  pub kerx :
      (pays_first is_cross : Bool) (kern_mask tuple_count : ℕ) (values : List ℤ)
      (table : TableValue (GenericStateEntry EntryData))
      → bit_and kern_mask 7 ≡ 0
      → LeavesPlacesInParts (kerx_stack pays_first is_cross kern_mask tuple_count values table)
  pub anchors :
      (pays_first : Bool) (points : Option Points) (pairs : List (ℕ × ℕ))
      (table : TableValue (GenericStateEntry EntryData))
      → LeavesPlacesInParts (by_anchors pays_first points pairs table)
  pub each : (kern_mask : ℕ) (r : KernedRun) → KeepsParts kern_mask r → LeavesPlacesInParts r
