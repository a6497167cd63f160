-- Where all subtables of a `kern` or a `kerx` table leave a line open, and what is left there of the positions.
use Rattle.std.specs.Prelude.{◌≡◌, ℕ, ℤ, pos, negsuc, ◌<◌, ◌&&◌, ◌||◌, not, Bool, true, false, List, [], ◌∷◌, length, map, bit_and, Option, if◌then◌else◌}
use Rattle.std.specs.Ordering.{int_eq}
use Rattle.aat_buffer.specs.Buffer.{Buffer, glyph_at, with_max_ops}
use Rattle.aat_glyph.specs.Directions.{is_backward}
use Rattle.aat_glyph.specs.declared.glyph.Direction.{Direction}
use Rattle.aat_kerning_tables.specs.AnchorPoints.{Points}
use Rattle.aat_kerning_tables.specs.Classes.{kerning_by_classes}
use Rattle.aat_kerning_tables.specs.declared.kern.KernKind.{KernKind}
use Rattle.aat_kerning_tables.specs.declared.kern.KernKind.TheVariants as kind
use Rattle.aat_kerning_tables.specs.declared.kern.KernSubtable.{KernSubtable}
use Rattle.aat_kerning_tables.specs.declared.kerx.KerxFormat.{KerxFormat}
use Rattle.aat_kerning_tables.specs.declared.kerx.KerxFormat.TheVariants.{Format0, Format1, Format2, Format2Classes, Format4, Format6, Format6Classes}
use Rattle.aat_kerning_tables.specs.declared.kerx.KerxSubtable.{KerxSubtable}
use Rattle.aat_run.specs.Budget.{has_operations}
use Rattle.aat_run.specs.Outcome.{Outcome}
use Rattle.aat_kerning_machines.specs.Positions.{IsPlaced}
use Rattle.aat_kerning.specs.PairKerning.{PairValues, pair_kerning, value_of}
use Rattle.aat_kerning.specs.Pairs.{is_solid, kern_skips, kerx_skips, pair_at}
use Rattle.aat_kerning.specs.Positioning.{Kerning, is_for_direction, is_turned_round, kern_positioning, kerning_of_kern_subtable, kerning_of_kerx_subtable, kerx_positioning, line_marked}
use Rattle.aat_cut_kinds.specs.KerningClosing.{is_none_or}
use Rattle.aat_cut_kinds.specs.KerningCuts.{IsEnough, KernedRun, PlacesInParts, attaching, by_anchors, kern_stack, kerned_by_all, kerx_stack, placed_back, placed_front, turned}
use Rattle.aat_cut_kinds.specs.KerningOpens.{KeepsOpens}

-- kerning by pairs: a place is open whose glyph is not skipped, and over which there is no pair with a value
abbrev pub by_pairs : ℕ → ℕ → Bool → PairValues → KernedRun
by_pairs skips kern_mask is_cross values = record {
  left = pair_kerning skips kern_mask is_cross values;
  opens = λ q b. is_solid skips (glyph_at b.line q) && is_none_or (pair_at skips kern_mask b.line q)
      (λ p. int_eq (values (glyph_at b.line p.left).glyph_id (glyph_at b.line p.right).glyph_id) (pos 0));
}

-- the line is marked first, where asked, which closes nothing
abbrev pub marking : Bool → KernedRun
marking asked = record { left = line_marked asked; opens = λ q b. true }

-- by pairs behind those marks
abbrev pub by_marked_pairs : Bool → ℕ → ℕ → Bool → PairValues → KernedRun
by_marked_pairs asked skips kern_mask is_cross values =
    kerned_by_all (marking asked ∷ by_pairs skips kern_mask is_cross values ∷ [])

-- over the line turned round, where asked
abbrev pub turned_where : Bool → KernedRun → KernedRun
turned_where asked r = if asked then turned r else r

-- by a `kerx` subtable: as `run_of_kerx_subtable`
abbrev pub by_kerx_format : ℕ → Option Points → Bool → ℕ → KerxFormat → KernedRun
by_kerx_format kern_mask points is_cross tuple_count (Format0 pairs) =
    by_marked_pairs false kerx_skips kern_mask is_cross (value_of pairs)
by_kerx_format kern_mask points is_cross tuple_count (Format1 s) =
    kerx_stack false is_cross kern_mask tuple_count s.values s.state_table
by_kerx_format kern_mask points is_cross tuple_count (Format2 pairs) =
    by_marked_pairs true kerx_skips kern_mask is_cross (value_of pairs)
by_kerx_format kern_mask points is_cross tuple_count (Format2Classes pairs) =
    by_marked_pairs true kerx_skips kern_mask is_cross (kerning_by_classes pairs)
by_kerx_format kern_mask points is_cross tuple_count (Format4 s) =
    by_anchors false points s.anchor_points s.state_table
by_kerx_format kern_mask points is_cross tuple_count (Format6 pairs) =
    by_marked_pairs false kerx_skips kern_mask is_cross (value_of pairs)
by_kerx_format kern_mask points is_cross tuple_count (Format6Classes pairs) =
    by_marked_pairs false kerx_skips kern_mask is_cross (kerning_by_classes pairs)

-- by a `kern` subtable: as `run_of_kern_subtable`
abbrev pub by_kern_kind : ℕ → Bool → KernKind → KernedRun
by_kern_kind kern_mask is_cross (kind.Pairs pairs) =
    by_marked_pairs true kern_skips kern_mask is_cross (value_of pairs)
by_kern_kind kern_mask is_cross (kind.Classes pairs) =
    by_marked_pairs true kern_skips kern_mask is_cross (kerning_by_classes pairs)
by_kern_kind kern_mask is_cross (kind.Machine s) = kern_stack true is_cross kern_mask s.values s.state_table

-- a subtable as positioning sees it, and its run
pub record KernedSubtable : Type 0 where
  pub kerning : Kerning
  pub run : KernedRun

abbrev pub of_kerx : ℕ → Option Points → KerxSubtable → KernedSubtable
of_kerx kern_mask points s = record {
  kerning = kerning_of_kerx_subtable kern_mask points s;
  run =
      turned_where (is_turned_round s.is_last_to_first s.format)
      (by_kerx_format kern_mask points s.has_cross_stream s.tuple_count s.format);
}

abbrev pub of_kern : ℕ → KernSubtable → KernedSubtable
of_kern kern_mask s = record {
  kerning = kerning_of_kern_subtable kern_mask s;
  run = by_kern_kind kern_mask s.has_cross_stream s.kind;
}

-- The runs over a line of a direction, in processing order, as `positioned`: of the subtables that are for it, pairs
-- where kerning is requested; the first that has cross-stream attaches all glyphs before.
abbrev pub runs_over : Bool → Direction → Bool → List KernedSubtable → List KernedRun
runs_over requested direction is_attached [] = []
runs_over requested direction is_attached (s ∷ ss) =
    let cross = s.kerning.has_cross_stream in
    if is_for_direction s.kerning direction
    then (let rest = runs_over requested direction (is_attached || cross) ss in
    let runs = if s.kerning.is_pairs && not requested then rest else s.run ∷ rest in
    if cross && not is_attached then attaching 2 (if is_backward direction then pos 1 else negsuc 0) ∷ runs else runs)
    else runs_over requested direction is_attached ss

-- all subtables, over a line of a direction
abbrev pub by_subtables : Bool → Direction → List KernedSubtable → KernedRun
by_subtables requested direction ss =
    turned_where (is_backward direction) (kerned_by_all (runs_over requested direction false ss))

-- a `kerx` table marks the line first
abbrev pub by_kerx : Bool → ℕ → Option Points → List KerxSubtable → Direction → KernedRun
by_kerx requested kern_mask points subtables direction =
    kerned_by_all (marking true ∷ by_subtables requested direction (map (of_kerx kern_mask points) subtables) ∷ [])

-- a `kern` table
abbrev pub by_kern : Bool → ℕ → List KernSubtable → Direction → KernedRun
by_kern requested kern_mask subtables direction =
    by_subtables requested direction (map (of_kern kern_mask) subtables)

-- Over a placed line, a kerning that leaves some of its budget leaves the positions of the parts, at each place inside
-- the line that is open to its runs, where the budgets of these are enough.
abbrev pub KernsInParts : (Buffer → Outcome) → (Direction → KernedRun) → Type 0
KernsInParts kerning run =
    (q : ℕ) (b : Buffer) (front_budget back_budget : ℤ)
    → IsPlaced b → 0 < q → q < length b.line → (run b.direction).opens q b ≡ true
    → has_operations (kerning b).buffer ≡ true
    → IsEnough b (kerning b).buffer front_budget → IsEnough b (kerning b).buffer back_budget
    → PlacesInParts (kerning b).buffer (kerning (with_max_ops (placed_front q b) front_budget)).buffer
    (kerning (with_max_ops (placed_back q b) back_budget)).buffer

-- by a kern mask without glyph flags (7), both tables do, whatever their subtables
pub record TablesKernInParts : Type 0 where
  pub kerx :
      (requested : Bool) (kern_mask : ℕ) (points : Option Points) (subtables : List KerxSubtable)
      → bit_and kern_mask 7 ≡ 0
      → KernsInParts (kerx_positioning requested kern_mask points subtables)
      (by_kerx requested kern_mask points subtables)
  pub kern :
      (requested : Bool) (kern_mask : ℕ) (subtables : List KernSubtable)
      → bit_and kern_mask 7 ≡ 0
      → KernsInParts (kern_positioning requested kern_mask subtables) (by_kern requested kern_mask subtables)

-- by a kern mask without glyph flags (7), both tables leave parts of a line open where they leave the line open
pub record TablesKeepOpens : Type 0 where
  pub kerx :
      (requested : Bool) (kern_mask : ℕ) (points : Option Points) (subtables : List KerxSubtable)
      (direction : Direction)
      → bit_and kern_mask 7 ≡ 0
      → KeepsOpens kern_mask (by_kerx requested kern_mask points subtables direction)
  pub kern :
      (requested : Bool) (kern_mask : ℕ) (subtables : List KernSubtable) (direction : Direction)
      → bit_and kern_mask 7 ≡ 0 → KeepsOpens kern_mask (by_kern requested kern_mask subtables direction)
