-- The runs of a table's subtables leave the parts of a line open where they leave the line open.
use Rattle.std.proofs.Common.{◌≡◌, ℕ, ◌&&◌, ◌||◌, not, Bool, true, false, cond, List, [], ◌∷◌, map, pos, negsuc, bit_and, Option}
use Rattle.std.specs.List.{AllByRecursion}
use Rattle.aat_glyph.specs.Directions.{is_backward}
use Rattle.aat_glyph.specs.declared.glyph.Direction.{Direction}
use Rattle.aat_kerning_tables.specs.AnchorPoints.{Points}
use Rattle.aat_kerning_tables.specs.Classes.{kerning_by_classes}
use Rattle.aat_kerning_tables.specs.declared.kern.KernKind.{KernKind}
use Rattle.aat_kerning_tables.specs.declared.kern.KernKind.TheVariants as kind
use Rattle.aat_kerning_tables.specs.declared.kern.KernSubtable.{KernSubtable}
use Rattle.aat_kerning_tables.specs.declared.kerx.KerxFormat.{KerxFormat}
use Rattle.aat_kerning_tables.specs.declared.kerx.KerxFormat.TheVariants.{Format0, Format1, Format2, Format2Classes, Format4, Format6, Format6Classes}
use Rattle.aat_kerning_tables.specs.declared.kerx.KerxSubtable.{KerxSubtable}
use Rattle.aat_kerning.specs.PairKerning.{PairValues, value_of}
use Rattle.aat_kerning.specs.Pairs.{kern_skips, kerx_skips}
use Rattle.aat_kerning.specs.Positioning.{is_for_direction, is_turned_round}
use Rattle.aat_cut_kinds.specs.KernedTables.{KernedSubtable, TablesKeepOpens, by_kern, by_kern_kind, by_kerx, by_kerx_format, by_marked_pairs, by_pairs, by_subtables, marking, of_kern, of_kerx, runs_over, turned_where}
use Rattle.aat_cut_kinds.specs.KerningCuts.{KernedRun, attaching, kerned_by_all}
use Rattle.aat_cut_kinds.specs.KerningOpens.{KeepsOpens}
use Rattle.aat_cut_kinds.specs.facts.KernedTables.{IsKept, all_kept, kern_kept, kerx_kept, runs_kept, table_kept}
use Rattle.aat_cut_kinds.specs.facts.OpensKept.{runs_keep_opens}
use Rattle.aat_cut_kinds.specs.facts.PairOpens.{marking_keeps_opens, pairs_keep_opens}
use Rattle.aat_cut_kinds.specs.facts.PairParts.{marking_keeps_parts, pairs_keep_parts}

-- a subtable's run keeps open places
abbrev IsKeptOpen : ℕ → KernedSubtable → Type 0
IsKeptOpen kern_mask s = KeepsOpens kern_mask s.run

module _ (kern_mask : ℕ) (free : bit_and kern_mask 7 ≡ 0) where
  marked_pairs : (asked : Bool) (skips : ℕ) (is_cross : Bool) (values : PairValues) → KeepsOpens kern_mask (by_marked_pairs asked skips kern_mask is_cross values)
  marked_pairs asked skips is_cross values =
      runs_keep_opens.in_order kern_mask (marking asked ∷ by_pairs skips kern_mask is_cross values ∷ [])
      (marking_keeps_parts asked kern_mask free, (pairs_keep_parts skips kern_mask free is_cross values, tt))
      (marking_keeps_opens asked kern_mask, (pairs_keep_opens skips kern_mask free is_cross values, tt))

  format_open : (points : Option Points) (is_cross : Bool) (tuple_count : ℕ) (format : KerxFormat) → KeepsOpens kern_mask (by_kerx_format kern_mask points is_cross tuple_count format)
  format_open points is_cross tuple_count (Format0 pairs) = marked_pairs false kerx_skips is_cross (value_of pairs)
  format_open points is_cross tuple_count (Format1 s) = runs_keep_opens.kerx false is_cross kern_mask tuple_count s.values s.state_table free
  format_open points is_cross tuple_count (Format2 pairs) = marked_pairs true kerx_skips is_cross (value_of pairs)
  format_open points is_cross tuple_count (Format2Classes pairs) = marked_pairs true kerx_skips is_cross (kerning_by_classes pairs)
  format_open points is_cross tuple_count (Format4 s) = runs_keep_opens.anchors false kern_mask points s.anchor_points s.state_table free
  format_open points is_cross tuple_count (Format6 pairs) = marked_pairs false kerx_skips is_cross (value_of pairs)
  format_open points is_cross tuple_count (Format6Classes pairs) = marked_pairs false kerx_skips is_cross (kerning_by_classes pairs)

  kind_open : (is_cross : Bool) (kerned : KernKind) → KeepsOpens kern_mask (by_kern_kind kern_mask is_cross kerned)
  kind_open is_cross (kind.Pairs pairs) = marked_pairs true kern_skips is_cross (value_of pairs)
  kind_open is_cross (kind.Classes pairs) = marked_pairs true kern_skips is_cross (kerning_by_classes pairs)
  kind_open is_cross (kind.Machine s) = runs_keep_opens.kern true is_cross kern_mask s.values s.state_table free

  turned_open : (asked : Bool) (r : KernedRun) → KeepsOpens kern_mask r → KeepsOpens kern_mask (turned_where asked r)
  turned_open true r keeps = runs_keep_opens.turned_round kern_mask r keeps
  turned_open false r keeps = keeps

  kerx_open : (points : Option Points) (s : KerxSubtable) → IsKeptOpen kern_mask (of_kerx kern_mask points s)
  kerx_open points s =
      turned_open (is_turned_round s.is_last_to_first s.format) (by_kerx_format kern_mask points s.has_cross_stream s.tuple_count s.format)
      (format_open points s.has_cross_stream s.tuple_count s.format)

  kern_open : (s : KernSubtable) → IsKeptOpen kern_mask (of_kern kern_mask s)
  kern_open s = kind_open s.has_cross_stream s.kind

  all_open : {X : Type 0} (f : X → KernedSubtable) → ((x : X) → IsKeptOpen kern_mask (f x)) → (xs : List X) → AllByRecursion (IsKeptOpen kern_mask) (map f xs)
  all_open f each [] = tt
  all_open f each (x ∷ xs) = (each x, all_open f each xs)

  module _ (requested : Bool) (direction : Direction) where
    -- the runs of those that are for the direction
    runs_open : (is_attached : Bool) (ss : List KernedSubtable) → AllByRecursion (IsKeptOpen kern_mask) ss → AllByRecursion (KeepsOpens kern_mask) (runs_over requested direction is_attached ss)
    runs_open is_attached [] each = tt
    runs_open is_attached (s ∷ ss) each =
        by_tests (is_for_direction s.kerning direction) (s.kerning.has_cross_stream && not is_attached) (s.kerning.is_pairs && not requested)
        (runs_open (is_attached || s.kerning.has_cross_stream) ss each.1) (runs_open is_attached ss each.1)
      where
        by_tests : (t a p : Bool) → AllByRecursion (KeepsOpens kern_mask) (runs_over requested direction (is_attached || s.kerning.has_cross_stream) ss)
            → AllByRecursion (KeepsOpens kern_mask) (runs_over requested direction is_attached ss)
            → AllByRecursion (KeepsOpens kern_mask)
            (cond t (cond a (attaching 2 (cond (is_backward direction) (pos 1) (negsuc 0)) ∷ cond p (runs_over requested direction (is_attached || s.kerning.has_cross_stream) ss) (s.run ∷ runs_over requested direction (is_attached || s.kerning.has_cross_stream) ss))
            (cond p (runs_over requested direction (is_attached || s.kerning.has_cross_stream) ss) (s.run ∷ runs_over requested direction (is_attached || s.kerning.has_cross_stream) ss)))
            (runs_over requested direction is_attached ss))
        by_tests true true true rest skipped = (runs_keep_opens.attached kern_mask 2 _, rest)
        by_tests true true false rest skipped = (runs_keep_opens.attached kern_mask 2 _, (each.0, rest))
        by_tests true false true rest skipped = rest
        by_tests true false false rest skipped = (each.0, rest)
        by_tests false a p rest skipped = skipped

    table_open : (ss : List KernedSubtable) → AllByRecursion (IsKept kern_mask) ss → AllByRecursion (IsKeptOpen kern_mask) ss → KeepsOpens kern_mask (by_subtables requested direction ss)
    table_open ss each opens =
        turned_open (is_backward direction) (kerned_by_all (runs_over requested direction false ss))
        (runs_keep_opens.in_order kern_mask (runs_over requested direction false ss) (runs_kept kern_mask free requested direction false ss each) (runs_open false ss opens))

    kerx_opens : (points : Option Points) (subtables : List KerxSubtable) → KeepsOpens kern_mask (by_kerx requested kern_mask points subtables direction)
    kerx_opens points subtables =
        runs_keep_opens.in_order kern_mask (marking true ∷ by_subtables requested direction (map (of_kerx kern_mask points) subtables) ∷ [])
        (marking_keeps_parts true kern_mask free, (table_kept kern_mask free requested direction (map (of_kerx kern_mask points) subtables) kept, tt))
        (marking_keeps_opens true kern_mask, (table_open (map (of_kerx kern_mask points) subtables) kept (all_open (of_kerx kern_mask points) (kerx_open points) subtables), tt))
      where
        kept : AllByRecursion (IsKept kern_mask) (map (of_kerx kern_mask points) subtables)
        kept = all_kept kern_mask free (of_kerx kern_mask points) (kerx_kept kern_mask free points) subtables

    kern_opens : (subtables : List KernSubtable) → KeepsOpens kern_mask (by_kern requested kern_mask subtables direction)
    kern_opens subtables =
        table_open (map (of_kern kern_mask) subtables) (all_kept kern_mask free (of_kern kern_mask) (kern_kept kern_mask free) subtables)
        (all_open (of_kern kern_mask) kern_open subtables)

pub tables_keep_opens : TablesKeepOpens
tables_keep_opens = record {
  kerx = λ requested kern_mask points subtables direction free. kerx_opens kern_mask free requested direction points subtables;
  kern = λ requested kern_mask subtables direction free. kern_opens kern_mask free requested direction subtables;
}
