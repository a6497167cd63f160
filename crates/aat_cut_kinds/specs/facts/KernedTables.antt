-- What the runs of a table's subtables leave is what kerning by it leaves, and they keep parts.
use Rattle.std.proofs.Common.{◌≡◌, ◌∙◌, ℕ, ◌+◌, ◌&&◌, ◌||◌, not, Bool, true, false, cond, List, [], ◌∷◌, map, fold, pos, negsuc, bit_and, Option, refl, ap, sym}
use Rattle.std.specs.List.{AllByRecursion}
use Rattle.aat_buffer.specs.Buffer.{Buffer, reversed, with_max_ops}
use Rattle.aat_glyph.specs.Directions.{is_backward}
use Rattle.aat_glyph.specs.declared.glyph.Direction.{Direction}
use Rattle.aat_kerning_tables.specs.AnchorPoints.{Points}
use Rattle.aat_kerning_tables.specs.Classes.{kerning_by_classes}
use Rattle.aat_kerning_tables.specs.declared.kern.KernKind.{KernKind}
use Rattle.aat_kerning_tables.specs.declared.kern.KernKind.TheVariants as kind
use Rattle.aat_kerning_tables.specs.declared.kern.KernSubtable.{KernSubtable}
use Rattle.aat_kerning_tables.specs.declared.kerx.KerxFormat.{KerxFormat}
use Rattle.aat_kerning_tables.specs.declared.kerx.KerxFormat.TheVariants.{Format0, Format1, Format2, Format2Classes, Format4, Format6, Format6Classes}
use Rattle.aat_kerning_tables.specs.declared.kerx.KerxSubtable.{KerxSubtable}
use Rattle.aat_run.specs.Outcome.{Outcome, untouched}
use Rattle.aat_kerning_machines.specs.Positions.{attached_as, on_positions}
use Rattle.aat_kerning.specs.PairKerning.{PairValues, value_of}
use Rattle.aat_kerning.specs.Pairs.{kern_skips, kerx_skips}
use Rattle.aat_kerning.specs.Positioning.{Kerning, Positioned, cursively_attached, in_processing_order, is_for_direction, is_turned_round, kern_positioning, kerning_of_kern_subtable, kerning_of_kerx_subtable, kerx_positioning, positioned, positioning, run_of_kern_subtable, run_of_kerx_subtable, run_turned_round, turned_round}
use Rattle.aat_cut_kinds.specs.KernedTables.{KernedSubtable, KernsInParts, TablesKernInParts, by_kern, by_kern_kind, by_kerx, by_kerx_format, by_marked_pairs, by_pairs, by_subtables, marking, of_kern, of_kerx, runs_over, turned_where}
use Rattle.aat_cut_kinds.specs.KerningCuts.{KeepsParts, KernedRun, attaching, kerned_by_all, placed_back, placed_front}
use Rattle.aat_cut_kinds.specs.facts.AnchorParts.{anchors_keep_parts}
use Rattle.aat_cut_kinds.specs.facts.KernedInOrder.{attaching_keeps_parts, in_order_keeps_parts, turned_keeps_parts}
use Rattle.aat_cut_kinds.specs.facts.KerningParts.{keeps_those_of_line}
use Rattle.aat_cut_kinds.specs.facts.PairParts.{marking_keeps_parts, pairs_keep_parts}
use Rattle.aat_cut_kinds.specs.facts.StackParts.{kern_keeps_parts, kerx_keeps_parts}

-- a run that keeps parts, and leaves what a subtable's run leaves
pub record IsKept (kern_mask : ℕ) (s : KernedSubtable) : Type 0 where
  pub same : (b : Buffer) → (s.kerning.run b).buffer ≡ s.run.left b
  pub keeps : KeepsParts kern_mask s.run

module _ (kern_mask : ℕ) (free : bit_and kern_mask 7 ≡ 0) where
  marked_pairs : (asked : Bool) (skips : ℕ) (is_cross : Bool) (values : PairValues) → KeepsParts kern_mask (by_marked_pairs asked skips kern_mask is_cross values)
  marked_pairs asked skips is_cross values =
      in_order_keeps_parts kern_mask (marking asked ∷ by_pairs skips kern_mask is_cross values ∷ [])
      (marking_keeps_parts asked kern_mask free, (pairs_keep_parts skips kern_mask free is_cross values, tt))

  format_kept : (points : Option Points) (is_cross : Bool) (tuple_count : ℕ) (format : KerxFormat) → KeepsParts kern_mask (by_kerx_format kern_mask points is_cross tuple_count format)
  format_kept points is_cross tuple_count (Format0 pairs) = marked_pairs false kerx_skips is_cross (value_of pairs)
  format_kept points is_cross tuple_count (Format1 s) = kerx_keeps_parts false is_cross kern_mask tuple_count s.values s.state_table free
  format_kept points is_cross tuple_count (Format2 pairs) = marked_pairs true kerx_skips is_cross (value_of pairs)
  format_kept points is_cross tuple_count (Format2Classes pairs) = marked_pairs true kerx_skips is_cross (kerning_by_classes pairs)
  format_kept points is_cross tuple_count (Format4 s) = anchors_keep_parts false kern_mask points s.anchor_points s.state_table free
  format_kept points is_cross tuple_count (Format6 pairs) = marked_pairs false kerx_skips is_cross (value_of pairs)
  format_kept points is_cross tuple_count (Format6Classes pairs) = marked_pairs false kerx_skips is_cross (kerning_by_classes pairs)

  format_same : (points : Option Points) (is_cross : Bool) (tuple_count : ℕ) (format : KerxFormat) (b : Buffer)
      → (run_of_kerx_subtable kern_mask points is_cross tuple_count format b).buffer ≡ (by_kerx_format kern_mask points is_cross tuple_count format).left b
  format_same points is_cross tuple_count (Format0 pairs) b = refl
  format_same points is_cross tuple_count (Format1 s) b = refl
  format_same points is_cross tuple_count (Format2 pairs) b = refl
  format_same points is_cross tuple_count (Format2Classes pairs) b = refl
  format_same points is_cross tuple_count (Format4 s) b = refl
  format_same points is_cross tuple_count (Format6 pairs) b = refl
  format_same points is_cross tuple_count (Format6Classes pairs) b = refl

  kind_kept : (is_cross : Bool) (kerned : KernKind) → KeepsParts kern_mask (by_kern_kind kern_mask is_cross kerned)
  kind_kept is_cross (kind.Pairs pairs) = marked_pairs true kern_skips is_cross (value_of pairs)
  kind_kept is_cross (kind.Classes pairs) = marked_pairs true kern_skips is_cross (kerning_by_classes pairs)
  kind_kept is_cross (kind.Machine s) = kern_keeps_parts true is_cross kern_mask s.values s.state_table free

  kind_same : (is_cross : Bool) (kerned : KernKind) (b : Buffer) → (run_of_kern_subtable kern_mask is_cross kerned b).buffer ≡ (by_kern_kind kern_mask is_cross kerned).left b
  kind_same is_cross (kind.Pairs pairs) b = refl
  kind_same is_cross (kind.Classes pairs) b = refl
  kind_same is_cross (kind.Machine s) b = refl

  turned_kept : (asked : Bool) (r : KernedRun) → KeepsParts kern_mask r → KeepsParts kern_mask (turned_where asked r)
  turned_kept true r keeps = turned_keeps_parts kern_mask r keeps
  turned_kept false r keeps = keeps

  turned_same : (asked : Bool) (run : Buffer → Outcome) (r : KernedRun) → ((b : Buffer) → (run b).buffer ≡ r.left b) → (b : Buffer)
      → (run_turned_round asked run b).buffer ≡ (turned_where asked r).left b
  turned_same true run r same b = ap reversed (same (reversed b))
  turned_same false run r same b = same b

  pub kerx_kept : (points : Option Points) (s : KerxSubtable) → IsKept kern_mask (of_kerx kern_mask points s)
  kerx_kept points s = record {
    same = turned_same (is_turned_round s.is_last_to_first s.format) (run_of_kerx_subtable kern_mask points s.has_cross_stream s.tuple_count s.format) (by_kerx_format kern_mask points s.has_cross_stream s.tuple_count s.format)
        (format_same points s.has_cross_stream s.tuple_count s.format);
    keeps = turned_kept (is_turned_round s.is_last_to_first s.format) (by_kerx_format kern_mask points s.has_cross_stream s.tuple_count s.format) (format_kept points s.has_cross_stream s.tuple_count s.format);
  }

  pub kern_kept : (s : KernSubtable) → IsKept kern_mask (of_kern kern_mask s)
  kern_kept s = record { same = kind_same s.has_cross_stream s.kind; keeps = kind_kept s.has_cross_stream s.kind }

  pub all_kept : {X : Type 0} (f : X → KernedSubtable) → ((x : X) → IsKept kern_mask (f x)) → (xs : List X) → AllByRecursion (IsKept kern_mask) (map f xs)
  all_kept f each [] = tt
  all_kept f each (x ∷ xs) = (each x, all_kept f each xs)

  module _ (requested : Bool) (direction : Direction) where
    -- the runs of those that are for the direction
    pub runs_kept : (is_attached : Bool) (ss : List KernedSubtable) → AllByRecursion (IsKept kern_mask) ss → AllByRecursion (KeepsParts kern_mask) (runs_over requested direction is_attached ss)
    runs_kept is_attached [] each = tt
    runs_kept is_attached (s ∷ ss) each =
        by_tests (is_for_direction s.kerning direction) (s.kerning.has_cross_stream && not is_attached) (s.kerning.is_pairs && not requested)
        (runs_kept (is_attached || s.kerning.has_cross_stream) ss each.1) (runs_kept is_attached ss each.1)
      where
        by_tests : (t a p : Bool) → AllByRecursion (KeepsParts kern_mask) (runs_over requested direction (is_attached || s.kerning.has_cross_stream) ss)
            → AllByRecursion (KeepsParts kern_mask) (runs_over requested direction is_attached ss)
            → AllByRecursion (KeepsParts kern_mask)
            (cond t (cond a (attaching 2 (cond (is_backward direction) (pos 1) (negsuc 0)) ∷ cond p (runs_over requested direction (is_attached || s.kerning.has_cross_stream) ss) (s.run ∷ runs_over requested direction (is_attached || s.kerning.has_cross_stream) ss))
            (cond p (runs_over requested direction (is_attached || s.kerning.has_cross_stream) ss) (s.run ∷ runs_over requested direction (is_attached || s.kerning.has_cross_stream) ss)))
            (runs_over requested direction is_attached ss))
        by_tests true true true rest skipped = (attaching_keeps_parts kern_mask 2 _, rest)
        by_tests true true false rest skipped = (attaching_keeps_parts kern_mask 2 _, (each.0.keeps, rest))
        by_tests true false true rest skipped = rest
        by_tests true false false rest skipped = (each.0.keeps, rest)
        by_tests false a p rest skipped = skipped

    -- they leave what the subtables leave
    positions_same : (ss : List KernedSubtable) → AllByRecursion (IsKept kern_mask) ss → (s : Positioned) → s.buffer.direction ≡ direction
        → (fold (λ s k. positioned requested k s) s (map (λ x. x.kerning) ss)).buffer ≡ (kerned_by_all (runs_over requested direction s.is_attached ss)).left s.buffer
    unfolding positioned
    positions_same [] each s way = refl
    positions_same (x ∷ ss) each s way =
        by_direction (is_for_direction x.kerning s.buffer.direction) (is_for_direction x.kerning direction) (ap (is_for_direction x.kerning) way)
        (x.kerning.has_cross_stream && not s.is_attached) (x.kerning.is_pairs && not requested) (λ t. positions_same ss each.1 t)
      where
        attached_is : cursively_attached s.buffer ≡ on_positions (attached_as 2 (cond (is_backward direction) (pos 1) (negsuc 0))) s.buffer
        attached_is = ap (λ (d : Direction). on_positions (attached_as 2 (cond (is_backward d) (pos 1) (negsuc 0))) s.buffer) way

        -- the rest from a buffer that is that of the runs so far
        rest_from : ((t : Positioned) → t.buffer.direction ≡ direction → (fold (λ s k. positioned requested k s) t (map (λ x. x.kerning) ss)).buffer ≡ (kerned_by_all (runs_over requested direction t.is_attached ss)).left t.buffer)
            → (b : Buffer) (n : ℕ) (u : Bool) (d : Buffer) → b ≡ d → d.direction ≡ direction
            → (fold (λ s k. positioned requested k s) (record { buffer = b; turns = n; is_attached = u }) (map (λ x. x.kerning) ss)).buffer ≡ (kerned_by_all (runs_over requested direction u ss)).left d
        rest_from more b n u d same there =
            more (record { buffer = b; turns = n; is_attached = u }) (ap (λ (y : Buffer). y.direction) same ∙ there)
            ∙ ap (kerned_by_all (runs_over requested direction u ss)).left same

        by_direction : (t r : Bool) → t ≡ r → (a p : Bool)
            → ((t : Positioned) → t.buffer.direction ≡ direction → (fold (λ s k. positioned requested k s) t (map (λ x. x.kerning) ss)).buffer ≡ (kerned_by_all (runs_over requested direction t.is_attached ss)).left t.buffer)
            → (fold (λ s k. positioned requested k s)
            (cond t (record {
              buffer = (cond p (untouched (cond a (cursively_attached s.buffer) s.buffer)) (x.kerning.run (cond a (cursively_attached s.buffer) s.buffer))).buffer;
              turns = s.turns + (cond p (untouched (cond a (cursively_attached s.buffer) s.buffer)) (x.kerning.run (cond a (cursively_attached s.buffer) s.buffer))).turns;
              is_attached = s.is_attached || x.kerning.has_cross_stream;
            }) s) (map (λ x. x.kerning) ss)).buffer
            ≡ (kerned_by_all (cond r (cond a (attaching 2 (cond (is_backward direction) (pos 1) (negsuc 0)) ∷ cond p (runs_over requested direction (s.is_attached || x.kerning.has_cross_stream) ss) (x.run ∷ runs_over requested direction (s.is_attached || x.kerning.has_cross_stream) ss))
            (cond p (runs_over requested direction (s.is_attached || x.kerning.has_cross_stream) ss) (x.run ∷ runs_over requested direction (s.is_attached || x.kerning.has_cross_stream) ss)))
            (runs_over requested direction s.is_attached ss))).left s.buffer
        by_direction true false same a p more = absurd (cc)
        by_direction false true same a p more = absurd (cc)
        by_direction false false same a p more = more s way
        by_direction true true same true true more = rest_from more (cursively_attached s.buffer) _ _ _ attached_is way
        by_direction true true same true false more =
            rest_from more (x.kerning.run (cursively_attached s.buffer)).buffer _ _ _
            (each.0.same (cursively_attached s.buffer) ∙ ap x.run.left attached_is) (each.0.keeps.direction _ ∙ way)
        by_direction true true same false true more = rest_from more s.buffer _ _ s.buffer refl way
        by_direction true true same false false more =
            rest_from more (x.kerning.run s.buffer).buffer _ _ _ (each.0.same s.buffer) (each.0.keeps.direction s.buffer ∙ way)

    pub table_kept : (ss : List KernedSubtable) → AllByRecursion (IsKept kern_mask) ss → KeepsParts kern_mask (by_subtables requested direction ss)
    table_kept ss each =
        turned_kept (is_backward direction) (kerned_by_all (runs_over requested direction false ss))
        (in_order_keeps_parts kern_mask (runs_over requested direction false ss) (runs_kept false ss each))

    table_same : (ss : List KernedSubtable) → AllByRecursion (IsKept kern_mask) ss → (b : Buffer) → b.direction ≡ direction
        → (positioning requested (map (λ x. x.kerning) ss) b).buffer ≡ (by_subtables requested direction ss).left b
    unfolding positioning
    table_same ss each b way =
        ap (λ (d : Buffer). turned_round (is_backward d.direction) d) behind
        ∙ (ap (λ (d : Direction). turned_round (is_backward d) ((kerned_by_all (runs_over requested direction false ss)).left (in_processing_order b))) ordered
        ∙ (ap (λ (d : Direction). turned_round (is_backward direction) ((kerned_by_all (runs_over requested direction false ss)).left (turned_round (is_backward d) b))) way
        ∙ by_way (is_backward direction)))
      where
        there : (t : Bool) → (turned_round t b).direction ≡ b.direction
        there true = refl
        there false = refl

        behind : (fold (λ s k. positioned requested k s) (record { buffer = in_processing_order b; turns = 0; is_attached = false }) (map (λ x. x.kerning) ss)).buffer
            ≡ (kerned_by_all (runs_over requested direction false ss)).left (in_processing_order b)
        behind = positions_same ss each (record { buffer = in_processing_order b; turns = 0; is_attached = false }) (there (is_backward b.direction) ∙ way)

        ordered : ((kerned_by_all (runs_over requested direction false ss)).left (in_processing_order b)).direction ≡ direction
        ordered =
            (in_order_keeps_parts kern_mask (runs_over requested direction false ss) (runs_kept false ss each)).direction (in_processing_order b)
            ∙ (there (is_backward b.direction) ∙ way)

        by_way : (t : Bool) → turned_round t ((kerned_by_all (runs_over requested direction false ss)).left (turned_round t b)) ≡ (turned_where t (kerned_by_all (runs_over requested direction false ss))).left b
        by_way true = refl
        by_way false = refl

-- from a run that keeps parts, and leaves what a kerning leaves
kerns_in_parts : (kern_mask : ℕ) (kerning : Buffer → Outcome) (run : Direction → KernedRun)
    → ((way : Direction) → KeepsParts kern_mask (run way)) → ((way : Direction) (b : Buffer) → b.direction ≡ way → (kerning b).buffer ≡ (run way).left b)
    → KernsInParts kerning run
kerns_in_parts kern_mask kerning run keeps same q b front_budget back_budget placed behind inside opens has enough enough_behind =
    let whole = same b.direction b refl in
    let front = same b.direction (with_max_ops (placed_front q b) front_budget) refl in
    let back = same b.direction (with_max_ops (placed_back q b) back_budget) refl in
    rw (whole, front, back)
    (keeps_those_of_line kern_mask (run b.direction) (keeps b.direction) q b front_budget back_budget placed behind inside opens (rw whole at has) (rw whole at enough) (rw whole at enough_behind))

kernings_of : {X : Type 0} (f : X → KernedSubtable) (g : X → Kerning) → ((x : X) → (f x).kerning ≡ g x) → (xs : List X) → map (λ x. x.kerning) (map f xs) ≡ map g xs
kernings_of f g same [] = refl
kernings_of f g same (x ∷ xs) = rw (same x, kernings_of f g same xs) refl

-- what kerning by a table leaves, its runs leave, and they keep parts
module _ (kern_mask : ℕ) (free : bit_and kern_mask 7 ≡ 0) (requested : Bool) where
  pub kerx_keeps : (points : Option Points) (subtables : List KerxSubtable) (way : Direction) → KeepsParts kern_mask (by_kerx requested kern_mask points subtables way)
  kerx_keeps points subtables way =
      in_order_keeps_parts kern_mask (marking true ∷ by_subtables requested way (map (of_kerx kern_mask points) subtables) ∷ []) (
        marking_keeps_parts true kern_mask free,
        (
          table_kept kern_mask free requested way (map (of_kerx kern_mask points) subtables) (all_kept kern_mask free (of_kerx kern_mask points) (kerx_kept kern_mask free points) subtables),
          tt,
        ),
      )

  pub kerx_same :
      (points : Option Points) (subtables : List KerxSubtable) (way : Direction) (b : Buffer) → b.direction ≡ way
      → (kerx_positioning requested kern_mask points subtables b).buffer ≡ (by_kerx requested kern_mask points subtables way).left b
  unfolding kerx_positioning
  kerx_same points subtables way b there =
      sym (ap (λ ks. (positioning requested ks ((marking true).left b)).buffer) (kernings_of (of_kerx kern_mask points) (kerning_of_kerx_subtable kern_mask points) (λ x. refl) subtables))
      ∙ table_same kern_mask free requested way (map (of_kerx kern_mask points) subtables) (all_kept kern_mask free (of_kerx kern_mask points) (kerx_kept kern_mask free points) subtables) ((marking true).left b) there

  pub kern_keeps : (subtables : List KernSubtable) (way : Direction) → KeepsParts kern_mask (by_kern requested kern_mask subtables way)
  kern_keeps subtables way =
      table_kept kern_mask free requested way (map (of_kern kern_mask) subtables) (all_kept kern_mask free (of_kern kern_mask) (kern_kept kern_mask free) subtables)

  pub kern_same :
      (subtables : List KernSubtable) (way : Direction) (b : Buffer) → b.direction ≡ way
      → (kern_positioning requested kern_mask subtables b).buffer ≡ (by_kern requested kern_mask subtables way).left b
  unfolding kern_positioning
  kern_same subtables way b there =
      sym (ap (λ ks. (positioning requested ks b).buffer) (kernings_of (of_kern kern_mask) (kerning_of_kern_subtable kern_mask) (λ x. refl) subtables))
      ∙ table_same kern_mask free requested way (map (of_kern kern_mask) subtables) (all_kept kern_mask free (of_kern kern_mask) (kern_kept kern_mask free) subtables) b there

pub tables_kern_in_parts : TablesKernInParts
tables_kern_in_parts = record {
  kerx = λ requested kern_mask points subtables free.
      kerns_in_parts kern_mask (kerx_positioning requested kern_mask points subtables) (by_kerx requested kern_mask points subtables)
      (kerx_keeps kern_mask free requested points subtables) (kerx_same kern_mask free requested points subtables);
  kern = λ requested kern_mask subtables free.
      kerns_in_parts kern_mask (kern_positioning requested kern_mask subtables) (by_kern requested kern_mask subtables)
      (kern_keeps kern_mask free requested subtables) (kern_same kern_mask free requested subtables);
}
