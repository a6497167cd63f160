-- All subtables of either table, over a line and over its two parts.
use Rattle.std.proofs.Common.{◌≡◌, ℕ, ◌-◌, ◌<◌, Bool, true, false, cond, List, length, map, Option, None, refl, sym, ap, ◌∙◌, arith, subst, true≢false}
use Rattle.std.proofs.lemmas.Slice.Zip.{AllZip-long}
use Rattle.aat_buffer.specs.Buffer.{Buffer, glyph_at, reversed}
use Rattle.aat_buffer.specs.Marks.{unsafe_to_concat}
use Rattle.aat_kerning_tables.specs.AnchorPoints.{Points}
use Rattle.aat_kerning_tables.specs.declared.kern.KernKind.{KernKind}
use Rattle.aat_kerning_tables.specs.declared.kern.KernKind.TheVariants as kind
use Rattle.aat_kerning_tables.specs.declared.kern.KernSubtable.{KernSubtable}
use Rattle.aat_kerning_tables.specs.declared.kerx.KerxFormat.{KerxFormat}
use Rattle.aat_kerning_tables.specs.declared.kerx.KerxFormat.TheVariants.{Format0, Format1, Format2, Format2Classes, Format4, Format6, Format6Classes}
use Rattle.aat_kerning_tables.specs.declared.kerx.KerxSubtable.{KerxSubtable}
use Rattle.aat_glyph.specs.Directions.{is_backward}
use Rattle.aat_glyph.specs.declared.glyph.Direction.{Direction}
use Rattle.aat_glyph.specs.declared.glyph.hb_glyph_info_t.{hb_glyph_info_t}
use Rattle.aat_kerning_machines.specs.KerningLaws.{IsKernedFrom, IsMarkedFrom}
use Rattle.aat_kerning.specs.Cut.{ordered_line, greater_at, IsCutPlace, IsKernedInParts, PairsAlone}
use Rattle.aat_kerning.specs.PairKerning.{pair_kerning, PairValues, value_of}
use Rattle.aat_kerning.specs.Pairs.{kerx_skips, kern_skips, is_solid}
use Rattle.aat_kerning.specs.Positioning.{cursively_attached, in_processing_order, line_marked, is_kerx_pairs, is_kern_pairs, is_turned_round, run_turned_round, run_of_kerx_subtable, run_of_kern_subtable, kerning_of_kerx_subtable, kerning_of_kern_subtable, kerx_positioning, kern_positioning}
use Rattle.aat_kerning.proofs.Changes.{of_concat}
use Rattle.aat_kerning.proofs.CutMarks.{IsUnflagged}
use Rattle.aat_kerning.proofs.CutRuns.{greater_of, positioned_apart}
use Rattle.aat_kerning.proofs.CutStep.{IsGreater, IsMovedApart, clusters_kept}
use Rattle.aat_kerning.proofs.KerningLawsHold.{kerx_each_paid, kern_each_paid, kerning_changes_little}
use Rattle.aat_kerning.proofs.Marked.{IsMarkedLine, line_same, line_reversed, marked_at}
use Rattle.aat_kerning_tables.specs.Classes.{kerning_by_classes}

-- what is kerned of a line, in processing order, is marked from it
pub ordered_kept : (old left : Buffer) → IsKernedFrom old left → IsMarkedLine (ordered_line old) (ordered_line left)
ordered_kept old left kerned =
    subst (λ (d : Direction). IsMarkedLine (ordered_line old) (cond (is_backward d) (reversed left) left).line)
    (sym kerned.text.settings.direction) (by_way (is_backward old.direction))
  where
    by_way : (t : Bool) → IsMarkedLine (cond t (reversed old) old).line (cond t (reversed left) left).line
    by_way true = line_reversed old.line left.line kerned.line
    by_way false = kerned.line

-- a line, cut inside it before a solid glyph, where the two glyphs at the cut are of different clusters
pub record IsCutLine (skips q : ℕ) (line : List hb_glyph_info_t) : Type 0 where
  pub some : 0 < q
  pub inside : q < length line
  pub solid : is_solid skips (glyph_at line q) ≡ true
  pub less : ℕ
  pub greater : IsGreater q (greater_at q line) less line

-- a place at which what was left can be cut is one of the line from before
line_before :
    (skips q : ℕ) (old left : Buffer) → IsKernedFrom old left → IsCutPlace skips q left
    → IsCutLine skips q (ordered_line old)
line_before skips q old left kerned place =
    let gs = ordered_line old in
    let hs = ordered_line left in
    let marked = ordered_kept old left kerned in
    let clusters = clusters_kept gs hs marked in
    let two = greater_of q gs (λ same. place.starts (clusters q ∙ (same ∙ sym (clusters (q - 1))))) in
    record {
      some = place.behind_first;
      inside = omega (arith, place.before_end, AllZip-long IsMarkedFrom gs hs marked);
      solid = sym (ap (is_solid skips) (marked_at gs hs marked q).2) ∙ place.solid;
      less = two.0;
      greater = two.1;
    }

-- kerning by the pairs of a subtable keeps what holds of a line and its parts, where it leaves a glyph unflagged
abbrev pub PairsKeep : ℕ → ℕ → ℕ → (Buffer → Buffer → Buffer → Type 0) → Type 0
PairsKeep skips kern_mask great Now =
    (is_cross : Bool) (values : PairValues) (asked : Bool) (b first second : Buffer) → Now b first second
    → IsUnflagged (glyph_at (pair_kerning skips kern_mask is_cross values (line_marked asked b)).line great)
    → Now (pair_kerning skips kern_mask is_cross values (line_marked asked b))
    (pair_kerning skips kern_mask is_cross values (line_marked asked first))
    (pair_kerning skips kern_mask is_cross values (line_marked asked second))

-- what holds of a line and its parts, whose positions are then apart, and what each step of a kerning keeps
pub record IsKeptApart (skips kern_mask q great : ℕ) (way : Direction) (Now : Buffer → Buffer → Buffer → Type 0) : Type 0 where
  pub ways :
      (b first second : Buffer) → Now b first second
      → (b.direction ≡ way) × (first.direction ≡ way) × (second.direction ≡ way)
  pub apart : (b first second : Buffer) → Now b first second → IsMovedApart q b first second
  pub attaches :
      (b first second : Buffer) → Now b first second
      → Now (cursively_attached b) (cursively_attached first) (cursively_attached second)
  pub pairs : PairsKeep skips kern_mask great Now

-- a subtable of pairs of either table
module _ (kern_mask great : ℕ) (Now : Buffer → Buffer → Buffer → Type 0) where
  abbrev kerx_left : Option Points → Bool → Bool → ℕ → KerxFormat → Buffer → Buffer
  kerx_left points is_cross is_last tuple_count k b =
      (run_turned_round (is_turned_round is_last k) (run_of_kerx_subtable kern_mask points is_cross tuple_count k) b).buffer

  kerx_now :
      PairsKeep kerx_skips kern_mask great Now
      → (points : Option Points) (is_cross is_last : Bool) (tuple_count : ℕ) (k : KerxFormat) (b first second : Buffer)
      → is_kerx_pairs k ≡ true → Now b first second
      → IsUnflagged (glyph_at (kerx_left points is_cross is_last tuple_count k b).line great)
      → Now (kerx_left points is_cross is_last tuple_count k b) (kerx_left points is_cross is_last tuple_count k first)
      (kerx_left points is_cross is_last tuple_count k second)
  kerx_now keep points is_cross is_last tuple_count (Format0 listed) b first second pairs = keep is_cross (value_of listed) false b first second
  kerx_now keep points is_cross is_last tuple_count (Format1 s) b first second pairs = absurd (true≢false (sym pairs))
  kerx_now keep points is_cross is_last tuple_count (Format2 listed) b first second pairs = keep is_cross (value_of listed) true b first second
  kerx_now keep points is_cross is_last tuple_count (Format2Classes classes) b first second pairs = keep is_cross (kerning_by_classes classes) true b first second
  kerx_now keep points is_cross is_last tuple_count (Format4 s) b first second pairs = absurd (true≢false (sym pairs))
  kerx_now keep points is_cross is_last tuple_count (Format6 listed) b first second pairs = keep is_cross (value_of listed) false b first second
  kerx_now keep points is_cross is_last tuple_count (Format6Classes classes) b first second pairs = keep is_cross (kerning_by_classes classes) false b first second

  kern_now :
      PairsKeep kern_skips kern_mask great Now → (is_cross : Bool) (k : KernKind) (b first second : Buffer)
      → is_kern_pairs k ≡ true → Now b first second
      → IsUnflagged (glyph_at (run_of_kern_subtable kern_mask is_cross k b).buffer.line great)
      → Now (run_of_kern_subtable kern_mask is_cross k b).buffer
      (run_of_kern_subtable kern_mask is_cross k first).buffer (run_of_kern_subtable kern_mask is_cross k second).buffer
  kern_now keep is_cross (kind.Pairs listed) b first second pairs = keep is_cross (value_of listed) true b first second
  kern_now keep is_cross (kind.Classes classes) b first second pairs = keep is_cross (kerning_by_classes classes) true b first second
  kern_now keep is_cross (kind.Machine s) b first second pairs = absurd (true≢false (sym pairs))

-- a table
module _ (requested : Bool) (kern_mask q : ℕ) (b first second : Buffer) (Now : Buffer → Buffer → Buffer → Type 0) where
  abbrev Keeps : ℕ → Type 0
  Keeps skips =
      IsCutLine skips q (ordered_line b)
      → IsKeptApart skips kern_mask q (greater_at q (ordered_line b)) b.direction Now

  pub kerx_parted :
      (points : Option Points) (subtables : List KerxSubtable)
      → PairsAlone (map (kerning_of_kerx_subtable kern_mask points) subtables) b
      → IsCutPlace kerx_skips q (kerx_positioning requested kern_mask points subtables b).buffer → Keeps kerx_skips
      → Now (in_processing_order (unsafe_to_concat b None None))
      (in_processing_order (unsafe_to_concat first None None)) (in_processing_order (unsafe_to_concat second None None))
      → IsKernedInParts (kerx_positioning requested kern_mask points subtables)
      (kerx_positioning requested kern_mask points subtables b).buffer first second
  unfolding kerx_positioning
  kerx_parted points subtables alone place keeps now =
      let line = ordered_line b in
      let kept =
      keeps (line_before kerx_skips q b (kerx_positioning requested kern_mask points subtables b).buffer
      (kerning_changes_little.kerx requested kern_mask points subtables b) place)
      in
      positioned_apart (kerning_of_kerx_subtable kern_mask points) requested (greater_at q line) b.direction Now kept.ways kept.attaches
      (λ x. kerx_now kern_mask (greater_at q line) Now kept.pairs points x.has_cross_stream x.is_last_to_first x.tuple_count x.format)
      (kerx_each_paid kern_mask points)
      q line subtables b (unsafe_to_concat b None None) (unsafe_to_concat first None None) (unsafe_to_concat second None None)
      refl alone refl kept.apart now (ordered_kept b (unsafe_to_concat b None None) (of_concat b None None)) place.unflagged

  pub kern_parted :
      (subtables : List KernSubtable) → PairsAlone (map (kerning_of_kern_subtable kern_mask) subtables) b
      → IsCutPlace kern_skips q (kern_positioning requested kern_mask subtables b).buffer → Keeps kern_skips
      → Now (in_processing_order b) (in_processing_order first) (in_processing_order second)
      → IsKernedInParts (kern_positioning requested kern_mask subtables)
      (kern_positioning requested kern_mask subtables b).buffer first second
  unfolding kern_positioning
  kern_parted subtables alone place keeps now =
      let line = ordered_line b in
      let kept =
      keeps (line_before kern_skips q b (kern_positioning requested kern_mask subtables b).buffer
      (kerning_changes_little.kern requested kern_mask subtables b) place)
      in
      positioned_apart (kerning_of_kern_subtable kern_mask) requested (greater_at q line) b.direction Now kept.ways kept.attaches
      (λ x. kern_now kern_mask (greater_at q line) Now kept.pairs x.has_cross_stream x.kind)
      (kern_each_paid kern_mask)
      q line subtables b b first second refl alone refl kept.apart now (line_same line) place.unflagged
