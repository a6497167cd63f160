-- Kerning of a whole line in one run: what is left of it, and which places are told to be open.
use Rattle.std.proofs.Common.{◌≡◌, ◌∙◌, sym, ap, refl, ℕ, suc, zero, ◌-◌, ◌<◌, ◌&&◌, Bool, true, false, cond, List, [], ◌∷◌, map, length, get_or, is_some, subst, arith}
use Rattle.std.specs.Prelude.{None, Option}
use Rattle.aat_buffer.specs.Buffer.{Buffer, reversed}
use Rattle.aat_buffer.specs.facts.Lines.{length_concat}
use Rattle.aat_cut_kinds.specs.KernedTables.{by_kern, by_kerx, of_kern, of_kerx, runs_over, turned_where}
use Rattle.aat_cut_kinds.specs.KerningCuts.{KernedRun, kerned_by_all}
use Rattle.aat_cut_kinds.specs.facts.KernedTables.{kern_same, kerx_same}
use Rattle.aat_font.specs.Face.{advance_of, kern_in, kerx_in, tables_of}
use Rattle.aat_font.specs.declared.face.hb_font_t.{hb_font_t}
use Rattle.aat_font.specs.declared.plan.Feature.{Feature}
use Rattle.aat_font.specs.declared.plan.hb_ot_shape_plan_t.{hb_ot_shape_plan_t}
use Rattle.aat_glyph.specs.Directions.{is_backward}
use Rattle.aat_glyph.specs.declared.glyph.Direction.{Direction}
use Rattle.aat_glyph.specs.declared.glyph.hb_glyph_info_t.{hb_glyph_info_t}
use Rattle.aat_kerning.proofs.KerningLawsHold.{kerning_changes_little}
use Rattle.aat_kerning.specs.Cut.{ordered_line}
use Rattle.aat_kerning.specs.Positioning.{in_processing_order, kern_positioning, kerx_positioning, line_marked, turned_round}
use Rattle.aat_kerning.specs.Zeroing.{zeroed}
use Rattle.aat_kerning_machines.specs.KerningLaws.{IsKernedFrom}
use Rattle.aat_kerning_tables.specs.AnchorPoints.{Points}
use Rattle.aat_kerning_tables.specs.declared.kern.KernSubtable.{KernSubtable}
use Rattle.aat_kerning_tables.specs.declared.kerx.KerxSubtable.{KerxSubtable}
use Rattle.aat_layout.specs.Shaping.{kerned_by_font, placed_by, placing, with_advances}
use Rattle.aat_shaped_text.specs.Breaks.{may_break_by}
use Rattle.aat_shaped_text.specs.KernedBreaks.{kerning_opens, read_place}
use Rattle.aat_shaped_text.specs.KernedPlaces.{TellsOpenPlaces}
use Rattle.aat_shaped_text.specs.TextFeatures.{requests_kerning}
use Rattle.aat_shaped_text.specs.declared.breaks.BreakRules.{BreakRules}
use Rattle.aat_shaped_text.specs.inside.KernedRuns.{ClosesKerned, Kerns, TellsByGlyphs, all_runs}
use Rattle.aat_shaped_text.proofs.OpenRuns.{turned_count}

way_of : (t : Bool) (b : Buffer) → (turned_round t b).direction ≡ b.direction
way_of true b = refl
way_of false b = refl

marked_way : (t : Bool) (b : Buffer) → (line_marked t b).direction ≡ b.direction
marked_way true b = refl
marked_way false b = refl

pub marked_long : (t : Bool) (b : Buffer) → length (line_marked t b).line ≡ length b.line
marked_long true b = length_concat b None None
marked_long false b = refl

-- A run over a line in processing order, which is then turned back, is one over the line turned round.
module _ (k : KernedRun) (d : Direction) (m ordered : Buffer) (way : m.direction ≡ d) (ordered_is : ordered ≡ in_processing_order m) where
  abbrev back : Bool
  back = is_backward d

  ordered_so : ordered ≡ turned_round back m
  ordered_so = ordered_is ∙ ap (λ (e : Direction). turned_round (is_backward e) m) way

  left_back : (c last : Buffer) → c ≡ k.left ordered → c.direction ≡ ordered.direction → last ≡ in_processing_order c → last ≡ (turned_where back k).left m
  left_back c last left same is =
      let there : c.direction ≡ d = same ∙ (ap (λ (b : Buffer). b.direction) ordered_so ∙ (way_of back m ∙ way)) in
      is
      ∙ (ap (λ (e : Direction). turned_round (is_backward e) c) there
      ∙ (ap (turned_round back) (left ∙ ap k.left ordered_so) ∙ by back))
    where
      by : (t : Bool) → turned_round t (k.left (turned_round t m)) ≡ (turned_where t k).left m
      by true = refl
      by false = refl

  opens_back : (n i : ℕ) → length m.line ≡ n → i < n → k.opens i ordered ≡ (turned_where back k).opens (cond back (n - i) i) m
  opens_back n i long inside = ap (λ (b : Buffer). k.opens i b) ordered_so ∙ by back
    where
      by : (t : Bool) → k.opens i (turned_round t m) ≡ (turned_where t k).opens (cond t (n - i) i) m
      by false = refl
      by true =
          let there : i ≡ length m.line - (n - i) = omega (arith, long, inside) in
          ap (λ (j : ℕ). k.opens j (reversed m)) there

and_all : (a : Bool) → a ≡ (true && (a && true))
and_all true = refl
and_all false = refl

-- The kerning table in use.
module _ (plan : hb_ot_shape_plan_t) (face : hb_font_t) (b marked ordered c last : Buffer) (old new : List Bool) (mask : plan.kern_mask ≡ 8)
    (marked_is : marked ≡ line_marked (is_some (tables_of face).kerx) b) (ordered_is : ordered ≡ in_processing_order marked)
    (kerns : Kerns (all_runs plan.requested_kerning ordered.direction face) ordered old c new) (last_is : last ≡ in_processing_order c) where
  abbrev kerxs : List KerxSubtable
  kerxs = kerx_in (tables_of face).kerx

  abbrev kern_tables : List KernSubtable
  kern_tables = kern_in (tables_of face).kern

  abbrev points : Option Points
  points = (tables_of face).ankr

  abbrev by_kerxs : Bool → KernedRun
  by_kerxs requested = kerned_by_all (runs_over requested b.direction false (map (of_kerx 8 points) kerxs))

  abbrev by_kerns : Bool → KernedRun
  by_kerns requested = kerned_by_all (runs_over requested b.direction false (map (of_kern 8) kern_tables))

  count : length marked.line ≡ length b.line
  count = ap (λ (x : Buffer). length x.line) marked_is ∙ marked_long (is_some (tables_of face).kerx) b

  marked_there : marked.direction ≡ b.direction
  marked_there = ap (λ (x : Buffer). x.direction) marked_is ∙ marked_way (is_some (tables_of face).kerx) b

  there : ordered.direction ≡ b.direction
  there = ap (λ (x : Buffer). x.direction) ordered_is ∙ (way_of (is_backward marked.direction) marked ∙ marked_there)

  kerns_there : Kerns (cond (is_some (tables_of face).kerx) (by_kerxs plan.requested_kerning) (by_kerns plan.requested_kerning)) ordered old c new
  kerns_there = subst (λ (d : Direction). Kerns (all_runs plan.requested_kerning d face) ordered old c new) there kerns

  pub kerned_so : last ≡ (kerned_by_font plan face b).buffer
  kerned_so =
      subst
      (λ (k : ℕ). last
      ≡ (cond (is_some (tables_of face).kerx) (kerx_positioning plan.requested_kerning k points kerxs b) (kern_positioning plan.requested_kerning k kern_tables b)).buffer)
      (sym mask) (by (is_some (tables_of face).kerx) marked_is kerns_there)
    where
      by :
          (t : Bool) → marked ≡ line_marked t b → Kerns (cond t (by_kerxs plan.requested_kerning) (by_kerns plan.requested_kerning)) ordered old c new
          → last ≡ (cond t (kerx_positioning plan.requested_kerning 8 points kerxs b) (kern_positioning plan.requested_kerning 8 kern_tables b)).buffer
      by true is known =
          let k = by_kerxs plan.requested_kerning in
          left_back k b.direction marked ordered marked_there ordered_is c last known.left known.direction last_is
          ∙ (ap (λ (x : Buffer). (turned_where (is_backward b.direction) k).left x) is
          ∙ sym (kerx_same 8 refl plan.requested_kerning points kerxs b.direction b refl))
      by false is known =
          let k = by_kerns plan.requested_kerning in
          left_back k b.direction marked ordered marked_there ordered_is c last known.left known.direction last_is
          ∙ (ap (λ (x : Buffer). (turned_where (is_backward b.direction) k).left x) is
          ∙ sym (kern_same 8 refl plan.requested_kerning kern_tables b.direction b refl))

  pub closed_so : (features : List Feature) → requests_kerning features ≡ plan.requested_kerning → ClosesKerned face features b old new
  closed_so features asks = record {
    long = kerns.long;
    first = kerns.first;
    opens = λ i more inside.
        kerns_there.opens i more (omega (arith, inside, as_long))
        ∙ ap (λ (t : Bool). get_or old i false && t)
        (subst
        (λ (q : Bool). (cond (is_some (tables_of face).kerx) (by_kerxs q) (by_kerns q)).opens i ordered ≡ kerning_opens face b.direction features b i)
        asks (by i inside (is_some (tables_of face).kerx) marked_is));
  }
    where
      as_long : length ordered.line ≡ length b.line
      as_long = ap (λ (x : Buffer). length x.line) ordered_is ∙ (turned_count (is_backward marked.direction) marked ∙ count)

      by :
          (i : ℕ) → i < length b.line → (t : Bool) → marked ≡ line_marked t b
          → (cond t (by_kerxs (requests_kerning features)) (by_kerns (requests_kerning features))).opens i ordered
          ≡ (cond t (by_kerx (requests_kerning features) 8 points kerxs b.direction) (by_kern (requests_kerning features) 8 kern_tables b.direction)).opens (read_place b.direction (length b.line) i) b
      by i inside true is =
          let k = by_kerxs (requests_kerning features) in
          opens_back k b.direction marked ordered marked_there ordered_is (length b.line) i count inside
          ∙ (ap (λ (x : Buffer). (turned_where (is_backward b.direction) k).opens (read_place b.direction (length b.line) i) x) is
          ∙ and_all ((turned_where (is_backward b.direction) k).opens (read_place b.direction (length b.line) i) (line_marked true b)))
      by i inside false is =
          let k = by_kerns (requests_kerning features) in
          opens_back k b.direction marked ordered marked_there ordered_is (length b.line) i count inside
          ∙ ap (λ (x : Buffer). (turned_where (is_backward b.direction) k).opens (read_place b.direction (length b.line) i) x) is

-- kerning by a font changes little
pub font_changes_little : (plan : hb_ot_shape_plan_t) (face : hb_font_t) (b c : Buffer) → c ≡ (kerned_by_font plan face b).buffer → IsKernedFrom b c
font_changes_little plan face b c is = subst (λ (x : Buffer). IsKernedFrom b x) (sym is) (by (is_some (tables_of face).kerx))
  where
    by :
        (t : Bool)
        → IsKernedFrom b (cond t (kerx_positioning plan.requested_kerning plan.kern_mask (tables_of face).ankr (kerx_in (tables_of face).kerx) b) (kern_positioning plan.requested_kerning plan.kern_mask (kern_in (tables_of face).kern) b)).buffer
    by true = kerning_changes_little.kerx plan.requested_kerning plan.kern_mask (tables_of face).ankr (kerx_in (tables_of face).kerx) b
    by false = kerning_changes_little.kern plan.requested_kerning plan.kern_mask (kern_in (tables_of face).kern) b

-- advances, kerning and zeroing, one behind the other
pub placing_so : (plan : hb_ot_shape_plan_t) (face : hb_font_t) (b d e f : Buffer) → d ≡ with_advances (advance_of face) b → e ≡ (kerned_by_font plan face d).buffer → f ≡ zeroed e
    → f ≡ (placing plan face b).buffer
unfolding placed_by
placing_so plan face b d e f advanced kerned took =
    took ∙ ap zeroed (kerned ∙ ap (λ (x : Buffer). (kerned_by_font plan face x).buffer) advanced)

-- no line may be broken before its first glyph
never_first : (rules : BreakRules) (line : List hb_glyph_info_t) → may_break_by rules line 0 ≡ false
never_first rules [] = refl
never_first rules (g ∷ line) = refl

-- what is told by glyphs, and is left by kerning
pub told_so :
    (face : hb_font_t) (rules : BreakRules) (b advanced : Buffer) (before told : List Bool) → advanced ≡ with_advances (advance_of face) b
    → TellsByGlyphs rules advanced before → ClosesKerned face rules.features.now advanced before told
    → TellsOpenPlaces face rules (with_advances (advance_of face) b) told
told_so face rules b advanced before told is glyphs closed =
    subst (λ (x : Buffer). TellsOpenPlaces face rules x told) is
    (record { long = closed.long ∙ glyphs.long; opens = by })
  where
    by :
        (i : ℕ) → i < length advanced.line
        → get_or told i false ≡ (may_break_by rules (ordered_line advanced) i && kerning_opens face advanced.direction rules.features.now advanced i)
    by zero low =
        let never = never_first rules (ordered_line advanced) in
        closed.first ∙ (glyphs.opens 0 low ∙ (never ∙ sym (ap (λ (t : Bool). t && kerning_opens face advanced.direction rules.features.now advanced 0) never)))
    by (suc i) low =
        closed.opens (suc i) (omega arith) low
        ∙ ap (λ (t : Bool). t && kerning_opens face advanced.direction rules.features.now advanced (suc i)) (glyphs.opens (suc i) low)
