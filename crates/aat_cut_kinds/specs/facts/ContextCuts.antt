-- The cut of a run of a context over a state table.
use Rattle.std.proofs.Common.{◌≡◌, ◌∙◌, ℕ, ◌<◌, ◌≤◌, Bool, true, false, List, length, take, drop, refl, subst, arith}
use Rattle.std.proofs.lemmas.Bool.Decides.{nat_tests}
use Rattle.aat_buffer.specs.Buffer.{Buffer, with_cursor, without_positions}
use Rattle.aat_buffer.specs.Marks.{cluster_at}
use Rattle.aat_machine_tables.specs.Table.{TableValue}
use Rattle.aat_machine_tables.specs.declared.state_table.GenericStateEntry.{GenericStateEntry}
use Rattle.aat_glyph.specs.declared.glyph.hb_glyph_info_t.{hb_glyph_info_t}
use Rattle.aat_run.specs.Budget.{operations_left}
use Rattle.aat_run.specs.Context.{Config, Context, Machine, machine_of, start}
use Rattle.aat_run.specs.Driven.{comes_to_end, machine_run}
use Rattle.aat_run.specs.Laws.{FitsFresh, KeepsFit, KeepsPlaceWhere, KeepsSettings, Lengthens, MakesNoPositions, PassesFit, Pays}
use Rattle.aat_run.specs.Machine.{run_to_end}
use Rattle.aat_cut_kinds.specs.Cut.{IsCutPlace, LeavesItsParts, line_left}
use Rattle.aat_cut_kinds.specs.CutLaws.{IsCutLawful}
use Rattle.aat_cut_kinds.specs.Parts.{LeftInParts, back_part, front_part}
use Rattle.aat_cut_kinds.specs.facts.CutRuns.{parted, passed_over}
use Rattle.aat_cut_kinds.specs.facts.OffSides.{AreOffSides, ComesOff, Each, KeepsSides, begins_off, comes_off, ends_off}

module _ {T R : Type 0} (on : ℕ → Bool) (table : TableValue (GenericStateEntry T)) (x : Context R (GenericStateEntry T)) (fits : R → ℕ → ℕ → Type 0)
    (keeps : KeepsFit x.act fits) (passes : PassesFit fits) (pays : Pays x.act fits) (settings : KeepsSettings x.act fits) (lengthens : Lengthens x.act fits)
    (makes_no_positions : MakesNoPositions x.act fits) (fits_fresh : FitsFresh fits x.fresh)
    (reached : ℕ → Type 0) (Alike : List hb_glyph_info_t → ℕ → R → R → Type 0) (Marked Left Right : List hb_glyph_info_t → Type 0) (Sound : ℕ → List hb_glyph_info_t → Type 0)
    (lawful : IsCutLawful (machine_of on table x) fits reached x.fresh Alike Marked Left Right Sound) (q : ℕ) (b : Buffer) (begun : Left (take q b.line)) (right : Right (drop q b.line)) (sound : Sound b.cluster_level b.line) (behind_first : 0 < q) (before_end : q < length b.line)
  where
    m : Machine R (GenericStateEntry T)
    m = machine_of on table x

    ends_with : Bool → Buffer → Buffer
    ends_with in_place d = (run_to_end m (start in_place d x.fresh)).buffer

    -- what the runs leave, and where those over the parts come
    record PartedWhere (p : Bool) : Type 0 where
      parts : LeftInParts (ends_with p b) (ends_with p (front_part q b)) (ends_with p (back_part q b))
      front_through : length (ends_with p (front_part q b)).line ≤ (ends_with p (front_part q b)).cursor
      back_through : length (ends_with p (back_part q b)).line ≤ (ends_with p (back_part q b)).cursor

    -- where the machine is off on both sides
    module _ (Order : ℕ → ℕ → Type 0) (Front Away : ℕ → Type 0) (law : KeepsSides x.act fits Order) (sides : AreOffSides on Order Front Away q b.cluster_level b.line) (is_off : on (cluster_at b.line q) ≡ false) where
      off_by_place : (p : Bool) → KeepsPlaceWhere x.act fits p → length (ends_with p b).line ≤ (ends_with p b).cursor → (Marked (ends_with p b).line → ⊥) → 0 < operations_left (ends_with p b).max_ops
          → (Each Away (ends_with p b).line → ⊥) → PartedWhere p
      unfolding ends_with m
      off_by_place true place through unmarked enough present =
          let it = passed_over m fits keeps passes pays settings lengthens reached x.fresh Alike Marked Left Right Sound lawful fits_fresh (with_cursor b 0) q refl behind_first before_end
          (λ e r d fit same. (place refl).positions e r d fit ∙ same)
          (ComesOff m fits keeps passes pays settings Order Front Away law q b.cluster_level b.line sides)
          (λ c stands below h k. comes_off m fits keeps passes pays settings Order Front Away law q b.cluster_level b.line sides c stands below k) begun right sound
          (begins_off m fits keeps passes pays settings Order Front Away law q b.cluster_level b.line sides (front_part q (with_cursor b 0)) x.fresh refl refl refl behind_first (omega (arith, before_end)) 0 0) through is_off
          (λ c h k end w is stands same. ends_off m fits keeps passes pays settings Order Front Away law q b.cluster_level b.line sides c w k end is stands (λ all. present (subst (λ (d : Config R). Each Away d.buffer.line) same all)))
          unmarked enough in
          record { parts = it.parts; front_through = it.front_through; back_through = it.back_through }
      off_by_place false place through unmarked enough present =
          let it = passed_over m fits keeps passes pays settings lengthens reached x.fresh Alike Marked Left Right Sound lawful fits_fresh (with_cursor (without_positions b) 0) q refl behind_first before_end
          (λ e r d fit none. makes_no_positions e r d fit none)
          (ComesOff m fits keeps passes pays settings Order Front Away law q b.cluster_level b.line sides)
          (λ c stands below h k. comes_off m fits keeps passes pays settings Order Front Away law q b.cluster_level b.line sides c stands below k) begun right sound
          (begins_off m fits keeps passes pays settings Order Front Away law q b.cluster_level b.line sides (front_part q (with_cursor (without_positions b) 0)) x.fresh refl refl refl behind_first (omega (arith, before_end)) 0 0) through is_off
          (λ c h k end w is stands same. ends_off m fits keeps passes pays settings Order Front Away law q b.cluster_level b.line sides c w k end is stands (λ all. present (subst (λ (d : Config R). Each Away d.buffer.line) same all)))
          unmarked enough in
          record { parts = it.parts; front_through = it.front_through; back_through = it.back_through }

    by_place : (p : Bool) → KeepsPlaceWhere x.act fits p → on (cluster_at b.line q) ≡ true → length (ends_with p b).line ≤ (ends_with p b).cursor → (Marked (ends_with p b).line → ⊥) → 0 < operations_left (ends_with p b).max_ops
        → PartedWhere p
    unfolding ends_with m
    by_place true place is_on through unmarked enough =
        let it = parted m fits keeps passes pays settings lengthens reached x.fresh Alike Marked Left Right Sound lawful fits_fresh (with_cursor b 0) q refl behind_first before_end
        (λ e r d fit same. (place refl).positions e r d fit ∙ same) (λ c. Unit {0}) (λ c stands below h k. tt) begun right sound tt through is_on unmarked enough in
        record { parts = it.parts; front_through = it.front_through; back_through = it.back_through }
    by_place false place is_on through unmarked enough =
        let it = parted m fits keeps passes pays settings lengthens reached x.fresh Alike Marked Left Right Sound lawful fits_fresh (with_cursor (without_positions b) 0) q refl behind_first before_end
        (λ e r d fit none. makes_no_positions e r d fit none) (λ c. Unit {0}) (λ c stands below h k. tt) begun right sound tt through is_on unmarked enough in
        record { parts = it.parts; front_through = it.front_through; back_through = it.back_through }

-- the whole run leaves its parts, and the runs over these come to their ends
pub record RunsParted {T R : Type 0} (on : ℕ → Bool) (table : TableValue (GenericStateEntry T)) (x : Context R (GenericStateEntry T)) (q : ℕ) (b : Buffer) : Type 0 where
  pub parts : LeavesItsParts on table x q b
  pub front_through : comes_to_end on table x (front_part q b) ≡ true
  pub back_through : comes_to_end on table x (back_part q b) ≡ true

-- A place q inside the line of b where the machine is off. The run over b comes to the end of the line, leaves the cut
-- without a mark, some of the budget, and a cluster that is not away from the front's end.
pub record IsOffPlace {T R : Type 0} (on : ℕ → Bool) (table : TableValue (GenericStateEntry T)) (x : Context R (GenericStateEntry T)) (Marked : List hb_glyph_info_t → Type 0) (Away : ℕ → Type 0) (q : ℕ) (b : Buffer) : Type 0 where
  pub behind_first : 0 < q
  pub before_end : q < length b.line
  pub is_off : on (cluster_at b.line q) ≡ false
  pub through : comes_to_end on table x b ≡ true
  pub unmarked : Marked (line_left on table x b) → ⊥
  pub budget : 0 < operations_left (machine_run on table x b).buffer.max_ops
  pub present : Each Away (line_left on table x b) → ⊥

-- a cut place at which the machine is on, or on whose both sides it is off
pub data CutOf {T R : Type 0} (on : ℕ → Bool) (table : TableValue (GenericStateEntry T)) (x : Context R (GenericStateEntry T)) (fits : R → ℕ → ℕ → Type 0) (Marked : List hb_glyph_info_t → Type 0) (q : ℕ) (b : Buffer) : Type 1 where
  AtOn : IsCutPlace on table x Marked q b → CutOf on table x fits Marked q b
  AtOff : (Order : ℕ → ℕ → Type 0) (Front Away : ℕ → Type 0) → KeepsSides x.act fits Order → AreOffSides on Order Front Away q b.cluster_level b.line
      → IsOffPlace on table x Marked Away q b → CutOf on table x fits Marked q b

-- it is inside the line
pub inside_of : {T R : Type 0} (on : ℕ → Bool) (table : TableValue (GenericStateEntry T)) (x : Context R (GenericStateEntry T)) (fits : R → ℕ → ℕ → Type 0) (Marked : List hb_glyph_info_t → Type 0) (q : ℕ) (b : Buffer)
    → CutOf on table x fits Marked q b → (0 < q) × (q < length b.line)
inside_of on table x fits Marked q b (AtOn cut) = (cut.behind_first, cut.before_end)
inside_of on table x fits Marked q b (AtOff Order Front Away law sides cut) = (cut.behind_first, cut.before_end)

-- at a cut place, under the laws of a cut
pub runs_parted : {T R : Type 0} (on : ℕ → Bool) (table : TableValue (GenericStateEntry T)) (x : Context R (GenericStateEntry T)) (fits : R → ℕ → ℕ → Type 0)
    (keeps : KeepsFit x.act fits) (passes : PassesFit fits) (pays : Pays x.act fits) (settings : KeepsSettings x.act fits) (lengthens : Lengthens x.act fits)
    (makes_no_positions : MakesNoPositions x.act fits) (fits_fresh : FitsFresh fits x.fresh) (place : KeepsPlaceWhere x.act fits x.in_place)
    (reached : ℕ → Type 0) (Alike : List hb_glyph_info_t → ℕ → R → R → Type 0) (Marked Left Right : List hb_glyph_info_t → Type 0) (Sound : ℕ → List hb_glyph_info_t → Type 0)
    (lawful : IsCutLawful (machine_of on table x) fits reached x.fresh Alike Marked Left Right Sound) (q : ℕ) (b : Buffer) → Left (take q b.line) → Right (drop q b.line) → Sound b.cluster_level b.line → CutOf on table x fits Marked q b → RunsParted on table x q b
unfolding machine_run comes_to_end ends_with m
runs_parted on table x fits keeps passes pays settings lengthens makes_no_positions fits_fresh place reached Alike Marked Left Right Sound lawful q b begun right sound (AtOn cut) =
    let at_end = cut.through in
    let through : length (ends_with on table x fits keeps passes pays settings lengthens makes_no_positions fits_fresh reached Alike Marked Left Right Sound lawful q b begun right sound cut.behind_first cut.before_end x.in_place b).line
    ≤ (ends_with on table x fits keeps passes pays settings lengthens makes_no_positions fits_fresh reached Alike Marked Left Right Sound lawful q b begun right sound cut.behind_first cut.before_end x.in_place b).cursor = grind (arith, nat_tests, at_end) in
    let it =
    by_place on table x fits keeps passes pays settings lengthens makes_no_positions fits_fresh reached Alike Marked Left Right Sound lawful q b begun right sound cut.behind_first cut.before_end x.in_place place cut.is_on through cut.unmarked cut.budget in
    let front_through = it.front_through in
    let back_through = it.back_through in
    record {
      parts = record { line = it.parts.line; front_budget = it.parts.front_budget; back_budget = it.parts.back_budget };
      front_through = grind (arith, nat_tests, front_through);
      back_through = grind (arith, nat_tests, back_through);
    }
runs_parted on table x fits keeps passes pays settings lengthens makes_no_positions fits_fresh place reached Alike Marked Left Right Sound lawful q b begun right sound (AtOff Order Front Away law sides cut) =
    let at_end = cut.through in
    let through : length (ends_with on table x fits keeps passes pays settings lengthens makes_no_positions fits_fresh reached Alike Marked Left Right Sound lawful q b begun right sound cut.behind_first cut.before_end x.in_place b).line
    ≤ (ends_with on table x fits keeps passes pays settings lengthens makes_no_positions fits_fresh reached Alike Marked Left Right Sound lawful q b begun right sound cut.behind_first cut.before_end x.in_place b).cursor = grind (arith, nat_tests, at_end) in
    let it =
    off_by_place on table x fits keeps passes pays settings lengthens makes_no_positions fits_fresh reached Alike Marked Left Right Sound lawful q b begun right sound cut.behind_first cut.before_end Order Front Away law sides cut.is_off x.in_place place through cut.unmarked cut.budget cut.present in
    let front_through = it.front_through in
    let back_through = it.back_through in
    record {
      parts = record { line = it.parts.line; front_budget = it.parts.front_budget; back_budget = it.parts.back_budget };
      front_through = grind (arith, nat_tests, front_through);
      back_through = grind (arith, nat_tests, back_through);
    }

pub leaves_its_parts : {T R : Type 0} (on : ℕ → Bool) (table : TableValue (GenericStateEntry T)) (x : Context R (GenericStateEntry T)) (fits : R → ℕ → ℕ → Type 0)
    (keeps : KeepsFit x.act fits) (passes : PassesFit fits) (pays : Pays x.act fits) (settings : KeepsSettings x.act fits) (lengthens : Lengthens x.act fits)
    (makes_no_positions : MakesNoPositions x.act fits) (fits_fresh : FitsFresh fits x.fresh) (place : KeepsPlaceWhere x.act fits x.in_place)
    (reached : ℕ → Type 0) (Alike : List hb_glyph_info_t → ℕ → R → R → Type 0) (Marked Left Right : List hb_glyph_info_t → Type 0) (Sound : ℕ → List hb_glyph_info_t → Type 0)
    (lawful : IsCutLawful (machine_of on table x) fits reached x.fresh Alike Marked Left Right Sound) (q : ℕ) (b : Buffer) → Left (take q b.line) → Right (drop q b.line) → Sound b.cluster_level b.line → IsCutPlace on table x Marked q b → LeavesItsParts on table x q b
leaves_its_parts on table x fits keeps passes pays settings lengthens makes_no_positions fits_fresh place reached Alike Marked Left Right Sound lawful q b begun right sound cut =
    (runs_parted on table x fits keeps passes pays settings lengthens makes_no_positions fits_fresh place reached Alike Marked Left Right Sound lawful q b begun right sound (AtOn cut)).parts
