-- A settled contextual subtable meets the laws of a cut, and so leaves the parts of a line at an unmarked cut.
use Rattle.std.proofs.Common.{◌≡◌, ◌≢◌, ◌∙◌, ◌⊎◌, inl, inr, ℕ, ℤ, ◌+◌, ◌-◌, ◌<◌, ◌≤◌, ◌&&◌, ◌||◌, Bool, true, false, cond, List, ◌++◌, length, nat_lt, Option, Some, refl, ap, subst, sym, arith, length-append, length-take}
use Rattle.std.proofs.Math.Seq.{map-set_same}
use Rattle.std.proofs.lemmas.Bool.{cases_lt}
use Rattle.std.proofs.lemmas.Bool.Decides.{nat_tests}
use Rattle.std.specs.Prelude.{unwrap_or}
use Rattle.aat_buffer.specs.Buffer.{Buffer, glyph_at, no_glyph}
use Rattle.aat_buffer.specs.Marks.{cluster_at}
use Rattle.aat_buffer.specs.facts.Lines.{length_unsafe}
use Rattle.aat_machine_tables.specs.Entries.{goes_on, has_flag, is_present}
use Rattle.aat_machine_tables.specs.Table.{TableValue, class_of, entry_of}
use Rattle.aat_glyph.specs.declared.glyph.hb_glyph_info_t.{hb_glyph_info_t}
use Rattle.aat_run.specs.Budget.{operations_left}
use Rattle.aat_run.specs.Context.{Machine, class_at, machine_of, start}
use Rattle.aat_run.specs.Driven.{comes_to_end, machine_run}
use Rattle.aat_run.specs.Machine.{break_marked_at}
use Rattle.aat_run.specs.facts.MachineRuns.{buffer_kept}
use Rattle.aat_kinds.specs.Contextual.{Entry, IsFit, Registers, act, can_act, context, fresh}
use Rattle.aat_kinds.specs.Kinds.{contextual_run}
use Rattle.aat_kinds.specs.facts.ContextualLaws as laws
use Rattle.aat_cut_kinds.specs.CutLaws.{ActsOnBoth, IsClosed, IsCutLawful, IsIdle, IsLocal, IsMovedOn, KeepsLine, KeepsMarks, KeepsSound, MovesOn}
use Rattle.aat_cut_kinds.specs.Greater.{IsFlaggedAt, clusters}
use Rattle.aat_cut_kinds.specs.Parts.{moved_on}
use Rattle.aat_cut_kinds.specs.facts.Complete.{complete_runs_through}
use Rattle.aat_cut_kinds.specs.facts.ContextCuts.{leaves_its_parts}
use Rattle.aat_cut_kinds.specs.facts.Flags.{IsCalm, calm_masks, calm_unsafe, cut_flags, flag_stays}
use Rattle.aat_cut_kinds.specs.facts.Inside.{at_its_end, not_at_end}
use Rattle.aat_cut_kinds.specs.facts.MarksOnly.{of_unsafe}
use Rattle.aat_cut_kinds.specs.Cuts.{IsUnmarkedCut, LeavesParts}
use Rattle.aat_cut_kinds.specs.Settled.{IsClassOfGlyph, IsSettledBy, Labels, may_replace, sets_mark}
use Rattle.aat_cut_kinds.specs.facts.ContextualActs.{act_in_back, act_in_front, acts_inside, idle_act, registers_of}

pub neither : (a b : Bool) → (a || b) ≡ false → (a ≡ false) × (b ≡ false)
neither true b e = absurd (cc)
neither false b e = (refl, e)

second : (a b : Bool) → (a || b) ≡ true → a ≡ false → b ≡ true
second true b e f = absurd (cc)
second false b e f = e

first : (a b : Bool) → (a || b) ≡ true → b ≡ false → a ≡ true
first true b e f = refl
first false b e f = absurd (cc)

pub set_acts : (r : Registers) (p n : ℕ) → r.is_set ≡ true → can_act r p n ≡ true
set_acts r p n set = rw set (by_place (nat_lt p n))
  where
    by_place : (t : Bool) → (t || true) ≡ true
    by_place true = refl
    by_place false = refl

-- registers that fit mark a place within a line that is not empty
pub mark_within : (r : Registers) (p n : ℕ) → IsFit r p n → 0 < n → r.mark < n
mark_within r p n fit some = by_set r.is_set refl
  where
    by_set : (t : Bool) → r.is_set ≡ t → r.mark < n
    by_set true is = fit.0 is
    by_set false is = let none = fit.1 is in omega (arith, none, some)

pub by_equation : (gs : List hb_glyph_info_t) (z : ℤ) (whole part : Buffer) → whole ≡ moved_on gs z part → operations_left z ≤ operations_left part.max_ops → IsMovedOn gs whole part
by_equation gs z whole part is low =
    let budget : whole.max_ops ≡ z = ap (λ (b : Buffer). b.max_ops) is in
    record { buffer = is ∙ ap (λ y. moved_on gs y part) (sym budget); budget = rw budget low }

module _ (classes : Option (List (ℕ × ℕ))) (lookups : List (List (ℕ × ℕ))) where
  -- clusters stay, and flags
  pub record IsSteady (old new : Buffer) : Type 0 where
    pub clusters_kept : clusters new.line ≡ clusters old.line
    pub calm : IsCalm old.line new.line

  pub steady : (e : Entry) (r : Registers) (b : Buffer) → IsSteady b (act classes lookups e r b).buffer
  steady e r b =
      laws.of_act classes lookups (IsSteady b)
      (λ d i j k. record {
        clusters_kept = of_unsafe (λ (g : hb_glyph_info_t). g.cluster) (λ bits g. refl) d i j ∙ k.clusters_kept;
        calm = λ n h. k.calm n (calm_unsafe d i j n h);
      })
      (λ d i v k. record {
        clusters_kept = map-set_same (λ (g : hb_glyph_info_t). g.cluster) d.line i _ no_glyph refl ∙ k.clusters_kept;
        calm = λ n h. k.calm n (calm_masks d.line _ (map-set_same (λ (g : hb_glyph_info_t). g.mask) d.line i _ no_glyph refl) n h);
      })
      e r b (record { clusters_kept = refl; calm = λ n h. h })

  module _ (on : ℕ → Bool) (table : TableValue Entry) where
    m : Machine Registers Entry
    m = machine_of on table (context classes lookups)

    -- an entry that is idle names no lookup
    names_none : (e : Entry) → IsIdle m IsFit e → (is_present e.extra.mark_index ≡ false) × (is_present e.extra.current_index ≡ false)
    unfolding m
    names_none e quiet = neither (is_present e.extra.mark_index) (is_present e.extra.current_index) (quiet.quiet fresh 0 1 (omega arith))

    is_local : (Left Right : List hb_glyph_info_t → Type 0) → IsLocal m IsFit Left Right
    unfolding m
    is_local Left Right = record {
      tested = λ e r s p n i k below within. rw (acts_inside r p n below, acts_inside s i k within) refl;
      inside = λ e r b fit below. let kept = laws.keeps classes lookups e r b fit in rw (kept.cursor, kept.length) below;
      unseen = λ e r b gs fit below left right. act_in_front classes lookups gs e r b below (mark_within r b.cursor (length b.line) fit (omega (arith, below)));
      idle = λ e r b quiet. let none = names_none e quiet in inl (idle_act classes lookups e r b none.0 none.1);
    }

    module _ (labels : Labels) (settled : IsSettledBy labels table lookups) where
      Reached : ℕ → Type 0
      Reached t = labels.is_reached t ≡ true

      -- where the mark is live it is set in both, and has moved on
      Alike : List hb_glyph_info_t → ℕ → Registers → Registers → Type 0
      Alike gs t r s = labels.is_live t ≡ true → (r.is_set ≡ true) × (s.is_set ≡ true) × (r.mark ≡ length gs + s.mark)

      -- the line of the back part may be any
      Right : List hb_glyph_info_t → Type 0
      Right line = Unit {0}

      -- and so may the whole line
      Sound : ℕ → List hb_glyph_info_t → Type 0
      Sound level line = Unit {0}

      dead : labels.is_live 0 ≡ true → ⊥
      dead live = let first = settled.tidy.first in absurd (cc)

      is_closed : IsClosed m IsFit Reached
      unfolding m Reached
      is_closed = record {
        first = settled.complete.first;
        entries = λ t k e known is.
            let there = settled.complete.entries t k known in
            let same : there.0 ≡ e = ap (λ (o : Option Entry). unwrap_or o e) (sym there.1 ∙ is) in
            subst (λ (x : Entry). labels.is_reached x.new_state ≡ true) same there.2;
      }

      -- the class at a glyph is that of a glyph
      of_glyph : (b : Buffer) → b.cursor < length b.line → IsClassOfGlyph table (class_at (class_of table) b)
      of_glyph b below = ((glyph_at b.line b.cursor).glyph_id, rw (not_at_end b below) refl)

      module _ (gs : List hb_glyph_info_t) (Marked : List hb_glyph_info_t → Type 0) where
        On : ℕ → Entry → Registers → Registers → ℤ → Buffer → Type 0
        On t e r s z b = ActsOnBoth m IsFit gs Reached fresh (Alike gs) Marked Right Sound t e r s z b

        both_live : (t : ℕ) (e : Entry) (r s : Registers) (z : ℤ) (b : Buffer) → On t e r s z b → labels.is_live t ≡ true
            → (act classes lookups e r (moved_on gs z b)).buffer ≡ moved_on gs z (act classes lookups e s b).buffer
        unfolding On Alike m Reached
        both_live t e r s z b on live =
            let alike = on.alike live in
            let within : s.mark < length b.line = on.fits_part.0 alike.1 in
            act_in_back classes lookups gs z e r s b (set_acts r _ _ alike.0) (set_acts s _ _ alike.1) (λ _. alike.2) (omega (arith, within))

        both_dead : (t : ℕ) (e : Entry) (r s : Registers) (z : ℤ) (b : Buffer) → On t e r s z b → labels.is_live t ≡ false
            → (act classes lookups e r (moved_on gs z b)).buffer ≡ moved_on gs z (act classes lookups e s b).buffer
        unfolding On Alike m Reached
        both_dead t e r s z b on live = by_place (cases_lt b.cursor (length b.line))
          where
            unasked : is_present e.extra.mark_index ≡ true → ⊥
            unasked asked = let lives = settled.tidy.used t (class_at (class_of table) b) e on.is_reached on.entry asked in absurd (cc)

            at_end : length b.line ≤ b.cursor → is_present e.extra.current_index ≡ true → ⊥
            at_end past asked =
                let there : entry_of table t 0 ≡ Some e = rw (at_its_end b past) at on.entry in
                let lives = settled.tidy.at_end t e on.is_reached there asked in
                absurd (cc)

            none : (t : Bool) → (t ≡ true → ⊥) → t ≡ false
            none true h = absurd (h refl)
            none false h = refl

            by_place : ((b.cursor < length b.line) ⊎ (length b.line ≤ b.cursor)) → (act classes lookups e r (moved_on gs z b)).buffer ≡ moved_on gs z (act classes lookups e s b).buffer
            by_place (inl below) =
                act_in_back classes lookups gs z e r s b (acts_inside r _ _ (omega (arith, below, length-append gs b.line))) (acts_inside s _ _ below) (λ asked. absurd (unasked asked)) (omega (arith, below))
            by_place (inr past) =
                let no_mark = none (is_present e.extra.mark_index) unasked in
                let no_current = none (is_present e.extra.current_index) (at_end past) in
                idle_act classes lookups e r (moved_on gs z b) no_mark no_current ∙ sym (ap (moved_on gs z) (idle_act classes lookups e s b no_mark no_current))

        both : (t : ℕ) (e : Entry) (r s : Registers) (z : ℤ) (b : Buffer) → On t e r s z b
            → (act classes lookups e r (moved_on gs z b)).buffer ≡ moved_on gs z (act classes lookups e s b).buffer
        both t e r s z b on = by_label (labels.is_live t) refl
          where
            by_label : (l : Bool) → labels.is_live t ≡ l → (act classes lookups e r (moved_on gs z b)).buffer ≡ moved_on gs z (act classes lookups e s b).buffer
            by_label true is = both_live t e r s z b on is
            by_label false is = both_dead t e r s z b on is

        -- the registers, where the cursor stands at a glyph
        registers_alike : (t : ℕ) (e : Entry) (r s : Registers) (z : ℤ) (b : Buffer) → On t e r s z b → b.cursor < length b.line
            → Alike gs e.new_state (act classes lookups e r (moved_on gs z b)).registers (act classes lookups e s b).registers
        unfolding On Alike m Reached
        registers_alike t e r s z b on below live =
            let longer : length gs + b.cursor < length (gs ++ b.line) = omega (arith, below, length-append gs b.line) in
            let kept = settled.tidy.kept t (class_at (class_of table) b) e on.is_reached (of_glyph b below) on.entry live in
            rw (registers_of classes lookups e r (moved_on gs z b) (acts_inside r _ _ longer), registers_of classes lookups e s b (acts_inside s _ _ below)) (by_mark (sets_mark lookups e) kept)
          where
            IsMovedMark : Registers → Registers → Type 0
            IsMovedMark u v = (u.is_set ≡ true) × (v.is_set ≡ true) × (u.mark ≡ length gs + v.mark)

            by_mark : (h : Bool) → (h || labels.is_live t) ≡ true → IsMovedMark (cond h (record { mark = length gs + b.cursor; is_set = true }) r) (cond h (record { mark = b.cursor; is_set = true }) s)
            by_mark true kept = (refl, refl, refl)
            by_mark false kept = on.alike kept

        -- idle entries that do the same, at the first glyph of the back part
        agreed_alike : (t : ℕ) (e f : Entry) (r s : Registers) (z : ℤ) (b : Buffer) → Reached t → b.cursor ≡ 0 → 0 < length b.line
            → entry_of table t (class_at (class_of table) b) ≡ Some e → entry_of table 0 (class_at (class_of table) b) ≡ Some f
            → IsIdle m IsFit e → IsIdle m IsFit f → f.new_state ≡ e.new_state → goes_on f ≡ goes_on e
            → Alike gs e.new_state (act classes lookups e r (moved_on gs z b)).registers (act classes lookups f s b).registers
        unfolding Alike Reached
        agreed_alike t e f r s z b known front more entry from_start quiet quiet_start to going live =
            let below : b.cursor < length b.line = omega (arith, front, more) in
            let longer : length gs + b.cursor < length (gs ++ b.line) = omega (arith, below, length-append gs b.line) in
            let none = names_none e quiet in
            let none_start = names_none f quiet_start in
            let class = of_glyph b below in
            let live_start : labels.is_live f.new_state ≡ true = rw to live in
            let start_sets : sets_mark lookups f ≡ true =
            first (sets_mark lookups f) (labels.is_live 0) (settled.tidy.kept 0 (class_at (class_of table) b) f settled.complete.first class from_start live_start) settled.tidy.first in
            let flag : has_flag f 0x8000 ≡ true = sym (plain f none_start.0 none_start.1) ∙ start_sets in
            let same : has_flag e 0x8000 ≡ has_flag f 0x8000 =
            settled.agreeing.agreed t (class_at (class_of table) b) e f known class entry from_start (quietly e none.0 none.1) (quietly f none_start.0 none_start.1) (sym to) (sym going) live in
            let sets : sets_mark lookups e ≡ true = plain e none.0 none.1 ∙ (same ∙ flag) in
            rw (registers_of classes lookups e r (moved_on gs z b) (acts_inside r _ _ longer), registers_of classes lookups f s b (acts_inside s _ _ below), sets, start_sets) (refl, refl, refl)
          where
            and_true : (h : Bool) → (h && true) ≡ h
            and_true true = refl
            and_true false = refl

            plain : (y : Entry) → is_present y.extra.mark_index ≡ false → is_present y.extra.current_index ≡ false → sets_mark lookups y ≡ has_flag y 0x8000
            plain y no_mark no_current = rw (no_mark, no_current) (and_true (has_flag y 0x8000))

            quietly : (y : Entry) → is_present y.extra.mark_index ≡ false → is_present y.extra.current_index ≡ false → may_replace y ≡ false
            quietly y no_mark no_current = rw (no_mark, no_current) refl

        moves : MovesOn m IsFit gs Reached fresh (Alike gs) Marked Right Sound
        unfolding On Alike m Reached
        moves = record {
          begun = λ r n k arrived fit fit_part live. absurd (dead live);
          passed = λ t r s alike live. absurd (dead live);
          moved = λ t e r s z b on.
              let kept = laws.keeps classes lookups e s b on.fits_part in
              by_equation gs z (act classes lookups e r (moved_on gs z b)).buffer (act classes lookups e s b).buffer (both t e r s z b on) (rw kept.budget on.budget);
          alike = λ t e r s z b on inside.
              let kept = laws.keeps classes lookups e s b on.fits_part in
              registers_alike t e r s z b on (rw (kept.cursor, kept.length) at inside);
          homed = λ t e r z b at stays home live. absurd (dead live);
          agreed = λ t e f r z b at same.
              agreed_alike t e f r fresh z b at.is_reached at.front (let front = at.front in let below = at.more in omega (arith, front, below)) at.entry same.from_start at.idle same.idle_start same.next same.advances;
        }

      -- the mark at a cut of a line
      module _ (q : ℕ) (old : List hb_glyph_info_t) (behind_first : 0 < q) (starts : cluster_at old (q - 1) ≢ cluster_at old q) where
        Left : List hb_glyph_info_t → Type 0
        Left gs = length gs ≡ q

        flags : (gs : List hb_glyph_info_t) → length gs ≡ q → KeepsMarks m IsFit gs (IsFlaggedAt q old) Right Sound
        unfolding m
        flags gs long = record {
          cut = λ z b some front more right sound.
              let place : length gs + b.cursor ≡ q = omega (arith, long, front) in
              let within : length gs + b.cursor < length (gs ++ b.line) = omega (arith, front, more, length-append gs b.line) in
              subst (λ (p : ℕ). IsFlaggedAt p old (break_marked_at (moved_on gs z b)).line) place
              (cut_flags old (moved_on gs z b) (omega (arith, place, behind_first)) within (rw place starts));
          marks = λ b flagged.
              flag_stays q old b.line (break_marked_at b).line (of_unsafe (λ (g : hb_glyph_info_t). g.cluster) (λ bits g. refl) b (Some (b.cursor - 1)) (Some (b.cursor + 1)))
              (calm_unsafe b (Some (b.cursor - 1)) (Some (b.cursor + 1))) flagged;
          acts = λ e r b fit sound flagged.
              let kept = steady e r b in
              flag_stays q old b.line (act classes lookups e r b).buffer.line kept.clusters_kept kept.calm flagged;
          spends = λ e r b fit. let kept = laws.keeps classes lookups e r b fit in rw kept.budget (omega arith);
        }

        front_stays : KeepsLine m IsFit Left
        unfolding m Left
        front_stays = record {
          marks = λ b long. length_unsafe b (Some (b.cursor - 1)) (Some (b.cursor + 1)) ∙ long;
          acts = λ e r b fit long. (laws.keeps classes lookups e r b fit).length ∙ long;
        }

        back_stays : KeepsLine m IsFit Right
        unfolding Right
        back_stays = record { marks = λ b right. tt; acts = λ e r b fit right. tt }

        sound_stays : KeepsSound m IsFit Sound
        unfolding Sound
        sound_stays = record { marks = λ b sound. tt; acts = λ e r b fit sound. tt }

        -- the laws of a cut
        is_lawful : IsCutLawful m IsFit Reached fresh Alike (IsFlaggedAt q old) Left Right Sound
        unfolding Left
        is_lawful = record {
          front = front_stays;
          behind = λ gs long. record { local = is_local Left Right; closed = is_closed; moves = moves gs (IsFlaggedAt q old); marks = flags gs long; back = back_stays; sound = sound_stays };
        }

      -- a run keeps the clusters
      run_keeps_clusters : (b : Buffer) → clusters (contextual_run on classes table lookups b).buffer.line ≡ clusters b.line
      unfolding contextual_run machine_run m
      run_keeps_clusters b =
          buffer_kept m IsFit (laws.keeps_fit classes lookups) laws.passes_fit (laws.pays classes lookups) (λ d. clusters d.line ≡ clusters b.line)
          (λ d same. of_unsafe (λ (g : hb_glyph_info_t). g.cluster) (λ bits g. refl) d (Some (d.cursor - 1)) (Some (d.cursor + 1)) ∙ same)
          (λ e r d fit same. (steady e r d).clusters_kept ∙ same)
          (λ d same. same) (λ d same. same) (start true b fresh) (laws.fits_fresh (length b.line)) refl

      -- and comes to the end of the line
      through : (b : Buffer) → comes_to_end on table (context classes lookups) b ≡ true
      unfolding comes_to_end m Reached
      through b =
          let past = complete_runs_through m IsFit (laws.keeps_fit classes lookups) laws.passes_fit (laws.pays classes lookups) Reached settled.complete.first settled.complete.entries (start true b fresh) (laws.fits_fresh (length b.line)) settled.complete.first in
          grind (arith, nat_tests, past)

      -- at an unmarked cut the run leaves the parts
      pub leaves_parts : (q : ℕ) (b : Buffer) → IsUnmarkedCut (contextual_run on classes table lookups) q b on → LeavesParts (contextual_run on classes table lookups) q b
      unfolding contextual_run m Left Right Sound
      leaves_parts q b cut =
          leaves_its_parts on table (context classes lookups) IsFit (laws.keeps_fit classes lookups) laws.passes_fit (laws.pays classes lookups) (laws.keeps_settings classes lookups) (laws.lengthens classes lookups)
          (λ e r d fit none. laws.keeps_positions classes lookups e r d fit ∙ none) laws.fits_fresh
          (λ _. record { length = laws.keeps_length classes lookups; cursor = laws.keeps_cursor classes lookups; positions = laws.keeps_positions classes lookups })
          Reached Alike (IsFlaggedAt q b.line) (Left q b.line cut.behind_first cut.starts) Right Sound (is_lawful q b.line cut.behind_first cut.starts) q b
          (let within = cut.before_end in length-take q b.line ∙ omega (arith, within)) tt tt
          (record { behind_first = cut.behind_first; before_end = cut.before_end; is_on = cut.is_on; through = through b; budget = cut.budget; unmarked = λ flagged. flagged (run_keeps_clusters b) cut.unflagged })
