-- A contextual run that closes what it looks at leaves the parts of a line at an unmarked cut, whatever the table.
use Rattle.std.proofs.Common.{◌≡◌, ◌≢◌, ◌∙◌, ◌⊎◌, inl, inr, ℕ, ℤ, ◌+◌, ◌-◌, ◌<◌, ◌≤◌, ◌||◌, Bool, true, false, cond, List, ◌++◌, length, nat_lt, Option, Some, refl, ap, subst, sym, arith, length-append, length-drop, length-take}
use Rattle.std.proofs.lemmas.Bool.{cases_lt}
use Rattle.std.proofs.lemmas.Bool.Decides.{nat_tests}
use Rattle.aat_buffer.specs.Buffer.{Buffer}
use Rattle.aat_buffer.specs.Marks.{cluster_at, unsafe_to_break}
use Rattle.aat_buffer.specs.facts.Cases.{chosen}
use Rattle.aat_buffer.specs.facts.Lines.{length_unsafe}
use Rattle.aat_machine_tables.specs.Entries.{goes_on, is_present}
use Rattle.aat_machine_tables.specs.Table.{TableValue}
use Rattle.aat_glyph.specs.declared.glyph.hb_glyph_info_t.{hb_glyph_info_t}
use Rattle.aat_run.specs.Context.{Context, Machine, Moved, machine_with, start}
use Rattle.aat_run.specs.Driven.{context_from, machine_run}
use Rattle.aat_run.specs.Machine.{break_marked_at}
use Rattle.aat_run.specs.facts.MachineRuns.{buffer_kept}
use Rattle.aat_kinds.specs.Contextual.{Entry, IsFit, Registers, act, actionable, can_act, fresh}
use Rattle.aat_kinds.specs.facts.ContextualLaws as laws
use Rattle.aat_cut_kinds.specs.CutLaws.{ActsOnBoth, IsClosed, IsCutLawful, IsIdle, IsLocal, KeepsLine, KeepsMarks, KeepsSound, MovesOn}
use Rattle.aat_cut_kinds.specs.Greater.{IsFlaggedAt, clusters}
use Rattle.aat_cut_kinds.specs.Parts.{followed_by, moved_on}
use Rattle.aat_cut_kinds.specs.facts.ContextCuts.{CutOf, RunsParted, runs_parted}
use Rattle.aat_cut_kinds.specs.facts.Flags.{calm_unsafe, cut_flags, flag_stays}
use Rattle.aat_cut_kinds.specs.facts.MarksOnly.{of_unsafe, same_at}
use Rattle.aat_cut_kinds.specs.facts.Spans.{unsafe_in_back, unsafe_in_front}
use Rattle.aat_cut_kinds.specs.Settled.{sets_mark}
use Rattle.aat_cut_kinds.specs.facts.ContextualActs.{act_in_back, act_in_front, acts_inside, idle_act, registers_of}
use Rattle.aat_cut_kinds.specs.facts.ContextualCuts.{IsSteady, by_equation, mark_within, neither, set_acts, steady}
use Rattle.aat_cut_kinds.specs.facts.CutSides.{unsafe_flags}
use Rattle.aat_closing.specs.Closing.{closed_from, closing, contextual_from}
use Rattle.aat_closing.specs.facts.ClosedLaws as closed
use Rattle.aat_closing.specs.facts.ClosedLaws.{length_closed, one_glyph}

-- a span over a cut flags, of the two glyphs there, the one with the greater cluster
over_flags : (q i j : ℕ) (old : List hb_glyph_info_t) (b : Buffer) → i < q → q < j → q < length b.line → cluster_at old (q - 1) ≢ cluster_at old q → IsFlaggedAt q old (unsafe_to_break b (Some i) (Some j)).line
over_flags q i j old b front back within differ same unflagged =
    let line : clusters b.line ≡ clusters old = sym (of_unsafe (λ (g : hb_glyph_info_t). g.cluster) (λ bits g. refl) b (Some i) (Some j)) ∙ same in
    let first : cluster_at b.line (q - 1) ≡ cluster_at old (q - 1) = same_at (λ (g : hb_glyph_info_t). g.cluster) b.line old (q - 1) line in
    let second : cluster_at b.line q ≡ cluster_at old q = same_at (λ (g : hb_glyph_info_t). g.cluster) b.line old q line in
    by_order first second (cases_lt (cluster_at old (q - 1)) (cluster_at old q))
  where
    by_order : cluster_at b.line (q - 1) ≡ cluster_at old (q - 1) → cluster_at b.line q ≡ cluster_at old q → ((cluster_at old (q - 1) < cluster_at old q) ⊎ (cluster_at old q ≤ cluster_at old (q - 1))) → ⊥
    by_order first second (inl rises) =
        let which : nat_lt (cluster_at old (q - 1)) (cluster_at old q) ≡ true = grind (arith, nat_tests, rises) in
        let here = rw which at unflagged in
        unsafe_flags i j (q - 1) q b (omega (arith, front)) (omega (arith, back)) (omega (arith, front)) back (λ e. absurd (omega (arith, e, front))) (omega (arith, within)) within (omega (arith, first, second, rises)) here
    by_order first second (inr falls) =
        let which : nat_lt (cluster_at old (q - 1)) (cluster_at old q) ≡ false = grind (arith, nat_tests, falls) in
        let here = rw which at unflagged in
        let lower : cluster_at old q < cluster_at old (q - 1) = omega (arith, falls, differ) in
        unsafe_flags i j q (q - 1) b (omega (arith, front)) back (omega (arith, front)) (omega (arith, back)) (λ e. absurd (omega (arith, e, front))) within (omega (arith, within)) (omega (arith, first, second, lower)) here

module _ (classes : Option (List (ℕ × ℕ))) (lookups : List (List (ℕ × ℕ))) where
  abbrev pub acts : Entry → Registers → Buffer → Moved Registers
  acts = closing contextual_from (act classes lookups)

  steady_closed : (e : Entry) (r : Registers) (i : ℕ) (b : Buffer) → IsSteady classes lookups b (act classes lookups e r (closed_from i b)).buffer
  steady_closed e r i b =
      let kept = steady classes lookups e r (closed_from i b) in
      record {
        clusters_kept = kept.clusters_kept ∙ of_unsafe (λ (g : hb_glyph_info_t). g.cluster) (λ bits g. refl) b (Some i) (Some (b.cursor + 1));
        calm = λ n h. calm_unsafe b (Some i) (Some (b.cursor + 1)) n (kept.calm n h);
      }

  fits_closed : (i : ℕ) (r : Registers) (b : Buffer) → IsFit r b.cursor (length b.line) → IsFit r (closed_from i b).cursor (length (closed_from i b).line)
  fits_closed i r b fit = rw (length_closed i b) fit

  record KeptAll (old : Buffer) (new : Buffer) : Type 0 where
    length : length new.line ≡ length old.line
    cursor : new.cursor ≡ old.cursor
    budget : new.max_ops ≡ old.max_ops

  keeps : (e : Entry) (r : Registers) (b : Buffer) → IsFit r b.cursor (length b.line) → KeptAll b (acts e r b).buffer
  keeps e r b fit =
      let i : ℕ = contextual_from e r b in
      let kept = laws.keeps classes lookups e r (closed_from i b) (fits_closed i r b fit) in
      record { length = kept.length ∙ length_closed i b; cursor = kept.cursor; budget = kept.budget }

  -- where the entry names no lookup the line stays
  idles : (e : Entry) (r : Registers) (b : Buffer) → is_present e.extra.mark_index ≡ false → is_present e.extra.current_index ≡ false → (acts e r b).buffer ≡ b
  idles e r b no_mark no_current =
      idle_act classes lookups e r (closed_from (contextual_from e r b) b) no_mark no_current
      ∙ rw (no_mark, no_current) (by_place (nat_lt b.cursor (length b.line)))
    where
      by_place : (t : Bool) → unsafe_to_break b (Some (cond t b.cursor b.cursor)) (Some (b.cursor + 1)) ≡ b
      by_place true = one_glyph b b.cursor
      by_place false = one_glyph b b.cursor

  from_inside : (e : Entry) (r : Registers) (b : Buffer) → b.cursor < length b.line → contextual_from e r b ≡ cond (is_present e.extra.mark_index) r.mark b.cursor
  from_inside e r b below = let within : nat_lt b.cursor (length b.line) ≡ true = grind (arith, nat_tests, below) in rw within refl

  from_at_end : (e : Entry) (r : Registers) (b : Buffer) → length b.line ≤ b.cursor → contextual_from e r b ≡ cond (is_present e.extra.mark_index || is_present e.extra.current_index) (r.mark - 1) b.cursor
  from_at_end e r b past = let beyond : nat_lt b.cursor (length b.line) ≡ false = grind (arith, nat_tests, past) in rw beyond refl

  module _ (on : ℕ → Bool) (table : TableValue Entry) where
    abbrev pub x : Context Registers Entry
    x = context_from true goes_on actionable acts fresh

    abbrev pub m : Machine Registers Entry
    m = machine_with on table goes_on actionable acts

    names_none : (e : Entry) → IsIdle m IsFit e → (is_present e.extra.mark_index ≡ false) × (is_present e.extra.current_index ≡ false)
    names_none e quiet = neither (is_present e.extra.mark_index) (is_present e.extra.current_index) (quiet.quiet fresh 0 1 (omega arith))

    is_local : (Left Right : List hb_glyph_info_t → Type 0) → IsLocal m IsFit Left Right
    is_local Left Right = record {
      tested = λ e r s p n i k below within. rw (acts_inside r p n below, acts_inside s i k within) refl;
      inside = λ e r b fit below. let kept = keeps e r b fit in rw (kept.cursor, kept.length) below;
      unseen = λ e r b gs fit below left right.
          let i : ℕ = contextual_from e r b in
          let longer : b.cursor < length (b.line ++ gs) = omega (arith, length-append b.line gs, below) in
          let same : contextual_from e r (followed_by gs b) ≡ i = from_inside e r (followed_by gs b) longer ∙ sym (from_inside e r b below) in
          let closed : closed_from (contextual_from e r (followed_by gs b)) (followed_by gs b) ≡ followed_by gs (closed_from i b) =
          ap (λ (j : ℕ). closed_from j (followed_by gs b)) same ∙ unsafe_in_front gs b i (b.cursor + 1) (omega (arith, below)) in
          let here : b.cursor < length (closed_from i b).line = rw (length_closed i b) below in
          ap (act classes lookups e r) closed ∙ act_in_front classes lookups gs e r (closed_from i b) here (mark_within r b.cursor (length (closed_from i b).line) (fits_closed i r b fit) (omega (arith, here)));
      idle = λ e r b quiet. let none = names_none e quiet in inl (idles e r b none.0 none.1);
    }

    -- each state may be reached, and each line is sound
    abbrev pub Reached : ℕ → Type 0
    Reached t = Unit {0}

    abbrev pub Sound : ℕ → List hb_glyph_info_t → Type 0
    Sound level line = Unit {0}

    -- the back part has a glyph
    abbrev pub Right : List hb_glyph_info_t → Type 0
    Right line = 0 < length line

    is_closed : IsClosed m IsFit Reached
    is_closed = record { first = tt; entries = λ t k e known is. tt }

    -- the mark has moved on, or stands before the cut
    abbrev pub Alike : List hb_glyph_info_t → ℕ → Registers → Registers → Type 0
    Alike gs t r s = (r.mark ≡ length gs + s.mark) ⊎ (r.mark < length gs)

    near_cut : (gs : List hb_glyph_info_t) (t : ℕ) (r s : Registers) → r.mark ≤ length gs → s.mark ≤ 0 → Alike gs t r s
    near_cut gs t r s whole part = by_order (cases_lt r.mark (length gs))
      where
        by_order : ((r.mark < length gs) ⊎ (length gs ≤ r.mark)) → (r.mark ≡ length gs + s.mark) ⊎ (r.mark < length gs)
        by_order (inl below) = inr below
        by_order (inr above) = inl (omega (arith, whole, part, above))

    -- registers that fit mark a place at most at the end
    at_most : (r : Registers) (p n : ℕ) → IsFit r p n → r.mark ≤ n
    at_most r p n fit = by_set r.is_set refl
      where
        by_set : (t : Bool) → r.is_set ≡ t → r.mark ≤ n
        by_set true is = let low = fit.0 is in omega (arith, low)
        by_set false is = let none = fit.1 is in omega (arith, none)

    -- a run keeps the clusters
    pub run_keeps_clusters : (b : Buffer) → clusters (machine_run on table x b).buffer.line ≡ clusters b.line
    unfolding machine_run
    run_keeps_clusters b =
        buffer_kept m IsFit (closed.keeps_fit IsFit (act classes lookups) contextual_from (laws.keeps_fit classes lookups)) laws.passes_fit
        (closed.pays IsFit (act classes lookups) contextual_from (laws.pays classes lookups)) (λ d. clusters d.line ≡ clusters b.line)
        (λ d same. of_unsafe (λ (g : hb_glyph_info_t). g.cluster) (λ bits g. refl) d (Some (d.cursor - 1)) (Some (d.cursor + 1)) ∙ same)
        (λ e r d fit same. (steady_closed e r (contextual_from e r d) d).clusters_kept ∙ same)
        (λ d same. same) (λ d same. same) (start true b fresh) (laws.fits_fresh (length b.line)) refl

    -- the mark of a cut of a line
    module _ (q : ℕ) (old : List hb_glyph_info_t) (behind_first : 0 < q) (starts : cluster_at old (q - 1) ≢ cluster_at old q) where
      abbrev pub Marked : List hb_glyph_info_t → Type 0
      Marked line = IsFlaggedAt q old line

      abbrev pub Left : List hb_glyph_info_t → Type 0
      Left gs = length gs ≡ q

      module _ (gs : List hb_glyph_info_t) (long : length gs ≡ q) where
        abbrev pub On : ℕ → Entry → Registers → Registers → ℤ → Buffer → Type 0
        On t e r s z b = ActsOnBoth m IsFit gs Reached fresh (Alike gs) Marked Right Sound t e r s z b

        -- an act over a line that is closed over the cut marks the cut
        crosses : (e : Entry) (r : Registers) (i : ℕ) (z : ℤ) (b : Buffer) → i < q → 0 < length b.line → Marked (act classes lookups e r (closed_from i (moved_on gs z b))).buffer.line
        crosses e r i z b low some =
            let w : Buffer = moved_on gs z b in
            let kept = steady classes lookups e r (closed_from i w) in
            flag_stays q old (closed_from i w).line (act classes lookups e r (closed_from i w)).buffer.line kept.clusters_kept kept.calm
            (over_flags q i (w.cursor + 1) old w low (omega (arith, long)) (omega (arith, long, some, length-append gs b.line)) starts)

        abbrev pub Same : Entry → Registers → Registers → ℤ → Buffer → Type 0
        Same e r s z b = (acts e r (moved_on gs z b)).buffer ≡ moved_on gs z (acts e s b).buffer

        -- both lines are closed from places that have moved on
        closes_both : (e : Entry) (r s : Registers) (z : ℤ) (b : Buffer) (j : ℕ) → contextual_from e r (moved_on gs z b) ≡ length gs + j → contextual_from e s b ≡ j
            → can_act r (length gs + b.cursor) (length (gs ++ b.line)) ≡ true → can_act s b.cursor (length b.line) ≡ true
            → (is_present e.extra.mark_index ≡ true → r.mark ≡ length gs + s.mark) → 0 < length b.line → Same e r s z b
        closes_both e r s z b j whole part can_whole can_part moved some =
            let next : length gs + b.cursor + 1 ≡ length gs + (b.cursor + 1) = omega arith in
            let closed : closed_from (length gs + j) (moved_on gs z b) ≡ moved_on gs z (closed_from j b) =
            ap (λ (k : ℕ). unsafe_to_break (moved_on gs z b) (Some (length gs + j)) (Some k)) next ∙ unsafe_in_back gs z b j (b.cursor + 1) in
            let long_whole : length (gs ++ (closed_from j b).line) ≡ length (gs ++ b.line) = length-append gs (closed_from j b).line ∙ (ap (λ n. length gs + n) (length_closed j b) ∙ sym (length-append gs b.line)) in
            rw (whole, part, closed)
            (act_in_back classes lookups gs z e r s (closed_from j b) (rw long_whole can_whole) (rw (length_closed j b) can_part) moved (rw (length_closed j b) some))

        inside_same : (t : ℕ) (e : Entry) (r s : Registers) (z : ℤ) (b : Buffer) → On t e r s z b → b.cursor < length b.line → Same e r s z b
        inside_same t e r s z b on below = by_use (is_present e.extra.mark_index) refl
          where
            longer : length gs + b.cursor < length (gs ++ b.line)
            longer = omega (arith, below, length-append gs b.line)

            whole_from : contextual_from e r (moved_on gs z b) ≡ cond (is_present e.extra.mark_index) r.mark (length gs + b.cursor)
            whole_from = from_inside e r (moved_on gs z b) longer

            part_from : contextual_from e s b ≡ cond (is_present e.extra.mark_index) s.mark b.cursor
            part_from = from_inside e s b below

            by_mark : is_present e.extra.mark_index ≡ true → ((r.mark ≡ length gs + s.mark) ⊎ (r.mark < length gs)) → Same e r s z b
            by_mark used (inl moved) =
                closes_both e r s z b s.mark (whole_from ∙ (ap (λ (u : Bool). cond u r.mark (length gs + b.cursor)) used ∙ moved)) (part_from ∙ ap (λ (u : Bool). cond u s.mark b.cursor) used)
                (acts_inside r (length gs + b.cursor) (length (gs ++ b.line)) longer) (acts_inside s b.cursor (length b.line) below) (λ _. moved) on.right
            by_mark used (inr stale) =
                let there : contextual_from e r (moved_on gs z b) ≡ r.mark = whole_from ∙ ap (λ (u : Bool). cond u r.mark (length gs + b.cursor)) used in
                absurd (on.unmarked (rw there (crosses e r r.mark z b (omega (arith, stale, long)) on.right)))

            by_use : (u : Bool) → is_present e.extra.mark_index ≡ u → Same e r s z b
            by_use true used = by_mark used on.alike
            by_use false unused =
                closes_both e r s z b b.cursor (whole_from ∙ ap (λ (u : Bool). cond u r.mark (length gs + b.cursor)) unused) (part_from ∙ ap (λ (u : Bool). cond u s.mark b.cursor) unused)
                (acts_inside r (length gs + b.cursor) (length (gs ++ b.line)) longer) (acts_inside s b.cursor (length b.line) below) (λ asked. absurd (let e : false ≡ true = sym unused ∙ asked in cc)) on.right

        end_same : (t : ℕ) (e : Entry) (r s : Registers) (z : ℤ) (b : Buffer) → On t e r s z b → length b.line ≤ b.cursor → Same e r s z b
        end_same t e r s z b on past = by_index (is_present e.extra.mark_index) (is_present e.extra.current_index) refl refl
          where
            beyond : length (gs ++ b.line) ≤ length gs + b.cursor
            beyond = omega (arith, past, length-append gs b.line)

            named : is_present e.extra.mark_index || is_present e.extra.current_index ≡ true → Same e r s z b
            named is =
                by_place (cases_lt (r.mark - 1) q)
              where
                there : contextual_from e r (moved_on gs z b) ≡ r.mark - 1
                there = from_at_end e r (moved_on gs z b) beyond ∙ ap (λ (u : Bool). cond u (r.mark - 1) (length gs + b.cursor)) is

                here : contextual_from e s b ≡ s.mark - 1
                here = from_at_end e s b past ∙ ap (λ (u : Bool). cond u (s.mark - 1) b.cursor) is

                set_of : (y : Registers) (p n : ℕ) → IsFit y p n → 0 < y.mark → y.is_set ≡ true
                set_of y p n fit some = by_set y.is_set refl
                  where
                    by_set : (t : Bool) → y.is_set ≡ t → y.is_set ≡ true
                    by_set true is = is
                    by_set false is = absurd (let none = fit.1 is in omega (arith, none, some))

                by_mark : q ≤ r.mark - 1 → ((r.mark ≡ length gs + s.mark) ⊎ (r.mark < length gs)) → Same e r s z b
                by_mark high (inr stale) = absurd (omega (arith, high, stale, long, behind_first))
                by_mark high (inl moved) =
                    let some_part : 0 < s.mark = omega (arith, high, moved, long, behind_first) in
                    let some_whole : 0 < r.mark = omega (arith, moved, some_part) in
                    closes_both e r s z b (s.mark - 1) (there ∙ omega (arith, moved, some_part)) here
                    (set_acts r (length gs + b.cursor) (length (gs ++ b.line)) (set_of r (length gs + b.cursor) (length (gs ++ b.line)) on.fits_whole some_whole))
                    (set_acts s b.cursor (length b.line) (set_of s b.cursor (length b.line) on.fits_part some_part)) (λ _. moved) on.right

                by_place : ((r.mark - 1 < q) ⊎ (q ≤ r.mark - 1)) → Same e r s z b
                by_place (inl low) = absurd (on.unmarked (rw there (crosses e r (r.mark - 1) z b low on.right)))
                by_place (inr high) = by_mark high on.alike

            by_index : (u v : Bool) → is_present e.extra.mark_index ≡ u → is_present e.extra.current_index ≡ v → Same e r s z b
            by_index true v mark current = named (rw mark refl)
            by_index false true mark current = named (rw (mark, current) refl)
            by_index false false mark current = idles e r (moved_on gs z b) mark current ∙ sym (ap (moved_on gs z) (idles e s b mark current))

        same : (t : ℕ) (e : Entry) (r s : Registers) (z : ℤ) (b : Buffer) → On t e r s z b → Same e r s z b
        same t e r s z b on = by_place (cases_lt b.cursor (length b.line))
          where
            by_place : ((b.cursor < length b.line) ⊎ (length b.line ≤ b.cursor)) → Same e r s z b
            by_place (inl below) = inside_same t e r s z b on below
            by_place (inr past) = end_same t e r s z b on past

        -- the registers behind an act inside a line
        registers_inside : (e : Entry) (r : Registers) (b : Buffer) → b.cursor < length b.line → (acts e r b).registers ≡ cond (sets_mark lookups e) (record { mark = b.cursor; is_set = true }) r
        registers_inside e r b below =
            let i : ℕ = contextual_from e r b in
            registers_of classes lookups e r (closed_from i b) (acts_inside r b.cursor (length (closed_from i b).line) (rw (length_closed i b) below))

        longer_at : (z : ℤ) (b : Buffer) → b.cursor < length b.line → (moved_on gs z b).cursor < length (moved_on gs z b).line
        longer_at z b below = omega (arith, below, length-append gs b.line)

        registers_alike : (t : ℕ) (e : Entry) (r s : Registers) (z : ℤ) (b : Buffer) → On t e r s z b → b.cursor < length b.line
            → Alike gs e.new_state (acts e r (moved_on gs z b)).registers (acts e s b).registers
        registers_alike t e r s z b on below =
            rw (registers_inside e r (moved_on gs z b) (longer_at z b below), registers_inside e s b below) (by_mark (sets_mark lookups e))
          where
            by_mark : (h : Bool) → ((cond h (record { mark = length gs + b.cursor; is_set = true }) r).mark ≡ length gs + (cond h (record { mark = b.cursor; is_set = true }) s).mark)
                ⊎ ((cond h (record { mark = length gs + b.cursor; is_set = true }) r).mark < length gs)
            by_mark true = inl refl
            by_mark false = on.alike

        -- at the cut
        low_mark : (e : Entry) (r : Registers) (p n : ℕ) → r.mark ≤ n → p ≤ n → (cond (sets_mark lookups e) (record { mark = p; is_set = true }) r).mark ≤ n
        low_mark e r p n low here = chosen (λ (y : Registers). y.mark ≤ n) (sets_mark lookups e) (record { mark = p; is_set = true }) r (λ _. here) (λ _. low)

        moves : MovesOn m IsFit gs Reached fresh (Alike gs) Marked Right Sound
        moves = record {
          begun = λ r n k arrived fit fit_part. near_cut gs 0 r fresh (at_most r (length gs) (length gs) arrived) (omega arith);
          passed = λ t r s alike. alike;
          moved = λ t e r s z b on.
              let kept = keeps e s b on.fits_part in
              by_equation gs z (acts e r (moved_on gs z b)).buffer (acts e s b).buffer (same t e r s z b on) (rw kept.budget on.budget);
          alike = λ t e r s z b on inside.
              let kept = keeps e s b on.fits_part in
              registers_alike t e r s z b on (rw (kept.cursor, kept.length) at inside);
          homed = λ t e r z b at stays home.
              let front = at.front in
              rw (registers_inside e r (moved_on gs z b) (longer_at z b at.more))
              (near_cut gs 0 (cond (sets_mark lookups e) (record { mark = length gs + b.cursor; is_set = true }) r) fresh
              (low_mark e r (length gs + b.cursor) (length gs) (at_most r (length gs) (length gs) at.arrived) (omega (arith, front))) (omega arith));
          agreed = λ t e f r z b at agrees.
              let front = at.front in
              rw (registers_inside e r (moved_on gs z b) (longer_at z b at.more), registers_inside f fresh b at.more)
              (near_cut gs e.new_state (cond (sets_mark lookups e) (record { mark = length gs + b.cursor; is_set = true }) r) (cond (sets_mark lookups f) (record { mark = b.cursor; is_set = true }) fresh)
              (low_mark e r (length gs + b.cursor) (length gs) (at_most r (length gs) (length gs) at.arrived) (omega (arith, front))) (low_mark f fresh b.cursor 0 (omega arith) (omega (arith, front))));
        }

        marks : KeepsMarks m IsFit gs Marked Right Sound
        marks = record {
          cut = λ z b some front more right sound.
              let place : length gs + b.cursor ≡ q = omega (arith, long, front) in
              let within : length gs + b.cursor < length (gs ++ b.line) = omega (arith, front, more, length-append gs b.line) in
              subst (λ (p : ℕ). IsFlaggedAt p old (break_marked_at (moved_on gs z b)).line) place
              (cut_flags old (moved_on gs z b) (omega (arith, place, behind_first)) within (rw place starts));
          marks = λ b flagged.
              flag_stays q old b.line (break_marked_at b).line (of_unsafe (λ (g : hb_glyph_info_t). g.cluster) (λ bits g. refl) b (Some (b.cursor - 1)) (Some (b.cursor + 1)))
              (calm_unsafe b (Some (b.cursor - 1)) (Some (b.cursor + 1))) flagged;
          acts = λ e r b fit sound flagged.
              let kept = steady_closed e r (contextual_from e r b) b in
              flag_stays q old b.line (acts e r b).buffer.line kept.clusters_kept kept.calm flagged;
          spends = λ e r b fit. let kept = keeps e r b fit in rw kept.budget (omega arith);
        }

      front_stays : KeepsLine m IsFit Left
      front_stays = record {
        marks = λ b long. length_unsafe b (Some (b.cursor - 1)) (Some (b.cursor + 1)) ∙ long;
        acts = λ e r b fit long. (keeps e r b fit).length ∙ long;
      }

      back_stays : KeepsLine m IsFit Right
      back_stays = record {
        marks = λ b some. rw (length_unsafe b (Some (b.cursor - 1)) (Some (b.cursor + 1))) some;
        acts = λ e r b fit some. rw (keeps e r b fit).length some;
      }

      sound_stays : KeepsSound m IsFit Sound
      sound_stays = record { marks = λ b sound. tt; acts = λ e r b fit sound. tt }

      -- the laws of a cut
      is_lawful : IsCutLawful m IsFit Reached fresh Alike Marked Left Right Sound
      is_lawful = record {
        front = front_stays;
        behind = λ gs long. record { local = is_local Left Right; closed = is_closed; moves = moves gs long; marks = marks gs long; back = back_stays; sound = sound_stays };
      }

      -- at an unmarked cut the run leaves its parts
      pub leaves_parts : (b : Buffer) → b.line ≡ old → q < length b.line → CutOf on table x IsFit Marked q b → RunsParted on table x q b
      leaves_parts b is within cut =
          runs_parted on table x IsFit (closed.keeps_fit IsFit (act classes lookups) contextual_from (laws.keeps_fit classes lookups)) laws.passes_fit
          (closed.pays IsFit (act classes lookups) contextual_from (laws.pays classes lookups))
          (closed.keeps_settings IsFit (act classes lookups) contextual_from (laws.keeps_settings classes lookups))
          (closed.lengthens IsFit (act classes lookups) contextual_from (laws.lengthens classes lookups))
          (closed.makes_no_positions IsFit (act classes lookups) contextual_from (λ e r d fit none. laws.keeps_positions classes lookups e r d fit ∙ none)) laws.fits_fresh
          (closed.keeps_place IsFit (act classes lookups) contextual_from (λ _. record { length = laws.keeps_length classes lookups; cursor = laws.keeps_cursor classes lookups; positions = laws.keeps_positions classes lookups }))
          Reached Alike Marked Left Right Sound is_lawful q b
          (length-take q b.line ∙ omega (arith, within)) (omega (arith, within, length-drop q b.line)) tt cut
