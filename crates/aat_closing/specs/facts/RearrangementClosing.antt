-- A rearrangement run that closes what it looks at leaves the parts of a line at a cut that is not open, whatever the table.
use Rattle.std.proofs.Common.{◌≡◌, ◌∙◌, ◌⊎◌, inl, inr, ℕ, ℤ, ◌+◌, ◌-◌, ◌<◌, ◌≤◌, Bool, true, false, cond, List, ◌++◌, length, min, nat_le, take, drop, Some, refl, ap, sym, arith, length-append, length-drop, length-take}
use Rattle.std.proofs.lemmas.Bool.{cases_lt}
use Rattle.std.proofs.lemmas.Bool.Decides.{nat_tests}
use Rattle.std.specs.Prelude.{All}
use Rattle.aat_buffer.specs.Buffer.{Buffer}
use Rattle.aat_buffer.specs.Clusters.{ClustersMerge, IsRisingLine}
use Rattle.aat_buffer.specs.Marks.{clusters_stay_apart, unsafe_to_break}
use Rattle.aat_buffer.specs.facts.Cases.{chosen}
use Rattle.aat_buffer.specs.facts.Lines.{length_unsafe}
use Rattle.aat_buffer.specs.facts.Order.{Kept, comes_trans, kept_refl, kept_unsafe}
use Rattle.aat_machine_tables.specs.Entries.{goes_on, has_flag}
use Rattle.aat_machine_tables.specs.Judged.{rearrangement_acts}
use Rattle.aat_machine_tables.specs.Table.{TableValue}
use Rattle.aat_glyph.specs.declared.glyph.hb_glyph_info_t.{hb_glyph_info_t}
use Rattle.aat_run.specs.Context.{Machine, Moved, machine_with}
use Rattle.aat_run.specs.Laws.{FitsFresh, KeepsFit, KeepsPlace, KeepsSettings, MakesNoPositions, PassesFit}
use Rattle.aat_run.specs.Machine.{break_marked_at}
use Rattle.aat_run.specs.facts.InPlace.{KeepsAll, lengthens_in_place, pays_in_place}
use Rattle.aat_kinds.specs.Rearrangement.{Entry, Registers, act, fresh}
use Rattle.aat_kinds.specs.facts.OrderHolds.{rearrangement_kept}
use Rattle.aat_kinds.specs.facts.RearrangementLaws as laws
use Rattle.aat_cut_kinds.specs.Cut.{IsCutPlace, LeavesItsParts}
use Rattle.aat_cut_kinds.specs.CutLaws.{ActsOnBoth, IdlesAtCut, IsClosed, IsCutLawful, IsIdle, IsLocal, IsSound, KeepsLine, KeepsMarks, KeepsSound, MovesOn, left_before}
use Rattle.aat_cut_kinds.specs.Open.{is_open}
use Rattle.aat_cut_kinds.specs.Parts.{followed_by, moved_on}
use Rattle.aat_cut_kinds.specs.facts.ContextCuts.{AtOn, CutOf, RunsParted, inside_of, runs_parted}
use Rattle.aat_cut_kinds.specs.facts.Opens.{over_rise, unsafe_open}
use Rattle.aat_cut_kinds.specs.facts.Spans.{unsafe_in_back, unsafe_in_front}
use Rattle.aat_cut_kinds.specs.facts.ContextualCuts.{by_equation}
use Rattle.aat_cut_kinds.specs.facts.CutSides.{IsOf, all_from}
use Rattle.aat_cut_kinds.specs.facts.OffSides.{KeepsSides}
use Rattle.aat_closing.specs.Closing.{closed_from, closing, rearrangement_from}
use Rattle.aat_closing.specs.ClosingRuns.{rearrangement_closing}
use Rattle.aat_closing.specs.facts.ClosedSides.{closed_sides}
use Rattle.aat_closing.specs.facts.RearrangementActs.{act_in_back, act_in_front, act_opens, idle_act, set_at, set_in_front}

-- the start is at most at the cursor, and the end at most behind the glyph there, and on the line or at its end
pub Near : Registers → ℕ → ℕ → Type 0
Near r p n = (r.start ≤ p) × (r.end ≤ p + 1) × (r.end ≤ n)

fits_fresh : FitsFresh Near fresh
unfolding Near
fits_fresh n = (omega arith, omega arith, omega arith)

passes_fit : PassesFit Near
unfolding Near
passes_fit r p n fit below =
    let first = fit.0 in
    let last = fit.1 in
    (omega (arith, first), omega (arith, last), fit.2)

-- so are the ends that an entry sets
near_set : (e : Entry) (r : Registers) (b : Buffer) → Near r b.cursor (length b.line) → Near (set_at e r b) b.cursor (length b.line)
unfolding Near
near_set e r b fit = (
  chosen (λ (k : ℕ). k ≤ b.cursor) (has_flag e 0x8000) b.cursor r.start (λ _. omega arith) (λ _. fit.0),
  chosen (λ (k : ℕ). k ≤ b.cursor + 1) (has_flag e 0x2000) (min (b.cursor + 1) (length b.line)) r.end (λ _. omega arith) (λ _. fit.1),
  chosen (λ (k : ℕ). k ≤ length b.line) (has_flag e 0x2000) (min (b.cursor + 1) (length b.line)) r.end (λ _. omega arith) (λ _. fit.2),
)

-- how far before the end of the span the line is closed
abbrev back_by : Entry → ℕ
back_by e = cond (has_flag e 0x2000) 1 2

-- where an entry with a verb closes the line
from_verb : (e : Entry) (r : Registers) (b : Buffer) → rearrangement_acts e ≡ true → rearrangement_from e r b ≡ min (set_at e r b).start ((set_at e r b).end - back_by e)
from_verb e r b verb = ap (λ (t : Bool). cond t (min (set_at e r b).start ((set_at e r b).end - back_by e)) b.cursor) verb

-- one without a verb closes nothing, since a span of one glyph gets no marks
one_glyph : (b : Buffer) (p : ℕ) → unsafe_to_break b (Some p) (Some (p + 1)) ≡ b
one_glyph b p = let short : nat_le (p + 2) (min (p + 1) (length b.line)) ≡ false = grind (arith, nat_tests) in rw short refl

closes_none : (e : Entry) (r : Registers) (b : Buffer) → rearrangement_acts e ≡ false → closed_from (rearrangement_from e r b) b ≡ b
closes_none e r b none = ap (λ (t : Bool). closed_from (cond t (min (set_at e r b).start ((set_at e r b).end - back_by e)) b.cursor) b) none ∙ one_glyph b b.cursor

-- the sides of the cut
Front : ℕ → ℕ → Type 0
Front c n = n < c

Back : ℕ → ℕ → Type 0
Back c n = c ≤ n

-- clusters that never fall
same_rises : (x y : ℕ) → x ≡ y → x ≤ y
same_rises x y same = omega (arith, same)

-- the line that an act finds is as long, with its clusters where they were
length_closed : (i : ℕ) (b : Buffer) → length (closed_from i b).line ≡ length b.line
length_closed i b = length_unsafe b (Some i) (Some (b.cursor + 1))

kept_marked : (b : Buffer) (i j : ℕ) → Kept (λ x y. x ≤ y) same_rises b (unsafe_to_break b (Some i) (Some j))
kept_marked b i j = kept_unsafe (λ x y. x ≤ y) same_rises b b (Some i) (Some j) (kept_refl (λ x y. x ≤ y) same_rises b)

kept_closed : (i : ℕ) (b : Buffer) → Kept (λ x y. x ≤ y) same_rises b (closed_from i b)
kept_closed i b = kept_marked b i (b.cursor + 1)

module _ (bound : ℕ) where
  acts : Entry → Registers → Buffer → Moved Registers
  acts = closing rearrangement_from (act bound)

  end_closed : (i : ℕ) (r : Registers) (b : Buffer) → Near r b.cursor (length b.line) → r.end ≤ length (closed_from i b).line
  unfolding Near
  end_closed i r b fit = rw (length_closed i b) fit.2

  keeps : KeepsAll acts Near
  unfolding acts
  keeps e r b fit =
      let i : ℕ = rearrangement_from e r b in
      let kept = laws.keeps bound e r (closed_from i b) (end_closed i r b fit) in
      record { length = kept.length ∙ length_closed i b; cursor = kept.cursor; budget = kept.budget }

  -- what an act keeps of the sides of a cut
  pub keeps_sides : (Order : ℕ → ℕ → Type 0) → ((x y : ℕ) → x ≡ y → Order x y) → KeepsSides (closing rearrangement_from (act bound)) Near Order
  unfolding acts Near
  keeps_sides Order same = closed_sides Near (act bound) rearrangement_from Order same (λ e r b fit. rearrangement_kept Order same bound e r b fit.2) keeps

  registers_of : (e : Entry) (r : Registers) (b : Buffer) → (acts e r b).registers ≡ set_at e r b
  unfolding acts act
  registers_of e r b = ap (λ (n : ℕ). record { start = cond (has_flag e 0x8000) b.cursor r.start; end = cond (has_flag e 0x2000) (min (b.cursor + 1) n) r.end }) (length_closed (rearrangement_from e r b) b)

  keeps_fit : KeepsFit acts Near
  keeps_fit e r b fit below =
      let kept = keeps e r b fit in
      rw (kept.cursor, kept.length, registers_of e r b) (near_set e r b fit)

  keeps_settings : KeepsSettings acts Near
  unfolding acts
  keeps_settings e r b fit =
      let i : ℕ = rearrangement_from e r b in
      let kept = laws.keeps_settings bound e r (closed_from i b) (end_closed i r b fit) in
      record { direction = kept.direction; cluster_level = kept.cluster_level; flags = kept.flags; scratch_flags = kept.scratch_flags; max_len = kept.max_len; successful = kept.successful }

  keeps_positions : (e : Entry) (r : Registers) (b : Buffer) → Near r b.cursor (length b.line) → (acts e r b).buffer.positions ≡ b.positions
  unfolding acts
  keeps_positions e r b fit =
      let i : ℕ = rearrangement_from e r b in
      laws.keeps_positions bound e r (closed_from i b) (end_closed i r b fit)

  keeps_place : KeepsPlace acts Near
  keeps_place = record {
    length = λ e r b fit. (keeps e r b fit).length;
    cursor = λ e r b fit. (keeps e r b fit).cursor;
    positions = keeps_positions;
  }

  makes_no_positions : MakesNoPositions acts Near
  makes_no_positions e r b fit none = keeps_positions e r b fit ∙ none

  -- clusters come from the line, and stay in order
  kept : (e : Entry) (r : Registers) (b : Buffer) → Near r b.cursor (length b.line) → Kept (λ x y. x ≤ y) same_rises b (acts e r b).buffer
  unfolding acts
  kept e r b fit =
      let i : ℕ = rearrangement_from e r b in
      let first = kept_closed i b in
      let second = rearrangement_kept (λ x y. x ≤ y) same_rises bound e r (closed_from i b) (end_closed i r b fit) in
      record {
        level = second.level ∙ first.level;
        from = comes_trans b.line (closed_from i b).line (act bound e r (closed_from i b)).buffer.line first.from second.from;
        ordered = λ level rising. second.ordered level (first.ordered level rising);
      }

  -- an entry without a verb leaves the line
  idles : (e : Entry) (r : Registers) (b : Buffer) → rearrangement_acts e ≡ false → (acts e r b).buffer ≡ b
  unfolding acts
  idles e r b none = ap (λ (d : Buffer). (act bound e r d).buffer) (closes_none e r b none) ∙ ap (λ (n : Moved Registers). n.buffer) (idle_act bound e r b none)

  -- the same act with more glyphs behind the line
  unseen : (c : ℕ) (e : Entry) (r : Registers) (b : Buffer) (gs : List hb_glyph_info_t) → Near r b.cursor (length b.line) → b.cursor < length b.line → IsOf (Front c) b.line → IsOf (Back c) gs
      → acts e r (followed_by gs b) ≡ left_before gs (acts e r b)
  unfolding acts Front Back
  unseen c e r b gs fit below left right =
      let i : ℕ = rearrangement_from e r b in
      let same : rearrangement_from e r (followed_by gs b) ≡ i = ap (λ (s : Registers). cond (rearrangement_acts e) (min s.start (s.end - back_by e)) b.cursor) (set_in_front gs e r b below) in
      let closed : closed_from (rearrangement_from e r (followed_by gs b)) (followed_by gs b) ≡ followed_by gs (closed_from i b) =
      ap (λ (j : ℕ). closed_from j (followed_by gs b)) same ∙ unsafe_in_front gs b i (b.cursor + 1) (omega (arith, below)) in
      let here : b.cursor < length (closed_from i b).line = rw (length_closed i b) below in
      ap (act bound e r) closed
      ∙ act_in_front (λ n. n < c) (λ n. c ≤ n) (λ n low high. omega (arith, low, high)) gs right.1 bound e r (closed_from i b)
      (all_from (λ n. n < c) b.line (closed_from i b).line (kept_closed i b).from left.1) here (end_closed i r b fit)

  module _ (on : ℕ → Bool) (table : TableValue Entry) where
    m : Machine Registers Entry
    m = machine_with on table goes_on (λ e r p n. rearrangement_acts e) acts

    has_no_verb : (e : Entry) → IsIdle m Near e → rearrangement_acts e ≡ false
    unfolding m
    has_no_verb e idle = idle.quiet fresh 0 1 (omega arith)

    -- each state may be reached
    Reached : ℕ → Type 0
    Reached t = Unit {0}

    is_closed : IsClosed m Near Reached
    unfolding Reached
    is_closed = record { first = tt; entries = λ t k e known is. tt }

    -- a line is sound whose clusters merge and never fall
    Sound : ℕ → List hb_glyph_info_t → Type 0
    Sound level line = ClustersMerge level × IsRisingLine line

    sound_stays : KeepsSound m Near Sound
    unfolding m Sound
    sound_stays = record {
      marks = λ b sound. (sound.0, (kept_marked b (b.cursor - 1) (b.cursor + 1)).ordered sound.0 sound.1);
      acts = λ e r b fit sound. let k = kept e r b fit in (λ apart. sound.0 (ap clusters_stay_apart (sym k.level) ∙ apart), k.ordered sound.0 sound.1);
    }

    -- a line that has such clusters alone keeps them
    keeps_line : (P : ℕ → Type 0) → KeepsLine m Near (IsOf P)
    unfolding m
    keeps_line P = record {
      marks = λ b all.
          let some = all.0 in
          let same = length_unsafe b (Some (b.cursor - 1)) (Some (b.cursor + 1)) in
          (omega (arith, some, same), all_from P b.line (break_marked_at b).line (kept_marked b (b.cursor - 1) (b.cursor + 1)).from all.1);
      acts = λ e r b fit all.
          let some = all.0 in
          let same = (keeps e r b fit).length in
          (omega (arith, some, same), all_from P b.line (acts e r b).buffer.line (kept e r b fit).from all.1);
    }

    -- each end of the span has moved on, or was set before the cut
    Alike : List hb_glyph_info_t → ℕ → Registers → Registers → Type 0
    Alike gs t r s = ((r.start ≡ length gs + s.start) ⊎ (r.start < length gs)) × ((r.end ≡ length gs + s.end) ⊎ (r.end ≤ length gs + 1))

    near_cut : (gs : List hb_glyph_info_t) (t : ℕ) (r s : Registers) → r.start ≤ length gs → r.end ≤ length gs + 1 → s.start ≤ 0 → Alike gs t r s
    unfolding Alike
    near_cut gs t r s low high none = (by_order (cases_lt r.start (length gs)), inr high)
      where
        by_order : ((r.start < length gs) ⊎ (length gs ≤ r.start)) → (r.start ≡ length gs + s.start) ⊎ (r.start < length gs)
        by_order (inl below) = inr below
        by_order (inr above) = inl (omega (arith, low, none, above))

    -- registers that come to the cut, behind an entry there
    set_at_cut : (gs : List hb_glyph_info_t) (t : ℕ) (e : Entry) (r s : Registers) (b : Buffer) → b.cursor ≡ length gs → Near r (length gs) (length gs) → s.start ≤ 0 → Alike gs t (set_at e r b) s
    unfolding Near
    set_at_cut gs t e r s b here fit none =
        let low = fit.0 in
        let high = fit.2 in
        near_cut gs t (set_at e r b) s (chosen (λ (k : ℕ). k ≤ length gs) (has_flag e 0x8000) b.cursor r.start (λ _. omega (arith, here)) (λ _. low))
        (chosen (λ (k : ℕ). k ≤ length gs + 1) (has_flag e 0x2000) (min (b.cursor + 1) (length b.line)) r.end (λ _. omega (arith, here)) (λ _. omega (arith, high))) none

    -- the cut of a line is marked where the cluster behind it is not open
    module _ (c : ℕ) where
      Marked : List hb_glyph_info_t → Type 0
      Marked line = is_open c line ≡ true → ⊥

      is_local : IsLocal m Near (IsOf (Front c)) (IsOf (Back c))
      unfolding m
      is_local = record {
        tested = λ e r s p n i k below within. refl;
        inside = λ e r b fit below. let same = keeps e r b fit in rw (same.cursor, same.length) below;
        unseen = λ e r b gs fit below left right. unseen c e r b gs fit below left right;
        idle = λ e r b idle. inl (idles e r b (has_no_verb e idle));
      }

      -- an act opens no cluster of the line that it finds
      acts_open : (e : Entry) (r : Registers) (b : Buffer) → Near r b.cursor (length b.line) → IsSound Sound b → is_open c (acts e r b).buffer.line ≡ true → is_open c (closed_from (rearrangement_from e r b) b).line ≡ true
      unfolding acts Sound
      acts_open e r b fit sound =
          let i : ℕ = rearrangement_from e r b in
          act_opens c bound e r (closed_from i b) (end_closed i r b fit) ((kept_closed i b).ordered sound.0 sound.1)

      module _ (gs : List hb_glyph_info_t) (front : IsOf (Front c) gs) where
        On : ℕ → Entry → Registers → Registers → ℤ → Buffer → Type 0
        On t e r s z b = ActsOnBoth m Near gs Reached fresh (Alike gs) Marked (IsOf (Back c)) Sound t e r s z b

        AtCut : ℕ → Entry → Registers → ℤ → Buffer → Type 0
        AtCut t e r z b = IdlesAtCut m Near gs Reached fresh (Alike gs) Marked (IsOf (Back c)) Sound t e r z b

        -- marks over the cut mark it
        over_cut : (i j : ℕ) (z : ℤ) (b : Buffer) → i < length gs → length gs < j → IsOf (Back c) b.line → IsSound Sound (moved_on gs z b) → Marked (unsafe_to_break (moved_on gs z b) (Some i) (Some j)).line
        unfolding Marked Front Back Sound
        over_cut i j z b low high right sound = over_rise c gs b.line (moved_on gs z b) i j front.1 right.1 sound.1 refl low high right.0

        -- an act over a line that is closed from before the cut marks the cut
        crosses : (e : Entry) (r : Registers) (z : ℤ) (b : Buffer) → Near r (length gs + b.cursor) (length (gs ++ b.line)) → IsOf (Back c) b.line → IsSound Sound (moved_on gs z b)
            → rearrangement_from e r (moved_on gs z b) < length gs → Marked (acts e r (moved_on gs z b)).buffer.line
        unfolding Marked
        crosses e r z b fit right sound low is =
            over_cut (rearrangement_from e r (moved_on gs z b)) (length gs + b.cursor + 1) z b low (omega arith) right sound (acts_open e r (moved_on gs z b) fit sound is)

        Same : Entry → Registers → Registers → ℤ → Buffer → Type 0
        Same e r s z b = (acts e r (moved_on gs z b)).buffer ≡ moved_on gs z (acts e s b).buffer

        -- where both ends of the span have moved on, so has what the act leaves
        both_moved : (e : Entry) (r s : Registers) (z : ℤ) (b : Buffer) → (set_at e r (moved_on gs z b)).start ≡ length gs + (set_at e s b).start → (set_at e r (moved_on gs z b)).end ≡ length gs + (set_at e s b).end
            → rearrangement_from e r (moved_on gs z b) ≡ length gs + rearrangement_from e s b → Same e r s z b
        unfolding acts Same
        both_moved e r s z b first last from =
            let j : ℕ = rearrangement_from e s b in
            let next : length gs + b.cursor + 1 ≡ length gs + (b.cursor + 1) = omega arith in
            let closed : closed_from (rearrangement_from e r (moved_on gs z b)) (moved_on gs z b) ≡ moved_on gs z (closed_from j b) =
            ap (λ (i : ℕ). closed_from i (moved_on gs z b)) from
            ∙ (ap (λ (k : ℕ). unsafe_to_break (moved_on gs z b) (Some (length gs + j)) (Some k)) next ∙ unsafe_in_back gs z b j (b.cursor + 1)) in
            let long : length (closed_from j b).line ≡ length b.line = length_closed j b in
            let long_whole : length (gs ++ (closed_from j b).line) ≡ length (gs ++ b.line) = omega (arith, long, length-append gs (closed_from j b).line, length-append gs b.line) in
            ap (λ (d : Buffer). (act bound e r d).buffer) closed ∙ act_in_back gs z bound e r s (closed_from j b) first (rw (long_whole, long) last)

        -- an end of the span that is not before the cut has moved on
        start_moved : (t : ℕ) (e : Entry) (r s : Registers) (z : ℤ) (b : Buffer) → Alike gs t r s → length gs ≤ (set_at e r (moved_on gs z b)).start → (set_at e r (moved_on gs z b)).start ≡ length gs + (set_at e s b).start
        unfolding Alike
        start_moved t e r s z b alike = by_flag (has_flag e 0x8000)
          where
            by_alike : ((r.start ≡ length gs + s.start) ⊎ (r.start < length gs)) → length gs ≤ r.start → r.start ≡ length gs + s.start
            by_alike (inl moved) low = moved
            by_alike (inr stale) low = absurd (omega (arith, stale, low))

            by_flag : (h : Bool) → length gs ≤ cond h (length gs + b.cursor) r.start → cond h (length gs + b.cursor) r.start ≡ length gs + cond h b.cursor s.start
            by_flag true low = refl
            by_flag false low = by_alike alike.0 low

        end_moved : (t : ℕ) (e : Entry) (r s : Registers) (z : ℤ) (b : Buffer) → Alike gs t r s → length gs ≤ (set_at e r (moved_on gs z b)).end - back_by e → (set_at e r (moved_on gs z b)).end ≡ length gs + (set_at e s b).end
        unfolding Alike
        end_moved t e r s z b alike = by_flag (has_flag e 0x2000)
          where
            some : 0 < length gs
            some = front.0

            by_alike : ((r.end ≡ length gs + s.end) ⊎ (r.end ≤ length gs + 1)) → length gs ≤ r.end - 2 → r.end ≡ length gs + s.end
            by_alike (inl moved) low = moved
            by_alike (inr stale) low = absurd (omega (arith, stale, low, some))

            by_flag : (h : Bool) → length gs ≤ cond h (min (length gs + b.cursor + 1) (length (gs ++ b.line))) r.end - cond h 1 2
                → cond h (min (length gs + b.cursor + 1) (length (gs ++ b.line))) r.end ≡ length gs + cond h (min (b.cursor + 1) (length b.line)) s.end
            by_flag true low = omega (arith, length-append gs b.line)
            by_flag false low = by_alike alike.1 low

        -- an entry with a verb marks the cut, or does the same on both lines
        with_verb : (t : ℕ) (e : Entry) (r s : Registers) (z : ℤ) (b : Buffer) → On t e r s z b → rearrangement_acts e ≡ true → Same e r s z b
        unfolding On m
        with_verb t e r s z b on verb = by_place (cases_lt (rearrangement_from e r (moved_on gs z b)) (length gs))
          where
            by_place : ((rearrangement_from e r (moved_on gs z b) < length gs) ⊎ (length gs ≤ rearrangement_from e r (moved_on gs z b))) → Same e r s z b
            by_place (inl low) = absurd (on.unmarked (crosses e r z b on.fits_whole on.right on.sound low))
            by_place (inr high) =
                let some = front.0 in
                let whole : rearrangement_from e r (moved_on gs z b) ≡ min (set_at e r (moved_on gs z b)).start ((set_at e r (moved_on gs z b)).end - back_by e) = from_verb e r (moved_on gs z b) verb in
                let part : rearrangement_from e s b ≡ min (set_at e s b).start ((set_at e s b).end - back_by e) = from_verb e s b verb in
                let first : (set_at e r (moved_on gs z b)).start ≡ length gs + (set_at e s b).start = start_moved t e r s z b on.alike (omega (arith, high, whole)) in
                let last : (set_at e r (moved_on gs z b)).end ≡ length gs + (set_at e s b).end = end_moved t e r s z b on.alike (omega (arith, high, whole)) in
                both_moved e r s z b first last (omega (arith, high, whole, part, first, last, some))

        same : (t : ℕ) (e : Entry) (r s : Registers) (z : ℤ) (b : Buffer) → On t e r s z b → Same e r s z b
        unfolding Same
        same t e r s z b on = by_verb (rearrangement_acts e) refl
          where
            by_verb : (t : Bool) → rearrangement_acts e ≡ t → (acts e r (moved_on gs z b)).buffer ≡ moved_on gs z (acts e s b).buffer
            by_verb true verb = with_verb t e r s z b on verb
            by_verb false none = idles e r (moved_on gs z b) none ∙ sym (ap (moved_on gs z) (idles e s b none))

        registers_alike : (t : ℕ) (e : Entry) (r s : Registers) (z : ℤ) (b : Buffer) → On t e r s z b → Alike gs e.new_state (acts e r (moved_on gs z b)).registers (acts e s b).registers
        unfolding On Alike
        registers_alike t e r s z b on =
            rw (registers_of e r (moved_on gs z b), registers_of e s b) (by_start (has_flag e 0x8000), by_end (has_flag e 0x2000))
          where
            by_start : (h : Bool) → (cond h (length gs + b.cursor) r.start ≡ length gs + cond h b.cursor s.start) ⊎ (cond h (length gs + b.cursor) r.start < length gs)
            by_start true = inl refl
            by_start false = on.alike.0

            by_end : (h : Bool) → (cond h (min (length gs + b.cursor + 1) (length (gs ++ b.line))) r.end ≡ length gs + cond h (min (b.cursor + 1) (length b.line)) s.end) ⊎ (cond h (min (length gs + b.cursor + 1) (length (gs ++ b.line))) r.end ≤ length gs + 1)
            by_end true = inl (omega (arith, length-append gs b.line))
            by_end false = on.alike.1

        -- at the cut
        homed : (t : ℕ) (e : Entry) (r : Registers) (z : ℤ) (b : Buffer) → AtCut t e r z b → Alike gs 0 (acts e r (moved_on gs z b)).registers fresh
        unfolding AtCut
        homed t e r z b at =
            let first = at.front in
            rw (registers_of e r (moved_on gs z b)) (set_at_cut gs 0 e r fresh (moved_on gs z b) (omega (arith, first)) at.arrived (omega arith))

        agreed : (t : ℕ) (e f : Entry) (r : Registers) (z : ℤ) (b : Buffer) → AtCut t e r z b → Alike gs e.new_state (acts e r (moved_on gs z b)).registers (acts f fresh b).registers
        unfolding AtCut
        agreed t e f r z b at =
            let first = at.front in
            rw (registers_of e r (moved_on gs z b), registers_of f fresh b)
            (set_at_cut gs e.new_state e r (set_at f fresh b) (moved_on gs z b) (omega (arith, first)) at.arrived
            (chosen (λ (k : ℕ). k ≤ 0) (has_flag f 0x8000) b.cursor 0 (λ _. omega (arith, first)) (λ _. omega arith)))

        moves : MovesOn m Near gs Reached fresh (Alike gs) Marked (IsOf (Back c)) Sound
        unfolding m On AtCut Near Same Alike
        moves = record {
          begun = λ r n k arrived fit fit_part. let low = arrived.0 in let high = arrived.2 in near_cut gs 0 r fresh low (omega (arith, high)) (omega arith);
          passed = λ t r s alike. alike;
          moved = λ t e r s z b on. by_equation gs z (acts e r (moved_on gs z b)).buffer (acts e s b).buffer (same t e r s z b on) (rw (keeps e s b on.fits_part).budget on.budget);
          alike = λ t e r s z b on inside. registers_alike t e r s z b on;
          homed = λ t e r z b at stays home. homed t e r z b at;
          agreed = λ t e f r z b at agrees. agreed t e f r z b at;
        }

        marks : KeepsMarks m Near gs Marked (IsOf (Back c)) Sound
        unfolding m Marked
        marks = record {
          cut = λ z b some first more right sound. over_cut (length gs + b.cursor - 1) (length gs + b.cursor + 1) z b (omega (arith, some, first)) (omega (arith, first)) right sound;
          marks = λ b marked is. marked (unsafe_open c b (Some (b.cursor - 1)) (Some (b.cursor + 1)) is);
          acts = λ e r b fit sound marked is. marked (unsafe_open c b (Some (rearrangement_from e r b)) (Some (b.cursor + 1)) (acts_open e r b fit sound is));
          spends = λ e r b fit. rw (keeps e r b fit).budget (omega arith);
        }

      -- the laws of a cut
      is_lawful : IsCutLawful m Near Reached fresh Alike Marked (IsOf (Front c)) (IsOf (Back c)) Sound
      is_lawful = record {
        front = keeps_line (Front c);
        behind = λ gs front. record { local = is_local; closed = is_closed; moves = moves gs front; marks = marks gs front; back = keeps_line (Back c); sound = sound_stays };
      }

-- Where a line rises to clusters from c on, and c is not open behind the run, the run leaves the parts, and the runs over
-- these come to their ends.
pub parted : (bound : ℕ) (on : ℕ → Bool) (table : TableValue Entry) (c q : ℕ) (b : Buffer) → All (λ (g : hb_glyph_info_t). g.cluster < c) (take q b.line) → All (λ (g : hb_glyph_info_t). c ≤ g.cluster) (drop q b.line)
    → ClustersMerge b.cluster_level → IsRisingLine b.line → CutOf on table (rearrangement_closing bound) Near (λ line. is_open c line ≡ true → ⊥) q b → RunsParted on table (rearrangement_closing bound) q b
unfolding acts m Marked Front Back Sound
parted bound on table c q b front back level rising cut =
    let inside = inside_of on table (rearrangement_closing bound) Near (λ line. is_open c line ≡ true → ⊥) q b cut in
    let some = inside.0 in
    let within = inside.1 in
    runs_parted on table (rearrangement_closing bound) Near (keeps_fit bound) passes_fit (pays_in_place (acts bound) Near (keeps bound)) (keeps_settings bound) (lengthens_in_place (acts bound) Near (keeps bound))
    (makes_no_positions bound) fits_fresh (λ _. keeps_place bound)
    (Reached bound on table) (Alike bound on table) (Marked bound on table c) (IsOf (Front c)) (IsOf (Back c)) (Sound bound on table) (is_lawful bound on table c) q b
    (omega (arith, some, within, length-take q b.line), front) (omega (arith, within, length-drop q b.line), back) (level, rising) cut

pub leaves_parts : (bound : ℕ) (on : ℕ → Bool) (table : TableValue Entry) (c q : ℕ) (b : Buffer) → All (λ (g : hb_glyph_info_t). g.cluster < c) (take q b.line) → All (λ (g : hb_glyph_info_t). c ≤ g.cluster) (drop q b.line)
    → ClustersMerge b.cluster_level → IsRisingLine b.line → IsCutPlace on table (rearrangement_closing bound) (λ line. is_open c line ≡ true → ⊥) q b → LeavesItsParts on table (rearrangement_closing bound) q b
leaves_parts bound on table c q b front back level rising cut = (parted bound on table c q b front back level rising (AtOn cut)).parts
