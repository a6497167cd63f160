-- The whole run leaves what the runs over its parts leave, one behind the other.
use Rattle.std.proofs.Common.{◌≡◌, ◌∙◌, ◌⊎◌, inl, inr, ℕ, ◌+◌, ◌-◌, ◌<◌, ◌≤◌, true, false, List, ◌++◌, length, take, drop, Some, refl, ap, subst, sym, arith, length-append, length-take, length-drop}
use Rattle.std.proofs.lemmas.Bool.Decides.{nat_tests}
use Rattle.std.proofs.lemmas.List.{take-append-drop, get_or-drop}
use Rattle.aat_buffer.specs.Buffer.{Buffer, no_glyph, with_line}
use Rattle.aat_buffer.specs.Marks.{cluster_at}
use Rattle.aat_buffer.specs.facts.Cases.{chosen}
use Rattle.aat_buffer.specs.facts.Lines.{length_unsafe}
use Rattle.aat_glyph.specs.declared.glyph.hb_glyph_info_t.{hb_glyph_info_t}
use Rattle.aat_run.specs.Budget.{operations_left}
use Rattle.aat_run.specs.Context.{Config, Machine, cluster_seen, first_config, is_at_end, is_inside}
use Rattle.aat_run.specs.Laws.{FitsFresh, KeepsFit, KeepsSettings, Lengthens, PassesFit, Pays, SameSettings, Stands}
use Rattle.aat_run.specs.Machine.{Ends, Goes, Turn, acted, by_entry, counted, left_by, marked, off, break_marked_at, run_to_end, turn}
use Rattle.aat_run.specs.facts.MachineRuns.{buffer_kept, paid_less, turn_keeps, turn_when_off, whole_step}
use Rattle.aat_run.specs.facts.Runs.{followed}
use Rattle.aat_run.specs.facts.Settings.{settings_then}
use Rattle.aat_cut_kinds.specs.CutLaws.{IsCutLawful, IsIdle, IsLawfulBehind, IsLocal, IsSound}
use Rattle.aat_cut_kinds.specs.Parts.{LeftInParts, back_part, front_part, moved_on}
use Rattle.aat_cut_kinds.specs.facts.BackRuns.{IsGood, whole_runs_as_back}
use Rattle.aat_cut_kinds.specs.facts.CutTurns.{end_is_idle, has_entry, runs_alike}
use Rattle.aat_cut_kinds.specs.facts.FrontRuns.{ComesToCut, joined, whole_runs_as_front}
use Rattle.aat_cut_kinds.specs.facts.Inside.{at_its_end, not_at_end, seen_in_back}

module _ {R E : Type 0} (m : Machine R E) (fits : R → ℕ → ℕ → Type 0) (Left Right : List hb_glyph_info_t → Type 0) (local : IsLocal m fits Left Right) (keeps : KeepsFit m.act fits) (passes : PassesFit fits) (pays : Pays m.act fits) where
  -- at the end of the line an idle entry ends the run, with the buffer as it is
  module _ (g : E) (idle : IsIdle m fits g) (c : Config R) (past : length c.buffer.line ≤ c.buffer.cursor) (entry : m.entry c.state 0 ≡ Some g) (stands : Stands fits c) where
    -- a turn that ends with it
    IsOver : Turn (Config R) → Type 0
    IsOver (Ends d) = d.buffer ≡ c.buffer
    IsOver (Goes d) = ⊥

    not_inside : is_inside c.buffer ≡ false
    not_inside = grind (arith, nat_tests, past)

    over_off : IsOver (off m (counted m c))
    unfolding off IsOver
    over_off = rw (at_its_end c.buffer past) refl

    over_acted : IsOver (acted m g (counted m c))
    unfolding acted marked IsOver
    over_acted =
        let same = by_mark (local.idle g c.registers c.buffer idle) in
        rw (not_inside, same, at_its_end c.buffer past) refl
      where
        by_mark : ((m.act g c.registers c.buffer).buffer ≡ c.buffer) ⊎ ((is_inside c.buffer ≡ true) × ((m.act g c.registers c.buffer).buffer ≡ break_marked_at c.buffer)) → (m.act g c.registers c.buffer).buffer ≡ c.buffer
        by_mark (inl same) = same
        by_mark (inr marks) = absurd (let e : false ≡ true = sym not_inside ∙ marks.0 in cc)

    over : IsOver (turn m c)
    unfolding turn by_entry
    over = rw (at_its_end c.buffer past, entry) (chosen IsOver (m.on c.last) (acted m g (record c { last = c.last; turns = c.turns + 1 })) (off m (record c { last = c.last; turns = c.turns + 1 })) (λ _. rw (at_its_end c.buffer past) at over_acted) (λ _. rw (at_its_end c.buffer past) at over_off))

    ended : (t : Turn (Config R)) → IsOver t → (followed (run_to_end m) t).buffer ≡ c.buffer
    unfolding IsOver
    ended (Ends d) h = h
    ended (Goes d) h = absurd h

    pub ends_there : (run_to_end m c).buffer ≡ c.buffer
    ends_there = rw (whole_step m fits keeps passes pays c stands) (ended (turn m c) over)

module _ {R E : Type 0} (m : Machine R E) (fits : R → ℕ → ℕ → Type 0) (keeps : KeepsFit m.act fits) (passes : PassesFit fits) (pays : Pays m.act fits)
    (settings : KeepsSettings m.act fits) (lengthens : Lengthens m.act fits)
    (reached : ℕ → Type 0) (fresh : R) (Alike : List hb_glyph_info_t → ℕ → R → R → Type 0) (Marked Left Right : List hb_glyph_info_t → Type 0) (Sound : ℕ → List hb_glyph_info_t → Type 0)
    (lawful : IsCutLawful m fits reached fresh Alike Marked Left Right Sound) (fits_fresh : FitsFresh fits fresh) (b : Buffer) (q : ℕ) (begins : b.cursor ≡ 0) (behind_first : 0 < q) (before_end : q < length b.line)
    (places : (e : E) (r : R) (d : Buffer) → fits r d.cursor (length d.line) → d.positions ≡ b.positions → (m.act e r d).buffer.positions ≡ b.positions)
  where
    -- what a run over the front part keeps
    pub record Along (d : Buffer) : Type 0 where
      left : Left d.line
      settings_kept : SameSettings b d
      positions : d.positions ≡ b.positions
      budget : operations_left d.max_ops ≤ operations_left b.max_ops
      long : q ≤ length d.line

    along : (c : Config R) → Stands fits c → Along c.buffer → Along (left_by (turn m c)).buffer
    along c stands h =
        turn_keeps m fits keeps passes pays Along
        (λ d k. record {
          left = lawful.front.marks d k.left;
          settings_kept = record { direction = k.settings_kept.direction; cluster_level = k.settings_kept.cluster_level; flags = k.settings_kept.flags; scratch_flags = k.settings_kept.scratch_flags; max_len = k.settings_kept.max_len; successful = k.settings_kept.successful };
          positions = k.positions;
          budget = k.budget;
          long = rw (length_unsafe d (Some (d.cursor - 1)) (Some (d.cursor + 1))) k.long;
        })
        (λ e r d fit k. record {
          left = lawful.front.acts e r d fit k.left;
          settings_kept = settings_then b d _ k.settings_kept (settings e r d fit);
          positions = places e r d fit k.positions;
          budget = omega (arith, k.budget, (lawful.behind d.line k.left).marks.spends e r d fit);
          long = omega (arith, k.long, lengthens e r d fit);
        })
        (λ d k. record {
          left = k.left;
          positions = k.positions;
          budget = k.budget;
          long = k.long;
          settings_kept = record { direction = k.settings_kept.direction; cluster_level = k.settings_kept.cluster_level; flags = k.settings_kept.flags; scratch_flags = k.settings_kept.scratch_flags; max_len = k.settings_kept.max_len; successful = k.settings_kept.successful };
        })
        (λ d k. record {
          left = k.left;
          positions = k.positions;
          long = k.long;
          budget = omega (arith, k.budget, paid_less 1 d.max_ops);
          settings_kept = record { direction = k.settings_kept.direction; cluster_level = k.settings_kept.cluster_level; flags = k.settings_kept.flags; scratch_flags = k.settings_kept.scratch_flags; max_len = k.settings_kept.max_len; successful = k.settings_kept.successful };
        })
        c stands h

    -- and what its turns before the end keep besides
    module _ (More : Config R → Type 0) (more : (c : Config R) → Stands fits c → c.buffer.cursor < length c.buffer.line → Along c.buffer → More c → More (left_by (turn m c)))
        (begun : Left (take q b.line)) (right : Right (drop q b.line)) (sound : IsSound Sound b) (more_first : More (first_config (front_part q b) fresh))
      where
        local : IsLocal m fits Left Right
        local = (lawful.behind (take q b.line) begun).local

        -- where the three runs begin
        abbrev pub first_whole : Config R
        first_whole = first_config b fresh

        abbrev pub first_front : Config R
        first_front = first_config (front_part q b) fresh

        abbrev pub first_back : Config R
        first_back = first_config (back_part q b) fresh

        abbrev pub glyphs : List hb_glyph_info_t
        glyphs = drop q b.line

        is_joined : joined m fits Left Right local lawful.front glyphs right first_front ≡ first_whole
        is_joined = ap (λ (line : List hb_glyph_info_t). first_config (with_line b line) fresh) (take-append-drop q b.line)

        long_front : length (take q b.line) ≡ q
        long_front = length-take q b.line ∙ omega (arith, before_end)

        long_back : 0 < length (drop q b.line)
        long_back = omega (arith, length-drop q b.line, before_end)

        sound_kept : (c : Config R) → Stands fits c → IsSound Sound c.buffer → IsSound Sound (left_by (turn m c)).buffer
        sound_kept = let law = (lawful.behind (take q b.line) begun).sound in turn_keeps m fits keeps passes pays (IsSound Sound) law.marks law.acts (λ d h. h) (λ d h. h)

        abbrev pub Kept : Config R → Type 0
        Kept c = Along c.buffer × More c

        kept : (c : Config R) → Stands fits c → c.buffer.cursor < length c.buffer.line → Kept c → Kept (left_by (turn m c))
        kept c stands below h = (along c stands h.0, more c stands below h.0 h.1)

        abbrev pub Through : Type 0
        Through = length (run_to_end m first_whole).buffer.line ≤ (run_to_end m first_whole).buffer.cursor

        cut : Through → ComesToCut m fits Left Right local lawful.front glyphs right reached (lawful.behind (take q b.line) begun).closed keeps passes pays Kept kept (λ c h. h.0.left) (IsSound Sound) sound_kept first_front
        cut through =
            whole_runs_as_front m fits Left Right local lawful.front glyphs right reached (lawful.behind (take q b.line) begun).closed keeps passes pays Kept kept (λ c h. h.0.left) (IsSound Sound) sound_kept first_front
            (rw begins (fits_fresh (length (take q b.line)))) (rw begins (fits_fresh (length (take q b.line ++ drop q b.line)))) (rw is_joined through) (lawful.behind (take q b.line) begun).closed.first
            (record { left = begun; settings_kept = record { direction = refl; cluster_level = refl; flags = refl; scratch_flags = refl; max_len = refl; successful = refl }; positions = refl; budget = omega arith; long = rw long_front (omega arith) }, more_first)
            (subst (λ (c : Config R). IsSound Sound c.buffer) (sym is_joined) sound)
            (omega (arith, begins))

        module _ (through : Through) where
          -- the line at the cut, and the laws behind it
          gs : List hb_glyph_info_t
          gs = (cut through).at.buffer.line

          behind : IsLawfulBehind m fits reached fresh (Alike gs) Marked Left Right Sound gs
          unfolding gs
          behind = lawful.behind (cut through).at.buffer.line (cut through).holds.0.left

          some : 0 < length gs
          unfolding gs
          some = omega (arith, (cut through).holds.0.long, behind_first)

          at_cut : Config R
          unfolding gs
          at_cut = record { buffer = moved_on gs (cut through).at.buffer.max_ops (back_part q b); registers = (cut through).at.registers; state = (cut through).at.state; last = (cut through).at.last; turns = (cut through).at.turns }

          is_at_cut : joined m fits Left Right local lawful.front glyphs right (cut through).at ≡ at_cut
          unfolding at_cut gs
          is_at_cut =
              let there : (cut through).at.buffer.cursor ≡ length (cut through).at.buffer.line + b.cursor = omega (arith, (cut through).end, begins) in
              let same = (cut through).holds.0.settings_kept in
              λ i. record (cut through).at {
                buffer = record {
                  line = (cut through).at.buffer.line ++ drop q b.line;
                  cursor = there i;
                  positions = (cut through).holds.0.positions i;
                  direction = same.direction i;
                  cluster_level = same.cluster_level i;
                  flags = same.flags i;
                  scratch_flags = same.scratch_flags i;
                  max_ops = (cut through).at.buffer.max_ops;
                  max_len = same.max_len i;
                  successful = same.successful i;
                };
              }

          ends_as : run_to_end m at_cut ≡ run_to_end m first_whole
          ends_as = sym (ap (run_to_end m) is_at_cut) ∙ ((cut through).whole ∙ ap (run_to_end m) is_joined)

          -- the rest of the run adds nothing to the budget
          spends_from_cut : Stands fits at_cut → operations_left (run_to_end m at_cut).buffer.max_ops ≤ operations_left (cut through).at.buffer.max_ops
          unfolding at_cut gs
          spends_from_cut stands =
              buffer_kept m fits keeps passes pays (λ d. operations_left d.max_ops ≤ operations_left (cut through).at.buffer.max_ops)
              (λ d k. k) (λ e r d fit k. let less = behind.marks.spends e r d fit in omega (arith, k, less)) (λ d k. k) (λ d k. let less = paid_less 1 d.max_ops in omega (arith, k, less)) at_cut stands (omega arith)

          seen_at_cut : cluster_seen (back_part q b) 0 ≡ cluster_at b.line q
          seen_at_cut =
              let below : (back_part q b).cursor < length (back_part q b).line = omega (arith, begins, long_back) in
              let place : q + b.cursor ≡ q = omega (arith, begins) in
              rw (not_at_end (back_part q b) below, get_or-drop q b.line b.cursor no_glyph, place) refl

          seen_alike : (last : ℕ) → cluster_seen (back_part q b) last ≡ cluster_seen (back_part q b) 0
          seen_alike last =
              let below : (back_part q b).cursor < length (back_part q b).line = omega (arith, begins, long_back) in
              rw (not_at_end (back_part q b) below) refl

          -- what the whole run leaves the runs over the parts leave, with no smaller budget, and these come to their ends
          pub record Parted : Type 0 where
            pub parts : LeftInParts (run_to_end m first_whole).buffer (run_to_end m first_front).buffer (run_to_end m first_back).buffer
            pub front_through : length (run_to_end m first_front).buffer.line ≤ (run_to_end m first_front).buffer.cursor
            pub back_through : length (run_to_end m first_back).buffer.line ≤ (run_to_end m first_back).buffer.cursor

          -- where the front part ends at the cut, and the back part as the whole does from there on
          assembled : Stands fits at_cut → (run_to_end m (cut through).at).buffer ≡ (cut through).at.buffer
              → (((run_to_end m at_cut).buffer.line ≡ gs ++ (run_to_end m first_back).buffer.line) × (operations_left (run_to_end m at_cut).buffer.max_ops ≤ operations_left (run_to_end m first_back).buffer.max_ops)
              × ((run_to_end m at_cut).buffer.cursor ≡ length gs + (run_to_end m first_back).buffer.cursor))
              → Parted
          unfolding at_cut gs
          assembled stands_whole over same =
              let front : (run_to_end m first_front).buffer ≡ (cut through).at.buffer = ap (λ (c : Config R). c.buffer) (sym (cut through).front) ∙ over in
              let whole = ap (λ (c : Config R). c.buffer) (sym ends_as) in
              let ops : operations_left (run_to_end m first_whole).buffer.max_ops ≡ operations_left (run_to_end m at_cut).buffer.max_ops = ap (λ (d : Buffer). operations_left d.max_ops) whole in
              let kept : operations_left (run_to_end m first_front).buffer.max_ops ≡ operations_left (cut through).at.buffer.max_ops = ap (λ (d : Buffer). operations_left d.max_ops) front in
              let spent = spends_from_cut stands_whole in
              let came : (run_to_end m first_front).buffer.cursor ≡ length (run_to_end m first_front).buffer.line = ap (λ (d : Buffer). d.cursor) front ∙ ((cut through).end ∙ ap (λ (d : Buffer). length d.line) (sym front)) in
              let there : length (run_to_end m at_cut).buffer.line ≤ (run_to_end m at_cut).buffer.cursor = rw ends_as through in
              let long : length (run_to_end m at_cut).buffer.line ≡ length gs + length (run_to_end m first_back).buffer.line = ap length same.0 ∙ length-append gs (run_to_end m first_back).buffer.line in
              record {
                parts = record {
                  line = ap (λ (d : Buffer). d.line) whole ∙ (same.0 ∙ ap (λ (d : Buffer). d.line ++ (run_to_end m first_back).buffer.line) (sym front));
                  front_budget = omega (arith, ops, kept, spent);
                  back_budget = (let more = same.1 in omega (arith, ops, more));
                };
                front_through = omega (arith, came);
                back_through = (let place = same.2 in omega (arith, place, there, long));
              }

          pub parted : m.on (cluster_at b.line q) ≡ true → (Marked (run_to_end m first_whole).buffer.line → ⊥) → 0 < operations_left (run_to_end m first_whole).buffer.max_ops
              → Parted
          unfolding at_cut gs
          parted on unmarked enough =
              let stands_whole : Stands fits at_cut = subst (Stands fits) is_at_cut (cut through).stands_whole in
              let stands_part : Stands fits first_back = rw begins (fits_fresh (length (drop q b.line))) in
              let good : IsGood m fits gs reached fresh (Alike gs) Marked Left Right Sound behind (run_to_end m at_cut).buffer = rw ends_as (record { unmarked = unmarked; enough = enough }) in
              let seen : m.on (cluster_seen (back_part q b) 0) ≡ true = ap m.on seen_at_cut ∙ on in
              let sound_at_cut : Sound b.cluster_level (gs ++ drop q b.line) = subst (λ (c : Config R). IsSound Sound c.buffer) is_at_cut (cut through).holds_whole in
              let arrived : fits (cut through).at.registers (length gs) (length gs) = rw (cut through).end at (cut through).stands in
              let e = has_entry m fits gs reached fresh (Alike gs) Marked Left Right Sound behind some keeps passes pays (cut through).at.buffer.max_ops (cut through).at.registers (cut through).at.state (cut through).at.last (cut through).at.turns (back_part q b) begins long_back seen (cut through).is_reached right sound_at_cut arrived (cut through).holds.0.budget
              stands_whole stands_part good (rw ends_as through) in
              let end = end_is_idle m fits gs reached fresh (Alike gs) Marked Left Right Sound behind some keeps passes pays (cut through).at.buffer.max_ops (cut through).at.registers (cut through).at.state (cut through).at.last (cut through).at.turns (back_part q b) begins long_back seen (cut through).is_reached right sound_at_cut arrived (cut through).holds.0.budget
              stands_whole stands_part good e.0 e.1 in
              let same = runs_alike m fits gs reached fresh (Alike gs) Marked Left Right Sound behind some keeps passes pays (cut through).at.buffer.max_ops (cut through).at.registers (cut through).at.state (cut through).at.last (cut through).at.turns (back_part q b) begins long_back seen (cut through).is_reached right sound_at_cut arrived (cut through).holds.0.budget
              stands_whole stands_part good e.0 e.1 in
              let over = ends_there m fits Left Right local keeps passes pays end.0 end.2 (cut through).at (omega (arith, (cut through).end)) end.1 (cut through).stands in
              assembled stands_whole over same

          -- where the machine is off on both sides of the cut, the front part ends without an act, and the turn at the cut goes to
          -- state 0
          module _ (off_behind : m.on (cluster_at b.line q) ≡ false)
              (off_before : (c : Config R) → Along c.buffer → More c → c.buffer.cursor ≡ length c.buffer.line → (w : Config R) → w.buffer.line ≡ c.buffer.line ++ drop q b.line → Stands fits w → run_to_end m w ≡ run_to_end m first_whole → m.on c.last ≡ false)
            where
              stands_at_cut : Stands fits at_cut
              stands_at_cut = subst (Stands fits) is_at_cut (cut through).stands_whole

              at_zero : Config R
              at_zero = record at_cut { state = 0 }

              below_at_cut : at_cut.buffer.cursor < length at_cut.buffer.line
              unfolding at_cut
              below_at_cut = omega (arith, begins, long_back, length-append gs (drop q b.line))

              seen_off : m.on (cluster_seen at_cut.buffer at_cut.last) ≡ false
              unfolding at_cut
              seen_off = ap m.on (seen_in_back gs (cut through).at.buffer.max_ops (back_part q b) (cut through).at.last ∙ (seen_alike (cut through).at.last ∙ seen_at_cut)) ∙ off_behind

              from_zero : run_to_end m at_cut ≡ run_to_end m at_zero
              unfolding at_zero off
              from_zero =
                  let here : turn m at_cut ≡ turn m at_zero = turn_when_off m at_cut seen_off ∙ (rw (not_at_end at_cut.buffer below_at_cut) refl ∙ sym (turn_when_off m at_zero seen_off)) in
                  whole_step m fits keeps passes pays at_cut stands_at_cut ∙ (ap (followed (run_to_end m)) here ∙ sym (whole_step m fits keeps passes pays at_zero stands_at_cut))

              off_at_end : m.on (cut through).at.last ≡ false
              off_at_end =
                  off_before (cut through).at (cut through).holds.0 (cut through).holds.1 (cut through).end (joined m fits Left Right local lawful.front glyphs right (cut through).at) refl (cut through).stands_whole
                  ((cut through).whole ∙ ap (run_to_end m) is_joined)

              over_at_end : (run_to_end m (cut through).at).buffer ≡ (cut through).at.buffer
              unfolding off
              over_at_end =
                  let past : is_at_end (cut through).at.buffer ≡ true = at_its_end (cut through).at.buffer (omega (arith, (cut through).end)) in
                  let seen : cluster_seen (cut through).at.buffer (cut through).at.last ≡ (cut through).at.last = rw past refl in
                  let over : turn m (cut through).at ≡ Ends (counted m (cut through).at) = turn_when_off m (cut through).at (ap m.on seen ∙ off_at_end) ∙ rw past refl in
                  ap (λ (c : Config R). c.buffer) (whole_step m fits keeps passes pays (cut through).at (cut through).stands ∙ ap (followed (run_to_end m)) over)

              pub passed_over : (Marked (run_to_end m first_whole).buffer.line → ⊥) → 0 < operations_left (run_to_end m first_whole).buffer.max_ops → Parted
              unfolding at_zero at_cut gs
              passed_over unmarked enough =
                  let stands_part : Stands fits first_back = rw begins (fits_fresh (length (drop q b.line))) in
                  let good : IsGood m fits gs reached fresh (Alike gs) Marked Left Right Sound behind (run_to_end m at_zero).buffer = rw (sym from_zero, ends_as) (record { unmarked = unmarked; enough = enough }) in
                  let sound_at_cut : Sound b.cluster_level (gs ++ drop q b.line) = subst (λ (c : Config R). IsSound Sound c.buffer) is_at_cut (cut through).holds_whole in
                  let arrived : fits (cut through).at.registers (length gs) (length gs) = rw (cut through).end at (cut through).stands in
                  let place : length gs + b.cursor ≡ length gs = omega (arith, begins) in
                  let fits_at_cut : fits (cut through).at.registers (length gs) (length (gs ++ drop q b.line)) = rw place at stands_at_cut in
                  let alike = behind.moves.begun (cut through).at.registers (length (gs ++ drop q b.line)) (length (drop q b.line)) arrived fits_at_cut (fits_fresh (length (drop q b.line))) in
                  let both =
                  whole_runs_as_back m fits gs reached fresh (Alike gs) Marked Left Right Sound behind keeps passes pays at_zero first_back stands_at_cut stands_part
                  (record { budget = (cut through).at.buffer.max_ops; registers = (cut through).at.registers; last = (cut through).at.last; turns = (cut through).at.turns; is = refl; lower = (cut through).holds.0.budget; seen = seen_alike (cut through).at.last; alike = alike; known = behind.closed.first; right = right; sound = sound_at_cut })
                  good in
                  assembled stands_at_cut over_at_end (rw (← from_zero) at both)
