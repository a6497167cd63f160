-- The turn at the cut: the entry for the end of the text does nothing there, and the back part begins as the run goes on.
use Rattle.std.proofs.Common.{◌≡◌, ◌∙◌, ◌⊎◌, inl, inr, ℕ, ℤ, ◌+◌, ◌<◌, ◌≤◌, ◌==◌, ◌&&◌, not, Bool, true, false, cond, List, ◌++◌, length, Option, Some, None, refl, ap, subst, sym, arith, length-append}
use Rattle.std.proofs.lemmas.Bool.Decides.{nat_tests}
use Rattle.std.specs.Int.{int_max}
use Rattle.std.specs.Prelude.{int_lt, negsuc, pos, ◌-ℤ◌}
use Rattle.aat_buffer.specs.Buffer.{Buffer}
use Rattle.aat_buffer.specs.facts.Cases.{chosen, either}
use Rattle.aat_glyph.specs.declared.glyph.hb_glyph_info_t.{hb_glyph_info_t}
use Rattle.aat_lookup.specs.Truth.{is_alike, is_some_and}
use Rattle.aat_run.specs.Budget.{has_operations, operations_left, paid}
use Rattle.aat_run.specs.Context.{Config, Machine, Moved, class_at, cluster_seen, is_at_end, is_inside}
use Rattle.aat_run.specs.Laws.{KeepsFit, PassesFit, Pays, Stands}
use Rattle.aat_run.specs.Machine.{Ends, Goes, Turn, acted, behind_act, break_marked_at, by_entry, counted, left_by, marked, passed, run_to_end, settled_by, stepped, turn}
use Rattle.aat_run.specs.Safe.{is_safe}
use Rattle.aat_run.specs.facts.MachineRuns.{cursor_of_marked, length_of_marked, paid_less, turn_falls, turn_when_on, whole_step}
use Rattle.aat_run.specs.facts.Runs.{followed}
use Rattle.aat_run.specs.inside.Branches.{acts}
use Rattle.aat_cut_kinds.specs.CutLaws.{IdlesAtCut, IsIdle, IsLawfulBehind, IsSound}
use Rattle.aat_cut_kinds.specs.Parts.{moved_on}
use Rattle.aat_cut_kinds.specs.facts.BackRuns.{HasBoth, IsGood, ahead, behind_turns, both_settled, good_before, good_turn, has_paid, whole_runs_as_back}
use Rattle.aat_cut_kinds.specs.facts.Inside.{class_in_back, not_at_end, same_end, seen_in_back}
use Rattle.aat_cut_kinds.specs.facts.SafeReads.{alike_is, both, found, none_of, reads}

-- what is settled behind an entry that stays, where some of the budget is left
stayed : {R : Type 0} (a : Bool) (c : Config R) → a ≡ false → is_at_end c.buffer ≡ false → has_operations c.buffer ≡ true → settled_by (stepped a) c ≡ Goes (record c { buffer = paid 1 c.buffer })
stayed a c stays inside has = rw (stays, inside, has) refl

module _ {R E : Type 0} (m : Machine R E) (fits : R → ℕ → ℕ → Type 0) (gs : List hb_glyph_info_t) (reached : ℕ → Type 0) (fresh : R) (Alike : ℕ → R → R → Type 0) (Marked Left Right : List hb_glyph_info_t → Type 0)
    (Sound : ℕ → List hb_glyph_info_t → Type 0) (lawful : IsLawfulBehind m fits reached fresh Alike Marked Left Right Sound gs) (some : 0 < length gs)
    (keeps : KeepsFit m.act fits) (passes : PassesFit fits) (pays : Pays m.act fits)
    (z : ℤ) (r : R) (s last n : ℕ) (b : Buffer)
    (front : b.cursor ≡ 0) (more : 0 < length b.line) (on : m.on (cluster_seen b 0) ≡ true) (known : reached s) (right : Right b.line) (sound : Sound b.cluster_level (gs ++ b.line)) (arrived : fits r (length gs) (length gs)) (low : operations_left z ≤ operations_left b.max_ops)
  where
    -- the run over the whole line at the cut, and that over the back part at its front
    abbrev pub whole : Config R
    whole = record { buffer = moved_on gs z b; registers = r; state = s; last = last; turns = n }

    abbrev pub part : Config R
    part = record { buffer = b; registers = fresh; state = 0; last = 0; turns = 0 }

    below : b.cursor < length b.line
    below = omega (arith, front, more)

    long : length (gs ++ b.line) ≡ length gs + length b.line
    long = length-append gs b.line

    inside_whole : is_inside (moved_on gs z b) ≡ true
    inside_whole = grind (arith, nat_tests, long, below, some)

    not_inside : is_inside b ≡ false
    not_inside = grind (arith, nat_tests, front)

    x : ℕ
    x = cluster_seen b 0

    same_seen : (l : ℕ) → cluster_seen b l ≡ x
    unfolding x
    same_seen l = rw (not_at_end b below) refl

    abbrev pub k : ℕ
    k = class_at m.class_of b

    seen_whole : cluster_seen (moved_on gs z b) last ≡ x
    seen_whole = seen_in_back gs z b last ∙ same_seen last

    module _ (stands_whole : Stands fits whole) (stands : Stands fits part) (good : IsGood m fits gs reached fresh Alike Marked Left Right Sound lawful (run_to_end m whole).buffer) where
      -- where the run comes to the end of the line, there is an entry at the cut
      pub has_entry : length (run_to_end m whole).buffer.line ≤ (run_to_end m whole).buffer.cursor → (e : E) × (m.entry s k ≡ Some e)
      unfolding by_entry x
      has_entry through = by_found (m.entry s k) refl
        where
          by_found : (o : Option E) → m.entry s k ≡ o → (e : E) × (m.entry s k ≡ Some e)
          by_found (Some e) is = (e, is)
          by_found None is =
              let turned : turn m whole ≡ Ends (counted m whole) = turn_when_on m whole (ap m.on seen_whole ∙ on) ∙ ap (λ (o : Option E). by_entry m o (counted m whole)) (ap (m.entry s) (class_in_back gs m.class_of z b) ∙ is) in
              let step : run_to_end m whole ≡ counted m whole = rw turned at (whole_step m fits keeps passes pays whole stands_whole) in
              let there : length (gs ++ b.line) ≤ length gs + b.cursor = rw step at through in
              absurd (omega (arith, there, long, below))

      module _ (e : E) (entry : m.entry s k ≡ Some e) where
        next : reached (m.next e)
        next = lawful.closed.entries s k e known entry

        d : Config R
        d = counted m whole

        -- the turn, by its entry
        turn_is : turn m whole ≡ acted m e d
        unfolding by_entry d x
        turn_is = turn_when_on m whole (ap m.on seen_whole ∙ on) ∙ ap (λ (o : Option E). by_entry m o (counted m whole)) (ap (m.entry s) (class_in_back gs m.class_of z b) ∙ entry)

        good_acted : IsGood m fits gs reached fresh Alike Marked Left Right Sound lawful (left_by (acted m e d)).buffer
        good_acted = subst (λ (t : Turn (Config R)). IsGood m fits gs reached fresh Alike Marked Left Right Sound lawful (left_by t).buffer) turn_is (good_turn m fits gs reached fresh Alike Marked Left Right Sound lawful keeps passes pays whole stands_whole sound good)

        sound_marked : IsSound Sound (marked m e d)
        unfolding marked d
        sound_marked =
            chosen (IsSound Sound) (is_inside (moved_on gs z b) && not (is_safe m e (m.entry 0 (class_at m.class_of (moved_on gs z b))) (m.entry s 0) (counted m whole))) (break_marked_at (moved_on gs z b)) (moved_on gs z b) (λ _. lawful.sound.marks (moved_on gs z b) sound) (λ _. sound)

        clean : Marked (marked m e d).line → ⊥
        unfolding acted d
        clean h =
            let fit : fits r (marked m e d).cursor (length (marked m e d).line) = rw (length_of_marked m e d, cursor_of_marked m e d) stands_whole in
            (good_before m fits gs reached fresh Alike Marked Left Right Sound lawful (m.advances e) (behind_act (m.act e r (marked m e d)) (m.next e) d) good_acted).unmarked (lawful.marks.acts e r (marked m e d) fit sound_marked h)

        test : Bool
        test = is_safe m e (m.entry 0 (class_at m.class_of (moved_on gs z b))) (m.entry s 0) d

        by_test : (t : Bool) → (Marked (cond (not t) (break_marked_at (moved_on gs z b)) (moved_on gs z b)).line → ⊥) → t ≡ true
        by_test true h = refl
        by_test false h = absurd (h (lawful.marks.cut z b some front more right sound))

        is_safe_there : test ≡ true
        unfolding marked d test
        is_safe_there = by_test (is_safe m e (m.entry 0 (class_at m.class_of (moved_on gs z b))) (m.entry s 0) (counted m whole)) (rw inside_whole at clean)

        unmarked : marked m e d ≡ moved_on gs z b
        unfolding marked d test
        unmarked = rw (inside_whole, is_safe_there) refl

        -- the entry of state 0 does as e does, without an act
        does_alike : E → Bool
        does_alike f = not (acts m d f) && ((m.next f == m.next e) && is_alike (m.advances f) (m.advances e))

        told : (acts m d e ≡ false) × (is_some_and (m.entry s 0) (λ g. not (acts m d g)) ≡ true)
            × (((s == 0) ≡ true) ⊎ (((not (m.advances e) && (m.next e == 0)) ≡ true) ⊎ (is_some_and (m.entry 0 k) does_alike ≡ true)))
        unfolding is_safe test d does_alike
        told = reads (acts m d e) (s == 0) (not (m.advances e) && (m.next e == 0)) (is_some_and (m.entry 0 k) does_alike) (is_some_and (m.entry s 0) (λ g. not (acts m d g))) (rw (class_in_back gs m.class_of z b) at is_safe_there)

        -- an entry that is not actionable there is idle
        idle : (y : E) (t j : ℕ) → m.entry t j ≡ Some y → acts m d y ≡ false → IsIdle m fits y
        unfolding d
        idle y t j found quiet = record {
          state = t;
          class = j;
          entry = found;
          quiet = λ q p l inside. lawful.local.tested y q r p l (length gs + b.cursor) (length (gs ++ b.line)) inside (omega (arith, long, below)) ∙ quiet;
        }

        -- so the entry for the end of the text is there, and idle
        pub end_is_idle : (g : E) × (m.entry s 0 ≡ Some g) × IsIdle m fits g
        end_is_idle =
            let there = found (m.entry s 0) (λ g. not (acts m d g)) told.1 in
            (there.0, there.1, idle there.0 s 0 there.1 (none_of (acts m d there.0) there.2))

        quiet : IsIdle m fits e
        quiet = idle e s k entry told.0

        left : Moved R
        left = m.act e r (moved_on gs z b)

        -- it leaves some of the budget, and the cut without a mark
        good_left : IsGood m fits gs reached fresh Alike Marked Left Right Sound lawful left.buffer
        unfolding acted d left
        good_left = rw unmarked at (good_before m fits gs reached fresh Alike Marked Left Right Sound lawful (m.advances e) (behind_act (m.act e r (marked m e d)) (m.next e) d) good_acted)

        left_buffer : left.buffer ≡ moved_on gs z b
        unfolding left
        left_buffer = by_mark (lawful.local.idle e r (moved_on gs z b) quiet)
          where
            by_mark : ((m.act e r (moved_on gs z b)).buffer ≡ moved_on gs z b) ⊎ ((is_inside (moved_on gs z b) ≡ true) × ((m.act e r (moved_on gs z b)).buffer ≡ break_marked_at (moved_on gs z b))) → (m.act e r (moved_on gs z b)).buffer ≡ moved_on gs z b
            by_mark (inl same) = same
            by_mark (inr marks) = absurd (good_left.unmarked (subst (λ (a : Buffer). Marked a.line) (sym marks.1) (lawful.marks.cut z b some front more right sound)))

        fits_left : fits left.registers (length gs + b.cursor) (length (gs ++ b.line))
        unfolding left
        fits_left =
            let within : length gs + b.cursor < length (gs ++ b.line) = omega (arith, long, below) in
            let inside : left.buffer.cursor < length left.buffer.line = rw left_buffer within in
            rw left_buffer at (keeps e r (moved_on gs z b) stands_whole inside)

        fits_at_cut : fits r (length gs) (length (gs ++ b.line))
        fits_at_cut = let place : length gs + b.cursor ≡ length gs = omega (arith, front) in rw place at stands_whole

        fits_fresh : fits fresh 0 (length b.line)
        fits_fresh = rw front at stands

        alike_at_cut : Alike 0 r fresh
        alike_at_cut = lawful.moves.begun r (length (gs ++ b.line)) (length b.line) arrived fits_at_cut fits_fresh

        -- behind the act of the turn
        target : Config R
        target = record { buffer = b; registers = fresh; state = m.next e; last = x; turns = 1 }

        settled_whole : turn m whole ≡ settled_by (stepped (m.advances e)) (ahead m fits gs reached fresh Alike Marked Left Right Sound lawful z left.registers x (n + 1) target)
        unfolding acted d target left
        settled_whole =
            turn_is
            ∙ (ap (λ (a : Buffer). settled_by (stepped (m.advances e)) (behind_act (m.act e r a) (m.next e) (counted m whole))) unmarked
            ∙ (ap (λ (a : Buffer). settled_by (stepped (m.advances e)) (record (behind_act left (m.next e) (counted m whole)) { buffer = a })) left_buffer
            ∙ ap (λ (l : ℕ). settled_by (stepped (m.advances e)) (ahead m fits gs reached fresh Alike Marked Left Right Sound lawful z left.registers l (n + 1) target)) seen_whole))

        Same : Type 0
        Same = HasBoth m fits gs reached fresh Alike Marked Left Right Sound lawful keeps passes pays whole part

        -- in state 0 the back part begins there
        from_zero : s ≡ 0 → Same
        unfolding Same x
        from_zero zero =
            whole_runs_as_back m fits gs reached fresh Alike Marked Left Right Sound lawful keeps passes pays whole part stands_whole stands
            (record { budget = z; registers = r; last = last; turns = n; is = ap (λ (t : ℕ). record whole { state = t }) zero; lower = low; seen = same_seen last; alike = alike_at_cut; known = lawful.closed.first; right = right; sound = sound }) good

        good_settled : IsGood m fits gs reached fresh Alike Marked Left Right Sound lawful (left_by (settled_by (stepped (m.advances e)) (ahead m fits gs reached fresh Alike Marked Left Right Sound lawful z left.registers x (n + 1) target))).buffer
        good_settled = subst (λ (t : Turn (Config R)). IsGood m fits gs reached fresh Alike Marked Left Right Sound lawful (left_by t).buffer) settled_whole (good_turn m fits gs reached fresh Alike Marked Left Right Sound lawful keeps passes pays whole stands_whole sound good)

        idles : IdlesAtCut m fits gs reached fresh Alike Marked Right Sound s e r z b
        unfolding left
        idles =
            let same : operations_left left.buffer.max_ops ≡ operations_left z = ap (λ (a : Buffer). operations_left a.max_ops) left_buffer in
            let some_left : 0 < operations_left z = rw same at good_left.enough in
            record {
              is_reached = known;
              front = front;
              some = some;
              more = below;
              right = right;
              sound = sound;
              arrived = arrived;
              fits_whole = stands_whole;
              fits_part = stands;
              budget = low;
              enough = some_left;
              entry = entry;
              idle = quiet;
              unmarked = good_left.unmarked;
            }

        -- an entry of state 0 that does the same: both turns settle alike
        from_alike : (f : E) → m.entry 0 k ≡ Some f → IsIdle m fits f → m.next f ≡ m.next e → m.advances f ≡ m.advances e → Same
        unfolding Same acted by_entry marked target left x
        from_alike f from_start quiet_start to going =
            let stays : (m.act f fresh b).buffer ≡ b = by_mark (lawful.local.idle f fresh b quiet_start) in
            let begun : m.act f fresh b ≡ record { registers = (m.act f fresh b).registers; buffer = b } = ap (λ (a : Buffer). record (m.act f fresh b) { buffer = a }) stays in
            let turned : turn m part ≡ settled_by (stepped (m.advances e)) (record target { registers = (m.act f fresh b).registers }) =
            turn_when_on m part on ∙ (ap (λ (o : Option E). by_entry m o (counted m part)) from_start
            ∙ rw not_inside (ap (λ (v : Moved R). settled_by (stepped (m.advances f)) (behind_act v (m.next f) (counted m part))) begun
            ∙ (ap (λ (a : Bool). settled_by (stepped a) (behind_act (record { registers = (m.act f fresh b).registers; buffer = b }) (m.next f) (counted m part))) going
            ∙ ap (λ (t : ℕ). settled_by (stepped (m.advances e)) (behind_act (record { registers = (m.act f fresh b).registers; buffer = b }) t (counted m part))) to))) in
            let both_settle = both_settled m fits gs reached fresh Alike Marked Left Right Sound lawful (m.advances e) z left.registers (n + 1) (record target { registers = (m.act f fresh b).registers }) low
            (λ _. lawful.moves.agreed s e f r z b idles (record { from_start = from_start; idle_start = quiet_start; next = to; advances = going })) next right sound good_settled.enough in
            let better : IsGood m fits gs reached fresh Alike Marked Left Right Sound lawful (followed (run_to_end m) (turn m whole)).buffer = subst (λ (c : Config R). IsGood m fits gs reached fresh Alike Marked Left Right Sound lawful c.buffer) (whole_step m fits keeps passes pays whole stands_whole) good in
            rw (whole_step m fits keeps passes pays whole stands_whole, whole_step m fits keeps passes pays part stands)
            (behind_turns m fits gs reached fresh Alike Marked Left Right Sound lawful keeps passes pays whole part
            (λ v d lower fit fit_part near fine. whole_runs_as_back m fits gs reached fresh Alike Marked Left Right Sound lawful keeps passes pays v d fit fit_part near fine)
            (turn m whole) (turn m part) (turn_falls m fits keeps passes pays whole stands_whole) (turn_falls m fits keeps passes pays part stands)
            (rw (settled_whole, turned) both_settle) better)
          where
            by_mark : ((m.act f fresh b).buffer ≡ b) ⊎ ((is_inside b ≡ true) × ((m.act f fresh b).buffer ≡ break_marked_at b)) → (m.act f fresh b).buffer ≡ b
            by_mark (inl same) = same
            by_mark (inr marks) = absurd (let place = marks.0 in cc)

        -- behind an entry that stays, and is paid for
        v : Config R
        v = record (ahead m fits gs reached fresh Alike Marked Left Right Sound lawful z left.registers x (n + 1) target) { buffer = paid 1 (moved_on gs z b) }

        stays_at_cut : m.advances e ≡ false → int_lt (pos 0) z ≡ true → turn m whole ≡ Goes v
        unfolding v target
        stays_at_cut stays has =
            settled_whole ∙ stayed (m.advances e) (ahead m fits gs reached fresh Alike Marked Left Right Sound lawful z left.registers x (n + 1) target) stays (same_end gs z b ∙ not_at_end b below) has

        -- an entry that stays and goes to state 0: the run looks at the glyph again from there
        from_home : m.advances e ≡ false → m.next e ≡ 0 → Same
        unfolding Same v target left x
        from_home stays home =
            let spent : (stepped false (moved_on gs z b)).max_ops ≡ int_max (z -ℤ pos 1) (negsuc 2147483647) =
            either (λ (a : Buffer). a.max_ops) (has_operations (moved_on gs z b)) (paid 1 (moved_on gs z b)) (paid 1 (passed (moved_on gs z b))) (int_max (z -ℤ pos 1) (negsuc 2147483647)) refl refl in
            let enough : 0 < operations_left (stepped false (moved_on gs z b)).max_ops = rw (same_end gs z b, not_at_end b below, stays) at good_settled.enough in
            let has : int_lt (pos 0) z ≡ true = has_paid z (rw spent at enough) in
            let goes = stays_at_cut stays has in
            let falls = rw goes at (turn_falls m fits keeps passes pays whole stands_whole) in
            let step : run_to_end m whole ≡ run_to_end m v = rw goes at (whole_step m fits keeps passes pays whole stands_whole) in
            rw step
            (whole_runs_as_back m fits gs reached fresh Alike Marked Left Right Sound lawful keeps passes pays v part falls.1 stands
            (record {
              budget = int_max (z -ℤ pos 1) (negsuc 2147483647);
              registers = left.registers;
              last = x;
              turns = n + 1;
              is = ap (λ (t : ℕ). record v { state = t }) home;
              lower = omega (arith, low, paid_less 1 z);
              seen = same_seen x ∙ sym (same_seen 0);
              alike = lawful.moves.homed s e r z b idles stays home;
              known = lawful.closed.first;
              right = right;
              sound = sound;
            })
            (rw step at good))

        by_case : ((s == 0) ≡ true) ⊎ (((not (m.advances e) && (m.next e == 0)) ≡ true) ⊎ (is_some_and (m.entry 0 k) does_alike ≡ true)) → Same
        unfolding does_alike
        by_case (inl zero) = from_zero (grind (arith, nat_tests, zero))
        by_case (inr (inl home)) =
            let parts = both (not (m.advances e)) (m.next e == 0) home in
            let goes = parts.1 in
            from_home (none_of (m.advances e) parts.0) (grind (arith, nat_tests, goes))
        by_case (inr (inr alike)) =
            let there = found (m.entry 0 k) (λ f. not (acts m d f) && ((m.next f == m.next e) && is_alike (m.advances f) (m.advances e))) alike in
            let f : E = there.0 in
            let parts = both (not (acts m d f)) ((m.next f == m.next e) && is_alike (m.advances f) (m.advances e)) there.2 in
            let ways = both (m.next f == m.next e) (is_alike (m.advances f) (m.advances e)) parts.1 in
            let to = ways.0 in
            from_alike f there.1 (idle f 0 k there.1 (none_of (acts m d f) parts.0)) (grind (arith, nat_tests, to)) (alike_is (m.advances f) (m.advances e) ways.1)

        pub runs_alike : HasBoth m fits gs reached fresh Alike Marked Left Right Sound lawful keeps passes pays whole part
        unfolding Same
        runs_alike = by_case told.2
