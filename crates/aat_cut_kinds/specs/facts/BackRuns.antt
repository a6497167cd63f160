-- From the cut on, a run over the whole line is that over the back part.
use Rattle.std.proofs.Common.{◌≡◌, ◌∙◌, ◌⊎◌, inl, inr, ℕ, ℤ, pos, negsuc, ◌-ℤ◌, zero, suc, ◌+◌, ◌-◌, ◌<◌, ◌≤◌, ◌&&◌, not, Bool, true, false, cond, List, ◌++◌, length, map, nat_lt, Option, Some, None, refl, ap, subst, sym, arith, length-append}
use Rattle.std.proofs.lemmas.Bool.{cases_lt}
use Rattle.std.proofs.lemmas.Bool.Decides.{nat_tests}
use Rattle.std.proofs.lemmas.Int.{ints}
use Rattle.std.specs.Int.{int_max}
use Rattle.std.specs.Prelude.{int_lt, unwrap_or}
use Rattle.aat_buffer.specs.Buffer.{Buffer, glyph_at}
use Rattle.aat_buffer.specs.facts.Cases.{chosen, either}
use Rattle.aat_buffer.specs.facts.Lines.{length_unsafe}
use Rattle.aat_glyph.specs.declared.glyph.hb_glyph_info_t.{hb_glyph_info_t}
use Rattle.aat_run.specs.Budget.{has_operations, operations_left, paid, potential}
use Rattle.aat_run.specs.Context.{Config, Machine, Moved, class_at, cluster_seen, is_at_end, is_inside}
use Rattle.aat_run.specs.Laws.{KeepsFit, PassesFit, Pays, Stands}
use Rattle.aat_run.specs.Machine.{Ends, Goes, OnGoes, Turn, acted, behind_act, break_marked_at, by_entry, counted, left_by, marked, off, passed, run_to_end, settled_by, stepped, turn}
use Rattle.aat_run.specs.Safe.{is_safe}
use Rattle.aat_run.specs.facts.MachineRuns.{buffer_kept, cursor_of_marked, budget_of_marked, length_of_marked, paid_less, turn_falls, turn_keeps, whole_step}
use Rattle.aat_run.specs.facts.Runs.{followed}
use Rattle.aat_run.specs.facts.Turns.{Lower, settled_keeps}
use Rattle.aat_cut_kinds.specs.CutLaws.{ActsOnBoth, IsLawfulBehind, IsSound}
use Rattle.aat_cut_kinds.specs.Parts.{moved_on}
use Rattle.aat_cut_kinds.specs.facts.FrontRuns.{safe_by_acts}
use Rattle.aat_cut_kinds.specs.facts.Inside.{class_in_back, marked_in_back, same_end, seen_in_back}
use Rattle.aat_cut_kinds.specs.facts.MarksOnly.{of_unsafe, same_at}

-- what is left of a budget that pays, where that is something, and of one that is no smaller
pub has_paid : (z : ℤ) → 0 < operations_left (int_max (z -ℤ pos 1) (negsuc 2147483647)) → int_lt (pos 0) z ≡ true
has_paid z some = grind (arith, ints, some)

has_more : (z y : ℤ) → int_lt (pos 0) z ≡ true → operations_left z ≤ operations_left y → int_lt (pos 0) y ≡ true
has_more z y some more = grind (arith, ints, some, more)

pays_alike : (z y : ℤ) → int_lt (pos 0) z ≡ true → operations_left z ≤ operations_left y
    → operations_left (int_max (z -ℤ pos 1) (negsuc 2147483647)) ≤ operations_left (int_max (y -ℤ pos 1) (negsuc 2147483647))
pays_alike z y some more = grind (arith, ints, some, more)

module _ {R E : Type 0} (m : Machine R E) (fits : R → ℕ → ℕ → Type 0) (gs : List hb_glyph_info_t) (reached : ℕ → Type 0) (fresh : R) (Alike : ℕ → R → R → Type 0) (Marked Left Right : List hb_glyph_info_t → Type 0)
    (Sound : ℕ → List hb_glyph_info_t → Type 0) (lawful : IsLawfulBehind m fits reached fresh Alike Marked Left Right Sound gs)
  where
    -- where a run over the whole line stands, that over the back part standing at c
    abbrev pub ahead : ℤ → R → ℕ → ℕ → Config R → Config R
    ahead z r last n c = record { buffer = moved_on gs z c.buffer; registers = r; state = c.state; last = last; turns = n }

    -- so it stands
    pub record Beside (whole c : Config R) : Type 0 where
      pub budget : ℤ
      pub registers : R
      pub last : ℕ
      pub turns : ℕ
      pub is : whole ≡ ahead budget registers last turns c
      pub lower : operations_left budget ≤ operations_left c.buffer.max_ops
      pub seen : cluster_seen c.buffer last ≡ cluster_seen c.buffer c.last
      pub alike : Alike c.state registers c.registers
      pub known : reached c.state
      pub right : Right c.buffer.line
      pub sound : Sound c.buffer.cluster_level (gs ++ c.buffer.line)

    -- the line of the back part stands behind the glyphs, with no smaller budget, and the cursor at the same place
    abbrev pub EndsBehind : Buffer → Buffer → Type 0
    EndsBehind w c = (w.line ≡ gs ++ c.line) × (operations_left w.max_ops ≤ operations_left c.max_ops) × (w.cursor ≡ length gs + c.cursor)

    -- both turns end so, or both go on, and stand beside one another
    unfoldable pub Both : Turn (Config R) → Turn (Config R) → Type 0
    Both (Ends w) (Ends c) = EndsBehind w.buffer c.buffer
    Both (Ends w) (Goes c) = ⊥
    Both (Goes w) (Ends c) = ⊥
    Both (Goes w) (Goes c) = Beside w c

    -- the cut is without a mark, and some budget is left
    pub record IsGood (b : Buffer) : Type 0 where
      pub unmarked : Marked b.line → ⊥
      pub enough : 0 < operations_left b.max_ops

    at_next : (p : ℕ) → length gs + p + 1 ≡ length gs + (p + 1)
    at_next p = omega arith

    -- behind a step
    beside_step : (a : Bool) (z : ℤ) (r : R) (n : ℕ) (c : Config R) → operations_left z ≤ operations_left c.buffer.max_ops → 0 < operations_left (stepped a (moved_on gs z c.buffer)).max_ops → Alike c.state r c.registers → reached c.state → Right c.buffer.line
        → Sound c.buffer.cluster_level (gs ++ c.buffer.line)
        → Beside (record (ahead z r c.last n c) { buffer = stepped a (moved_on gs z c.buffer) }) (record c { buffer = stepped a c.buffer })
    beside_step true z r n c low enough alike known right sound =
        record {
          budget = z;
          registers = r;
          last = c.last;
          turns = n;
          lower = low;
          seen = refl;
          alike = alike;
          known = known;
          right = right;
          sound = sound;
          is = ap (λ (p : ℕ). record (ahead z r c.last n c) { buffer = record (moved_on gs z c.buffer) { cursor = p } }) (at_next c.buffer.cursor);
        }
    beside_step false z r n c low enough alike known right sound = by_budget (has_operations (moved_on gs z c.buffer)) refl enough
      where
        by_budget : (t : Bool) → int_lt (pos 0) z ≡ t → 0 < operations_left (cond t (paid 1 (moved_on gs z c.buffer)) (paid 1 (passed (moved_on gs z c.buffer)))).max_ops
            → Beside (record (ahead z r c.last n c) { buffer = cond t (paid 1 (moved_on gs z c.buffer)) (paid 1 (passed (moved_on gs z c.buffer))) }) (record c { buffer = stepped false c.buffer })
        by_budget true has enough =
            rw (has_more z c.buffer.max_ops has low)
            (record { budget = int_max (z -ℤ pos 1) (negsuc 2147483647); registers = r; last = c.last; turns = n; is = refl; lower = pays_alike z c.buffer.max_ops has low; seen = refl; alike = alike; known = known; right = right; sound = sound })
        by_budget false has enough = absurd (differ (sym has ∙ has_paid z enough))
          where
            differ : false ≡ true → ⊥
            differ e = cc

    -- what is settled behind an act
    pub both_settled : (a : Bool) (z : ℤ) (r : R) (n : ℕ) (c : Config R) → operations_left z ≤ operations_left c.buffer.max_ops
        → (c.buffer.cursor < length c.buffer.line → Alike c.state r c.registers) → reached c.state → Right c.buffer.line → Sound c.buffer.cluster_level (gs ++ c.buffer.line)
        → 0 < operations_left (left_by (settled_by (stepped a) (ahead z r c.last n c))).buffer.max_ops
        → Both (settled_by (stepped a) (ahead z r c.last n c)) (settled_by (stepped a) c)
    unfolding Both
    both_settled a z r n c low alike known right sound = rw (same_end gs z c.buffer) (by_end (is_at_end c.buffer) refl)
      where
        by_end : (t : Bool) → is_at_end c.buffer ≡ t
            → 0 < operations_left (left_by (cond t (Ends (ahead z r c.last n c)) (Goes (record (ahead z r c.last n c) { buffer = stepped a (moved_on gs z c.buffer) })))).buffer.max_ops
            → Both (cond t (Ends (ahead z r c.last n c)) (Goes (record (ahead z r c.last n c) { buffer = stepped a (moved_on gs z c.buffer) }))) (cond t (Ends c) (Goes (record c { buffer = stepped a c.buffer })))
        by_end true is enough = (refl, low, refl)
        by_end false is enough = let below : c.buffer.cursor < length c.buffer.line = grind (arith, nat_tests, is) in beside_step a z r n c low enough (alike below) known right sound

    step_keeps : (Q : Buffer → Type 0) → ((b : Buffer) → Q b → Q (passed b)) → ((b : Buffer) → Q b → Q (paid 1 b)) → (a : Bool) (b : Buffer) → Q b → Q (stepped a b)
    step_keeps Q on_pass on_pay a b q =
        chosen Q a (passed b) (cond (has_operations b) (paid 1 b) (paid 1 (passed b))) (λ _. on_pass b q)
        (λ _. chosen Q (has_operations b) (paid 1 b) (paid 1 (passed b)) (λ _. on_pay b q) (λ _. on_pay (passed b) (on_pass b q)))

    -- what was good behind a step was good before it
    pub good_before : (a : Bool) (c : Config R) → IsGood (left_by (settled_by (stepped a) c)).buffer → IsGood c.buffer
    good_before a c good =
        let spent : operations_left (left_by (settled_by (stepped a) c)).buffer.max_ops ≤ operations_left c.buffer.max_ops =
        settled_keeps (stepped a) (λ (b : Buffer). operations_left b.max_ops ≤ operations_left c.buffer.max_ops)
        (step_keeps (λ (b : Buffer). operations_left b.max_ops ≤ operations_left c.buffer.max_ops) (λ b q. q) (λ b q. omega (arith, q, paid_less 1 b.max_ops)) a) c (omega arith) in
        record {
          unmarked = λ h. good.unmarked (settled_keeps (stepped a) (λ (b : Buffer). Marked b.line) (step_keeps (λ (b : Buffer). Marked b.line) (λ b q. q) (λ b q. q) a) c h);
          enough = omega (arith, good.enough, spent);
        }

    module _ (z : ℤ) (r : R) (n : ℕ) (d : Config R) where
      abbrev pub whole : Config R
      whole = ahead z r d.last n d

      inside_whole : 0 < length gs + d.buffer.cursor → d.buffer.cursor < length d.buffer.line → is_inside (moved_on gs z d.buffer) ≡ true
      inside_whole some below =
          let long : length (gs ++ d.buffer.line) ≡ length gs + length d.buffer.line = length-append gs d.buffer.line in
          grind (arith, nat_tests, long, below, some)

      -- at the front of the whole line there is no place before the cursor
      at_front : length gs ≤ 0 → d.buffer.cursor ≡ 0 → is_inside (moved_on gs z d.buffer) ≡ false
      at_front none front = grind (arith, nat_tests, none, front)

      outside_whole : length d.buffer.line ≤ d.buffer.cursor → is_inside (moved_on gs z d.buffer) ≡ false
      outside_whole past =
          let long : length (gs ++ d.buffer.line) ≡ length gs + length d.buffer.line = length-append gs d.buffer.line in
          grind (arith, nat_tests, long, past)

      same_safe : (e : E) (f g : Option E) → d.buffer.cursor < length d.buffer.line → is_safe m e f g whole ≡ is_safe m e f g d
      same_safe e f g below =
          safe_by_acts m e f g whole d refl (λ x. lawful.local.tested x r d.registers _ _ _ _ (let long = length-append gs d.buffer.line in omega (arith, below, long)) below)

      same_marked : (e : E) → Right d.buffer.line → Sound d.buffer.cluster_level (gs ++ d.buffer.line) → (Marked (marked m e whole).line → ⊥) → marked m e whole ≡ moved_on gs z (marked m e d)
      unfolding marked
      same_marked e right sound unmarked = by_place (cases_lt 0 d.buffer.cursor) (cases_lt d.buffer.cursor (length d.buffer.line))
        where
          from_start : Option E
          from_start = m.entry 0 (class_at m.class_of (moved_on gs z d.buffer))

          at_end : Option E
          at_end = m.entry d.state 0

          at_cut : (t : Bool) → 0 < length gs → (Marked (cond (not t) (break_marked_at (moved_on gs z d.buffer)) (moved_on gs z d.buffer)).line → ⊥) → d.buffer.cursor ≡ 0 → 0 < length d.buffer.line
              → cond (not t) (break_marked_at (moved_on gs z d.buffer)) (moved_on gs z d.buffer) ≡ moved_on gs z d.buffer
          at_cut true some unmarked front more = refl
          at_cut false some unmarked front more = absurd (unmarked (lawful.marks.cut z d.buffer some front more right sound))

          behind_cut : (t : Bool) → 0 < d.buffer.cursor → cond (not t) (break_marked_at (moved_on gs z d.buffer)) (moved_on gs z d.buffer) ≡ moved_on gs z (cond (not t) (break_marked_at d.buffer) d.buffer)
          behind_cut true front = refl
          behind_cut false front = marked_in_back gs z d.buffer front

          by_place : ((0 < d.buffer.cursor) ⊎ (d.buffer.cursor ≤ 0)) → ((d.buffer.cursor < length d.buffer.line) ⊎ (length d.buffer.line ≤ d.buffer.cursor)) → marked m e whole ≡ moved_on gs z (marked m e d)
          by_place place (inr past) =
              let part : is_inside d.buffer ≡ false = grind (arith, nat_tests, past) in
              rw (outside_whole past, part) refl
          by_place (inr front) (inl below) = by_gs (omega (arith, front)) (cases_lt 0 (length gs))
            where
              by_gs : d.buffer.cursor ≡ 0 → ((0 < length gs) ⊎ (length gs ≤ 0)) → marked m e whole ≡ moved_on gs z (marked m e d)
              by_gs at (inl some) =
                  let part : is_inside d.buffer ≡ false = grind (arith, nat_tests, at) in
                  let clean = rw (inside_whole (omega (arith, some)) below) at unmarked in
                  rw (inside_whole (omega (arith, some)) below, part) (at_cut (is_safe m e from_start at_end whole) some clean at (omega (arith, below)))
              by_gs at (inr none) =
                  let part : is_inside d.buffer ≡ false = grind (arith, nat_tests, at) in
                  rw (at_front none at, part) refl
          by_place (inl front) (inl below) =
              let part : is_inside d.buffer ≡ true = grind (arith, nat_tests, front, below) in
              rw (inside_whole (omega (arith, front)) below, part, class_in_back gs m.class_of z d.buffer, same_safe e (m.entry 0 (class_at m.class_of d.buffer)) at_end below)
              (behind_cut (is_safe m e (m.entry 0 (class_at m.class_of d.buffer)) at_end d) front)

      -- the class at the cursor is that of the line with marks
      class_of_marked : (e : E) → class_at m.class_of (marked m e d) ≡ class_at m.class_of d.buffer
      unfolding marked
      class_of_marked e =
          let at_end : Option E = m.entry d.state 0 in
          either (class_at m.class_of) (is_inside d.buffer && not (is_safe m e (m.entry 0 (class_at m.class_of d.buffer)) at_end d)) (break_marked_at d.buffer) d.buffer (class_at m.class_of d.buffer) same refl
        where
          long : length (break_marked_at d.buffer).line ≡ length d.buffer.line
          long = length_unsafe d.buffer (Some (d.buffer.cursor - 1)) (Some (d.buffer.cursor + 1))

          ids : map (λ (g : hb_glyph_info_t). g.glyph_id) (break_marked_at d.buffer).line ≡ map (λ (g : hb_glyph_info_t). g.glyph_id) d.buffer.line
          ids = of_unsafe (λ (g : hb_glyph_info_t). g.glyph_id) (λ bits g. refl) d.buffer (Some (d.buffer.cursor - 1)) (Some (d.buffer.cursor + 1))

          same : class_at m.class_of (break_marked_at d.buffer) ≡ class_at m.class_of d.buffer
          same =
              ap (λ (k : ℕ). cond (not (nat_lt d.buffer.cursor k)) 0 (unwrap_or (m.class_of (glyph_at (break_marked_at d.buffer).line d.buffer.cursor).glyph_id) 1)) long
              ∙ ap (λ (g : ℕ). cond (is_at_end d.buffer) 0 (unwrap_or (m.class_of g) 1)) (same_at (λ (g : hb_glyph_info_t). g.glyph_id) (break_marked_at d.buffer).line d.buffer.line d.buffer.cursor ids)

      module _ (e : E) (stands_whole : Stands fits whole) (stands : Stands fits d) (low : operations_left z ≤ operations_left d.buffer.max_ops)
          (alike : Alike d.state r d.registers) (known : reached d.state) (right : Right d.buffer.line) (sound : Sound d.buffer.cluster_level (gs ++ d.buffer.line)) (entry : m.entry d.state (class_at m.class_of d.buffer) ≡ Some e) (next : reached (m.next e))
        where
          -- what the act leaves of the whole line, and of the back part
          left_whole : Moved R
          left_whole = m.act e r (moved_on gs z (marked m e d))

          left_part : Moved R
          left_part = m.act e d.registers (marked m e d)

          behind : Config R
          behind = behind_act left_part (m.next e) d

          right_marked : Right (marked m e d).line
          unfolding marked
          right_marked =
              let at_end : Option E = m.entry d.state 0 in
              chosen (λ (b : Buffer). Right b.line) (is_inside d.buffer && not (is_safe m e (m.entry 0 (class_at m.class_of d.buffer)) at_end d)) (break_marked_at d.buffer) d.buffer (λ _. lawful.back.marks d.buffer right) (λ _. right)

          sound_marked : IsSound Sound (marked m e whole)
          unfolding marked
          sound_marked =
              let at_end : Option E = m.entry whole.state 0 in
              chosen (IsSound Sound) (is_inside whole.buffer && not (is_safe m e (m.entry 0 (class_at m.class_of whole.buffer)) at_end whole)) (break_marked_at whole.buffer) whole.buffer (λ _. lawful.sound.marks whole.buffer sound) (λ _. sound)

          acts_on_both : IsSound Sound (moved_on gs z (marked m e d)) → 0 < operations_left left_whole.buffer.max_ops → (Marked left_whole.buffer.line → ⊥) → ActsOnBoth m fits gs reached fresh Alike Marked Right Sound d.state e r d.registers z (marked m e d)
          unfolding left_whole
          acts_on_both sound_both enough unmarked = record {
            right = right_marked;
            sound = sound_both;
            unmarked = unmarked;
            is_reached = known;
            entry = rw (class_of_marked e) entry;
            alike = alike;
            fits_whole = rw (cursor_of_marked m e d, length-append gs (marked m e d).line, length_of_marked m e d) (rw (length-append gs d.buffer.line) at stands_whole);
            fits_part = rw (length_of_marked m e d, cursor_of_marked m e d) stands;
            budget = rw (budget_of_marked m e d) low;
            enough = enough;
          }

          both_acted : IsGood (left_by (acted m e whole)).buffer → Both (acted m e whole) (acted m e d)
          unfolding acted left_whole left_part behind
          both_acted good =
              let first : IsGood (m.act e r (marked m e whole)).buffer = good_before (m.advances e) (behind_act (m.act e r (marked m e whole)) (m.next e) whole) good in
              let fit : fits r (marked m e whole).cursor (length (marked m e whole).line) = rw (length_of_marked m e whole, cursor_of_marked m e whole) stands_whole in
              let clean : Marked (marked m e whole).line → ⊥ = λ h. first.unmarked (lawful.marks.acts e r (marked m e whole) fit sound_marked h) in
              let same = same_marked e right sound clean in
              let enough : 0 < operations_left left_whole.buffer.max_ops = rw same at first.enough in
              let unmarked : Marked left_whole.buffer.line → ⊥ = rw same at first.unmarked in
              let on = acts_on_both (rw same at sound_marked) enough unmarked in
              let right_left : Right left_part.buffer.line = lawful.back.acts e d.registers (marked m e d) on.fits_part right_marked in
              let moved = lawful.moves.moved d.state e r d.registers z (marked m e d) on in
              let sound_left : IsSound Sound left_whole.buffer = lawful.sound.acts e r (moved_on gs z (marked m e d)) on.fits_whole on.sound in
              let sound_behind : Sound left_part.buffer.cluster_level (gs ++ left_part.buffer.line) = subst (IsSound Sound) moved.buffer sound_left in
              let is : behind_act (m.act e r (marked m e whole)) (m.next e) whole ≡ ahead left_whole.buffer.max_ops left_whole.registers d.last n behind =
              ap (λ (b : Buffer). behind_act (m.act e r b) (m.next e) whole) same ∙ ap (λ (b : Buffer). record (behind_act left_whole (m.next e) whole) { buffer = b }) moved.buffer in
              subst (λ t. Both t (settled_by (stepped (m.advances e)) behind)) (sym (ap (settled_by (stepped (m.advances e))) is))
              (both_settled (m.advances e) left_whole.buffer.max_ops left_whole.registers n behind moved.budget (λ below. lawful.moves.alike d.state e r d.registers z (marked m e d) on below) next right_left sound_behind
              (subst (λ (t : Turn (Config R)). 0 < operations_left (left_by t).buffer.max_ops) (ap (settled_by (stepped (m.advances e))) is) good.enough))

      pub both_off : operations_left z ≤ operations_left d.buffer.max_ops → Alike 0 r d.registers → Right d.buffer.line → Sound d.buffer.cluster_level (gs ++ d.buffer.line) → Both (off m whole) (off m d)
      unfolding off Both
      both_off low begun right sound = rw (same_end gs z d.buffer) (by_end (is_at_end d.buffer))
        where
          by_end : (t : Bool) → Both (cond t (Ends whole) (Goes (record whole { buffer = passed (moved_on gs z d.buffer); state = 0 }))) (cond t (Ends d) (Goes (record d { buffer = passed d.buffer; state = 0 })))
          by_end true = (refl, low, refl)
          by_end false = record {
            budget = z;
            registers = r;
            last = d.last;
            turns = n;
            lower = low;
            seen = refl;
            is = ap (λ (p : ℕ). record whole { buffer = record (moved_on gs z d.buffer) { cursor = p }; state = 0 }) (at_next d.buffer.cursor);
            alike = begun;
            known = lawful.closed.first;
            right = right;
            sound = sound;
          }

    -- one turn
    module _ (z : ℤ) (r : R) (last n : ℕ) (c : Config R) (low : operations_left z ≤ operations_left c.buffer.max_ops) (seen : cluster_seen c.buffer last ≡ cluster_seen c.buffer c.last)
        (alike : Alike c.state r c.registers) (known : reached c.state) (right : Right c.buffer.line) (sound : Sound c.buffer.cluster_level (gs ++ c.buffer.line)) (stands_whole : Stands fits (ahead z r last n c)) (stands : Stands fits c)
      where
        d : Config R
        d = counted m c

        k : ℕ
        k = class_at m.class_of c.buffer

        shape : ℕ → ℕ → Turn (Config R)
        shape x j = cond (m.on x) (by_entry m (m.entry c.state j) (ahead z r x (n + 1) c)) (off m (ahead z r x (n + 1) c))

        is_shape : turn m (ahead z r last n c) ≡ shape d.last k
        unfolding turn shape d k
        is_shape = ap (λ x. shape x (class_at m.class_of (moved_on gs z c.buffer))) (seen_in_back gs z c.buffer last ∙ seen) ∙ ap (shape d.last) (class_in_back gs m.class_of z c.buffer)

        both_entry : (o : Option E) → m.entry c.state k ≡ o → IsGood (left_by (by_entry m o (ahead z r d.last (n + 1) c))).buffer → Both (by_entry m o (ahead z r d.last (n + 1) c)) (by_entry m o d)
        unfolding by_entry d k Both
        both_entry None is good = (refl, low, refl)
        both_entry (Some e) is good = both_acted z r (n + 1) d e stands_whole stands low alike known right sound is (lawful.closed.entries c.state k e known is) good

        both_switched : (t : Bool) → IsGood (left_by (cond t (by_entry m (m.entry c.state k) (ahead z r d.last (n + 1) c)) (off m (ahead z r d.last (n + 1) c)))).buffer
            → Both (cond t (by_entry m (m.entry c.state k) (ahead z r d.last (n + 1) c)) (off m (ahead z r d.last (n + 1) c))) (cond t (by_entry m (m.entry c.state k) d) (off m d))
        unfolding d k
        both_switched true good = both_entry (m.entry c.state k) refl good
        both_switched false good = both_off z r (n + 1) d low (lawful.moves.passed c.state r c.registers alike) right sound

        both_turn : IsGood (left_by (turn m (ahead z r last n c))).buffer → Both (turn m (ahead z r last n c)) (turn m c)
        unfolding turn shape d k
        both_turn good =
            let better : IsGood (left_by (shape d.last k)).buffer = subst (λ (t : Turn (Config R)). IsGood (left_by t).buffer) is_shape good in
            subst (λ t. Both t (turn m c)) (sym is_shape) (both_switched (m.on d.last) better)

    module _ (keeps : KeepsFit m.act fits) (passes : PassesFit fits) (pays : Pays m.act fits) where
      -- what is kept of a buffer from a turn to the end of its run
      kept_behind : (Q : Buffer → Type 0) → ((b : Buffer) → Q b → Q (break_marked_at b)) → ((e : E) (r : R) (b : Buffer) → fits r b.cursor (length b.line) → Q b → Q (m.act e r b).buffer)
          → ((b : Buffer) → Q b → Q (passed b)) → ((b : Buffer) → Q b → Q (paid 1 b)) → (c : Config R) → Stands fits c → Q (left_by (turn m c)).buffer → Q (run_to_end m c).buffer
      kept_behind Q on_mark on_act on_pass on_pay c stands q = rw (whole_step m fits keeps passes pays c stands) (by_turn (turn m c) (turn_falls m fits keeps passes pays c stands) q)
        where
          by_turn : (t : Turn (Config R)) → OnGoes (Lower fits (potential c.buffer)) t → Q (left_by t).buffer → Q (followed (run_to_end m) t).buffer
          by_turn (Ends d) h q = q
          by_turn (Goes d) h q = buffer_kept m fits keeps passes pays Q on_mark on_act on_pass on_pay d h.1 q

      -- what is good behind a run was good behind its first turn
      pub good_turn : (c : Config R) → Stands fits c → IsSound Sound c.buffer → IsGood (run_to_end m c).buffer → IsGood (left_by (turn m c)).buffer
      good_turn c stands sound good =
          let sound_left : IsSound Sound (left_by (turn m c)).buffer = turn_keeps m fits keeps passes pays (IsSound Sound) lawful.sound.marks lawful.sound.acts (λ b q. q) (λ b q. q) c stands sound in
          let left : ℕ = operations_left (left_by (turn m c)).buffer.max_ops in
          let spent : operations_left (run_to_end m c).buffer.max_ops ≤ left =
          kept_behind (λ b. operations_left b.max_ops ≤ left) (λ b q. q) (λ e r b fit q. omega (arith, q, lawful.marks.spends e r b fit)) (λ b q. q) (λ b q. omega (arith, q, paid_less 1 b.max_ops)) c stands (omega arith) in
          record {
            unmarked = λ h. good.unmarked (kept_behind (λ b. IsSound Sound b × Marked b.line) (λ b q. (lawful.sound.marks b q.0, lawful.marks.marks b q.1)) (λ e r b fit q. (lawful.sound.acts e r b fit q.0, lawful.marks.acts e r b fit q.0 q.1)) (λ b q. q) (λ b q. q) c stands (sound_left, h)).1;
            enough = omega (arith, good.enough, spent);
          }

      -- what the runs leave
      abbrev pub HasBoth : Config R → Config R → Type 0
      HasBoth w c = EndsBehind (run_to_end m w).buffer (run_to_end m c).buffer

      pub behind_turns : (w c : Config R) → ((v d : Config R) → potential v.buffer < potential w.buffer → Stands fits v → Stands fits d → Beside v d → IsGood (run_to_end m v).buffer → HasBoth v d)
          → (t u : Turn (Config R)) → OnGoes (Lower fits (potential w.buffer)) t → OnGoes (Lower fits (potential c.buffer)) u → Both t u → IsGood (followed (run_to_end m) t).buffer
          → EndsBehind (followed (run_to_end m) t).buffer (followed (run_to_end m) u).buffer
      unfolding Both
      behind_turns w c more (Ends v) (Ends d) falls falls_part both good = both
      behind_turns w c more (Ends v) (Goes d) falls falls_part both good = absurd both
      behind_turns w c more (Goes v) (Ends d) falls falls_part both good = absurd both
      behind_turns w c more (Goes v) (Goes d) falls falls_part both good = more v d falls.0 falls.1 falls_part.1 both good

      turned : (w c : Config R) → Stands fits w → Stands fits c → Beside w c → IsGood (run_to_end m w).buffer → Both (turn m w) (turn m c)
      turned w c stands_whole stands beside good =
          let fit : Stands fits (ahead beside.budget beside.registers beside.last beside.turns c) = subst (Stands fits) beside.is stands_whole in
          let better : IsGood (left_by (turn m (ahead beside.budget beside.registers beside.last beside.turns c))).buffer = subst (λ (x : Config R). IsGood (left_by (turn m x)).buffer) beside.is (good_turn w stands_whole (subst (λ (x : Config R). IsSound Sound x.buffer) (sym beside.is) beside.sound) good) in
          subst (λ (x : Config R). Both (turn m x) (turn m c)) (sym beside.is)
          (both_turn beside.budget beside.registers beside.last beside.turns c beside.lower beside.seen beside.alike beside.known beside.right beside.sound fit stands better)

      runs : (k : ℕ) (w c : Config R) → potential w.buffer < k → Stands fits w → Stands fits c → Beside w c → IsGood (run_to_end m w).buffer → HasBoth w c
      runs zero w c low stands_whole stands beside good = absurd (omega (arith, low))
      runs (suc k) w c low stands_whole stands beside good =
          let first = whole_step m fits keeps passes pays w stands_whole in
          let second = whole_step m fits keeps passes pays c stands in
          let better : IsGood (followed (run_to_end m) (turn m w)).buffer = subst (λ (x : Config R). IsGood x.buffer) first good in
          rw (first, second)
          (behind_turns w c (λ v d lower fit fit_part near fine. runs k v d (omega (arith, low, lower)) fit fit_part near fine) (turn m w) (turn m c)
          (turn_falls m fits keeps passes pays w stands_whole) (turn_falls m fits keeps passes pays c stands) (turned w c stands_whole stands beside good) better)

      -- from the cut on, the run over the whole line leaves what that over the back part leaves, behind the glyphs
      pub whole_runs_as_back : (w c : Config R) → Stands fits w → Stands fits c → Beside w c → IsGood (run_to_end m w).buffer → HasBoth w c
      whole_runs_as_back w c stands_whole stands beside good = runs (potential w.buffer + 1) w c (omega arith) stands_whole stands beside good
