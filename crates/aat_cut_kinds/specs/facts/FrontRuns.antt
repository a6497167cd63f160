-- Up to the cut, a run over the whole line is that over the front part.
use Rattle.std.proofs.Common.{◌≡◌, ◌∙◌, ◌⊎◌, inl, inr, ℕ, zero, suc, ◌+◌, ◌<◌, ◌≤◌, ◌&&◌, ◌||◌, ◌==◌, not, Bool, true, false, cond, List, ◌++◌, length, nat_lt, Option, Some, None, refl, ap, sym, arith, length-append}
use Rattle.std.proofs.lemmas.Bool.{cases_lt}
use Rattle.std.proofs.lemmas.Bool.Decides.{nat_tests}
use Rattle.aat_buffer.specs.Buffer.{Buffer}
use Rattle.aat_buffer.specs.facts.Cases.{chosen}
use Rattle.aat_glyph.specs.declared.glyph.hb_glyph_info_t.{hb_glyph_info_t}
use Rattle.aat_lookup.specs.Truth.{is_some_and, is_alike}
use Rattle.aat_run.specs.Budget.{has_operations, paid, potential}
use Rattle.aat_run.specs.Context.{Config, Machine, Moved, class_at, is_inside}
use Rattle.aat_run.specs.Laws.{KeepsFit, PassesFit, Pays, Stands}
use Rattle.aat_run.specs.Machine.{Ends, Goes, OnGoes, Turn, acted, behind_act, break_marked_at, by_entry, counted, left_by, marked, off, passed, run_to_end, settled_by, stepped, turn}
use Rattle.aat_run.specs.Safe.{is_safe}
use Rattle.aat_run.specs.facts.MachineRuns.{cursor_of_marked, length_of_marked, turn_falls, whole_step}
use Rattle.aat_run.specs.facts.Runs.{mapped}
use Rattle.aat_run.specs.facts.Turns.{Lower}
use Rattle.aat_run.specs.inside.Branches.{acts}
use Rattle.aat_cut_kinds.specs.CutLaws.{IsClosed, IsLocal, KeepsLine, left_before}
use Rattle.aat_cut_kinds.specs.Parts.{followed_by}
use Rattle.aat_cut_kinds.specs.facts.Inside.{class_in_front, marked_in_front, not_at_end, not_at_front_end, seen_in_front, stepped_in_front}

-- whether a turn is safe, by whether entries are actionable
pub safe_by_acts : {R E : Type 0} (m : Machine R E) (e : E) (f g : Option E) (c d : Config R) → c.state ≡ d.state → ((x : E) → acts m c x ≡ acts m d x) → is_safe m e f g c ≡ is_safe m e f g d
unfolding is_safe
safe_by_acts {R} {E} m e f g c d same alike =
    let formula : ℕ → (E → Bool) → Bool = λ s test.
    not (test e) && (((s == 0) || ((not (m.advances e) && (m.next e == 0)) || is_some_and f (λ x. not (test x) && ((m.next x == m.next e) && is_alike (m.advances x) (m.advances e))))) && is_some_and g (λ x. not (test x))) in
    ap (λ s. formula s (acts m c)) same ∙ ap (formula d.state) (λ i x. alike x i)

module _ {R E : Type 0} (m : Machine R E) (fits : R → ℕ → ℕ → Type 0) (Left Right : List hb_glyph_info_t → Type 0) (local : IsLocal m fits Left Right) (front_stays : KeepsLine m fits Left) (gs : List hb_glyph_info_t) (right : Right gs) where
  -- the same with gs behind the line
  abbrev pub joined : Config R → Config R
  joined c = record c { buffer = followed_by gs c.buffer }

  -- before the end of the front part
  Before : Config R → Type 0
  Before c = c.buffer.cursor < length c.buffer.line

  longer : (c : Config R) → Before c → c.buffer.cursor < length (c.buffer.line ++ gs)
  unfolding Before
  longer c below = omega (arith, length-append c.buffer.line gs, below)

  same_safe : (e : E) (f g : Option E) (c : Config R) → Before c → is_safe m e f g (joined c) ≡ is_safe m e f g c
  unfolding Before
  same_safe e f g c below = safe_by_acts m e f g (joined c) c refl (λ x. local.tested x c.registers c.registers _ _ _ _ (longer c below) below)

  same_marked : (e : E) (c : Config R) → Before c → marked m e (joined c) ≡ followed_by gs (marked m e c)
  unfolding marked Before
  same_marked e c below =
      let inside : is_inside (followed_by gs c.buffer) ≡ is_inside c.buffer =
      let whole : nat_lt c.buffer.cursor (length (c.buffer.line ++ gs)) ≡ true = grind (arith, nat_tests, longer c below) in
      let part : nat_lt c.buffer.cursor (length c.buffer.line) ≡ true = grind (arith, nat_tests, below) in
      rw (whole, part) refl in
      let class = class_in_front gs m.class_of c.buffer below in
      rw (inside, class, same_safe e (m.entry 0 (class_at m.class_of c.buffer)) (m.entry c.state 0) c below)
      (by_test (is_inside c.buffer && not (is_safe m e (m.entry 0 (class_at m.class_of c.buffer)) (m.entry c.state 0) c)))
    where
      by_test : (t : Bool) → cond t (break_marked_at (followed_by gs c.buffer)) (followed_by gs c.buffer) ≡ followed_by gs (cond t (break_marked_at c.buffer) c.buffer)
      by_test true = marked_in_front gs c.buffer below
      by_test false = refl

  -- a turn behind an act that leaves the cursor before the end
  same_settled : (a : Bool) (c : Config R) → Before c → settled_by (stepped a) (joined c) ≡ mapped joined (settled_by (stepped a) c)
  unfolding Before
  same_settled a c below =
      rw (not_at_front_end gs c.buffer below, not_at_end c.buffer below) (ap (λ (b : Buffer). Goes (record c { buffer = b })) (stepped_in_front gs a c.buffer))

  -- the line with marks is a front part where the line is
  left_marked : (e : E) (c : Config R) → Left c.buffer.line → Left (marked m e c).line
  unfolding marked
  left_marked e c left =
      chosen (λ (b : Buffer). Left b.line) (is_inside c.buffer && not (is_safe m e (m.entry 0 (class_at m.class_of c.buffer)) (m.entry c.state 0) c)) (break_marked_at c.buffer) c.buffer (λ _. front_stays.marks c.buffer left) (λ _. left)

  module _ (c : Config R) (stands : Stands fits c) (below : Before c) (is_left : Left c.buffer.line) (e : E) where
    left : Moved R
    left = m.act e c.registers (marked m e c)

    fits_marked : fits c.registers (marked m e c).cursor (length (marked m e c).line)
    fits_marked = rw (length_of_marked m e c, cursor_of_marked m e c) stands

    below_marked : (marked m e c).cursor < length (marked m e c).line
    unfolding Before
    below_marked = rw (length_of_marked m e c, cursor_of_marked m e c) below

    below_left : left.buffer.cursor < length left.buffer.line
    unfolding left
    below_left = local.inside e c.registers (marked m e c) fits_marked below_marked

    same_acted : acted m e (joined c) ≡ mapped joined (acted m e c)
    unfolding acted left Before
    same_acted =
        let moved : m.act e c.registers (marked m e (joined c)) ≡ left_before gs left = ap (m.act e c.registers) (same_marked e c below) ∙ local.unseen e c.registers (marked m e c) gs fits_marked below_marked (left_marked e c is_left) right in
        ap (λ (x : Moved R). settled_by (stepped (m.advances e)) (behind_act x (m.next e) (joined c))) moved
        ∙ same_settled (m.advances e) (behind_act left (m.next e) c) below_left

  same_by_entry : (o : Option E) (c : Config R) → Stands fits c → Before c → Left c.buffer.line → by_entry m o (joined c) ≡ mapped joined (by_entry m o c)
  unfolding by_entry
  same_by_entry None c stands below left = refl
  same_by_entry (Some e) c stands below left = same_acted c stands below left e

  same_off : (c : Config R) → Before c → off m (joined c) ≡ mapped joined (off m c)
  unfolding off Before
  same_off c below = rw (not_at_front_end gs c.buffer below, not_at_end c.buffer below) refl

  -- one turn, before the end of the front part
  same_turn : (c : Config R) → Stands fits c → Before c → Left c.buffer.line → turn m (joined c) ≡ mapped joined (turn m c)
  unfolding turn Before
  same_turn c stands below left =
      let d = counted m c in
      let o : Option E = m.entry c.state (class_at m.class_of c.buffer) in
      rw (seen_in_front gs c.buffer c.last below, class_in_front gs m.class_of c.buffer below)
      (by_switch (m.on d.last) (by_entry m o (joined d)) (off m (joined d)) (by_entry m o d) (off m d) (same_by_entry o d stands below left) (same_off d below))
    where
      by_switch : (t : Bool) (x y u v : Turn (Config R)) → x ≡ mapped joined u → y ≡ mapped joined v → cond t x y ≡ mapped joined (cond t u v)
      by_switch true x y u v p q = p
      by_switch false x y u v p q = q

  module _ (reached : ℕ → Type 0) (closed : IsClosed m fits reached) where
    -- a turn goes on, to a state that is reached and a cursor that is at most at the end, or ends before the end
    Onward : Turn (Config R) → Type 0
    Onward (Ends d) = d.buffer.cursor < length d.buffer.line
    Onward (Goes d) = reached d.state × (d.buffer.cursor ≤ length d.buffer.line)

    within : (a : Bool) (b : Buffer) → b.cursor < length b.line → (stepped a b).cursor ≤ length (stepped a b).line
    within true b below = omega (arith, below)
    within false b below = chosen (λ (d : Buffer). d.cursor ≤ length d.line) (has_operations b) (paid 1 b) (paid 1 (passed b)) (λ _. omega (arith, below)) (λ _. omega (arith, below))

    onward_acted : (e : E) (c : Config R) → Stands fits c → Before c → Left c.buffer.line → reached (m.next e) → Onward (acted m e c)
    unfolding acted Onward left
    onward_acted e c stands below is_left next =
        rw (not_at_end (left c stands below is_left e).buffer (below_left c stands below is_left e)) (next, within (m.advances e) (left c stands below is_left e).buffer (below_left c stands below is_left e))

    onward_off : (c : Config R) → Before c → Onward (off m c)
    unfolding off Before Onward
    onward_off c below = rw (not_at_end c.buffer below) (closed.first, omega (arith, below))

    onward_entry : (o : Option E) (k : ℕ) (c : Config R) → Stands fits c → Before c → Left c.buffer.line → reached c.state → m.entry c.state k ≡ o → Onward (by_entry m o c)
    unfolding by_entry Before Onward
    onward_entry None k c stands below is_left known is = below
    onward_entry (Some e) k c stands below is_left known is = onward_acted e c stands below is_left (closed.entries c.state k e known is)

    onward : (c : Config R) → Stands fits c → Before c → Left c.buffer.line → reached c.state → Onward (turn m c)
    unfolding turn Before
    onward c stands below is_left known =
        let d = counted m c in
        let k : ℕ = class_at m.class_of c.buffer in
        chosen Onward (m.on d.last) (by_entry m (m.entry d.state k) d) (off m d) (λ _. onward_entry (m.entry d.state k) k d stands below is_left known refl) (λ _. onward_off d below)

    module _ (keeps : KeepsFit m.act fits) (passes : PassesFit fits) (pays : Pays m.act fits) (Q : Config R → Type 0) (kept : (c : Config R) → Stands fits c → c.buffer.cursor < length c.buffer.line → Q c → Q (left_by (turn m c))) (is_left : (c : Config R) → Q c → Left c.buffer.line)
        (W : Buffer → Type 0) (kept_whole : (c : Config R) → Stands fits c → W c.buffer → W (left_by (turn m c)).buffer)
      where
        -- the run over the whole line comes to its end
        abbrev pub Through : Config R → Type 0
        Through c = length (run_to_end m (joined c)).buffer.line ≤ (run_to_end m (joined c)).buffer.cursor

        -- where a run from c over the front part, and from there over the whole line, come to the cut
        pub record ComesToCut (c : Config R) : Type 0 where
          pub at : Config R
          pub end : at.buffer.cursor ≡ length at.buffer.line
          pub stands : Stands fits at
          pub stands_whole : Stands fits (joined at)
          pub is_reached : reached at.state
          pub holds : Q at
          pub holds_whole : W (joined at).buffer
          pub front : run_to_end m at ≡ run_to_end m c
          pub whole : run_to_end m (joined at) ≡ run_to_end m (joined c)

        -- where the rest of a run from d comes to the cut, the run from c does, if a turn leads from c to d
        behind_turn : (c : Config R) → Stands fits c → Stands fits (joined c) → Through c
            → ((d : Config R) → potential d.buffer < potential c.buffer → Stands fits d → Stands fits (joined d) → Through d → reached d.state → Q d → W (joined d).buffer → d.buffer.cursor ≤ length d.buffer.line → ComesToCut d)
            → (t u : Turn (Config R)) → turn m c ≡ t → turn m (joined c) ≡ u → u ≡ mapped joined t → OnGoes (Lower fits (potential c.buffer)) t → OnGoes (Lower fits (potential (joined c).buffer)) u → Onward t → Q (left_by t) → W (left_by u).buffer → ComesToCut c
        unfolding Onward
        behind_turn c stands stands_whole through more (Ends d) u p q same lower lower_whole ahead q_left w_left =
            let step : run_to_end m (joined c) ≡ joined d = rw (q, same) at (whole_step m fits keeps passes pays (joined c) stands_whole) in
            let there : length (joined d).buffer.line ≤ (joined d).buffer.cursor = rw step at through in
            absurd (omega (arith, ahead, there, length-append d.buffer.line gs))
        behind_turn c stands stands_whole through more (Goes d) u p q same lower lower_whole ahead q_left w_left =
            let down = rw same at lower_whole in
            let step = rw p at (whole_step m fits keeps passes pays c stands) in
            let step_whole : run_to_end m (joined c) ≡ run_to_end m (joined d) = rw (q, same) at (whole_step m fits keeps passes pays (joined c) stands_whole) in
            let rest = more d lower.0 lower.1 down.1 (rw step_whole at through) ahead.0 q_left (rw same at w_left) ahead.1 in
            record { at = rest.at; end = rest.end; stands = rest.stands; stands_whole = rest.stands_whole; is_reached = rest.is_reached; holds = rest.holds; holds_whole = rest.holds_whole; front = rest.front ∙ sym step; whole = rest.whole ∙ sym step_whole }

        by_place : (c : Config R) → Stands fits c → Stands fits (joined c) → Through c → reached c.state → Q c → W (joined c).buffer → c.buffer.cursor ≤ length c.buffer.line
            → ((d : Config R) → potential d.buffer < potential c.buffer → Stands fits d → Stands fits (joined d) → Through d → reached d.state → Q d → W (joined d).buffer → d.buffer.cursor ≤ length d.buffer.line → ComesToCut d)
            → ((c.buffer.cursor < length c.buffer.line) ⊎ (length c.buffer.line ≤ c.buffer.cursor)) → ComesToCut c
        unfolding Before
        by_place c stands stands_whole through known holds holds_whole inside more (inl below) =
            behind_turn c stands stands_whole through more (turn m c) (turn m (joined c)) refl refl (same_turn c stands below (is_left c holds))
            (turn_falls m fits keeps passes pays c stands) (turn_falls m fits keeps passes pays (joined c) stands_whole) (onward c stands below (is_left c holds) known) (kept c stands below holds) (kept_whole (joined c) stands_whole holds_whole)
        by_place c stands stands_whole through known holds holds_whole inside more (inr past) =
            record { at = c; end = omega (arith, past, inside); stands = stands; stands_whole = stands_whole; is_reached = known; holds = holds; holds_whole = holds_whole; front = refl; whole = refl }

        comes : (k : ℕ) (c : Config R) → potential c.buffer < k → Stands fits c → Stands fits (joined c) → Through c → reached c.state → Q c → W (joined c).buffer → c.buffer.cursor ≤ length c.buffer.line → ComesToCut c
        comes zero c low stands stands_whole through known holds holds_whole inside = absurd (omega (arith, low))
        comes (suc k) c low stands stands_whole through known holds holds_whole inside =
            by_place c stands stands_whole through known holds holds_whole inside
            (λ d lower fit fit_whole goes onward more more_whole within. comes k d (omega (arith, low, lower)) fit fit_whole goes onward more more_whole within)
            (cases_lt c.buffer.cursor (length c.buffer.line))

        -- up to the cut, the run over the whole line is that over the front part
        pub whole_runs_as_front : (c : Config R) → Stands fits c → Stands fits (joined c) → Through c → reached c.state → Q c → W (joined c).buffer → c.buffer.cursor ≤ length c.buffer.line → ComesToCut c
        whole_runs_as_front c stands stands_whole through known holds holds_whole inside = comes (potential c.buffer + 1) c (omega arith) stands stands_whole through known holds holds_whole inside
