-- The theory of the rewriting machine's runs, over the laws of an act alone.
use Rattle.std.proofs.Common.{◌≡◌, ℕ, ◌+◌, ◌-◌, ◌<◌, ◌≤◌, ◌&&◌, ℤ, pos, negsuc, ◌-ℤ◌, Bool, true, false, not, cond, length, Option, Some, None, refl, ◌∙◌, arith}
use Rattle.std.specs.Prelude.{int_lt}
use Rattle.std.specs.Int.{int_max}
use Rattle.std.proofs.lemmas.Bool.Decides.{nat_tests}
use Rattle.std.proofs.lemmas.Int.{ints}
use Rattle.aat_buffer.specs.Buffer.{Buffer}
use Rattle.aat_run.specs.Budget.{paid, has_operations, operations_left, potential, extent}
use Rattle.aat_run.specs.Context.{cluster_seen, Machine, Config, is_at_end, is_inside, class_at}
use Rattle.aat_run.specs.facts.Settings.{settings_stay, settings_then}
use Rattle.aat_run.specs.Laws.{KeepsFit, PassesFit, Pays, Bounded, Lengthens, KeepsLength, KeepsPositions, MakesNoPositions, KeepsSettings, SameSettings, Stands, RunsEnd}
use Rattle.aat_run.specs.Machine.{Turn, Ends, Goes, left_by, behind_act, passed, stepped, break_marked_at, marked, acted, by_entry, off, counted, turn, run_to_end}
use Rattle.aat_run.specs.Safe.{is_safe}
use Rattle.aat_buffer.specs.facts.Cases.{chosen, either}
use Rattle.aat_buffer.specs.facts.Lines.{length_unsafe}
use Rattle.aat_run.specs.facts.Runs.{OnGoes, followed}
use Rattle.aat_run.specs.facts.Turns as turns
use Rattle.aat_run.specs.facts.Turns.{Lower, LowersPotential, settled_turns, settled_keeps, settled_goes}

-- paying takes one from a operations_left that is not empty, and never adds to it
pub paid_with_operations : (b : Buffer) → has_operations b ≡ true → operations_left (paid 1 b).max_ops + 1 ≡ operations_left b.max_ops
paid_with_operations b h = has_one b.max_ops h
  where
    has_one : (z : ℤ) → int_lt (pos 0) z ≡ true → operations_left (int_max (z -ℤ pos 1) (negsuc 2147483647)) + 1 ≡ operations_left z
    has_one z h = grind (arith, ints)

pub paid_less : (n : ℕ) (z : ℤ) → operations_left (int_max (z -ℤ pos n) (negsuc 2147483647)) ≤ operations_left z
paid_less n z = grind (arith, ints)

-- before the end the cursor is below the length
pub below_end : (b : Buffer) → is_at_end b ≡ false → b.cursor < length b.line
below_end b h = grind (arith, nat_tests, h)

module _ {R E : Type 0} (m : Machine R E) where
  turns_of_entry : (o : Option E) (c : Config R) → (left_by (by_entry m o c)).turns ≡ c.turns
  unfolding by_entry acted
  turns_of_entry None c = refl
  turns_of_entry (Some e) c = settled_turns (stepped (m.advances e)) _

  turns_of_off : (c : Config R) → (left_by (off m c)).turns ≡ c.turns
  unfolding off
  turns_of_off c = either (λ (t : Turn (Config R)). (left_by t).turns) (is_at_end c.buffer) (Ends c) (Goes _) _ refl refl

  -- each turn counts one
  pub turn_counts : (c : Config R) → (left_by (turn m c)).turns ≡ c.turns + 1
  unfolding turn
  turn_counts c =
      let d = counted m c in
      either (λ (t : Turn (Config R)). (left_by t).turns) (m.on d.last) (by_entry m (m.entry d.state (class_at m.class_of d.buffer)) d) (off m d) _
      (turns_of_entry (m.entry d.state (class_at m.class_of d.buffer)) d) (turns_of_off d)

  -- a turn at a cluster that is on, and at one that is off
  pub turn_when_on : (c : Config R) → m.on (cluster_seen c.buffer c.last) ≡ true → turn m c ≡ by_entry m (m.entry c.state (class_at m.class_of c.buffer)) (counted m c)
  unfolding turn
  turn_when_on c h = rw h refl

  pub turn_when_off : (c : Config R) → m.on (cluster_seen c.buffer c.last) ≡ false → turn m c ≡ off m (counted m c)
  unfolding turn
  turn_when_off c h = rw h refl

  -- a fact of the buffer that marking does not change
  of_marked : {A : Type 0} (f : Buffer → A) (e : E) (c : Config R) → f (break_marked_at c.buffer) ≡ f c.buffer → f (marked m e c) ≡ f c.buffer
  unfolding marked
  of_marked f e c h =
      either f (is_inside c.buffer && not (is_safe m e (m.entry 0 (class_at m.class_of c.buffer)) (m.entry c.state 0) c)) (break_marked_at c.buffer) c.buffer _ h refl

  pub length_of_marked : (e : E) (c : Config R) → length (marked m e c).line ≡ length c.buffer.line
  length_of_marked e c = of_marked (λ (b : Buffer). length b.line) e c (length_unsafe c.buffer (Some (c.buffer.cursor - 1)) (Some (c.buffer.cursor + 1)))

  pub cursor_of_marked : (e : E) (c : Config R) → (marked m e c).cursor ≡ c.buffer.cursor
  cursor_of_marked e c = of_marked (λ (b : Buffer). b.cursor) e c refl

  pub budget_of_marked : (e : E) (c : Config R) → (marked m e c).max_ops ≡ c.buffer.max_ops
  budget_of_marked e c = of_marked (λ (b : Buffer). b.max_ops) e c refl

module _ {R E : Type 0} (m : Machine R E) (Fits : R → ℕ → ℕ → Type 0)
    (keeps : KeepsFit m.act Fits) (passes : PassesFit Fits) (pays : Pays m.act Fits)
  where
    Settles : R → ℕ → Buffer → Type 0
    Settles r n b = (potential b < n) × Fits r b.cursor (length b.line)

    steps : (a : Bool) (r : R) (b : Buffer) → Fits r b.cursor (length b.line) → b.cursor < length b.line → Settles r (potential b) (stepped a b)
    unfolding Settles
    steps a r b fits below =
        chosen (Settles r (potential b)) a (passed b) (cond (has_operations b) (paid 1 b) (paid 1 (passed b))) (λ _. (omega arith, passes _ _ _ fits below)) (λ _.
        chosen (Settles r (potential b)) (has_operations b) (paid 1 b) (paid 1 (passed b)) (λ has_one. (omega (arith, paid_with_operations b has_one), fits))
        (λ _. (omega (arith, paid_less 1 b.max_ops), passes _ _ _ fits below)))

    acted_falls : (e : E) (c : Config R) → Stands Fits c → OnGoes (Lower Fits (potential c.buffer)) (acted m e c)
    unfolding acted Settles
    acted_falls e c stands =
        let b = marked m e c in
        let fits : Fits c.registers b.cursor (length b.line) = rw (length_of_marked m e c, cursor_of_marked m e c) stands in
        let same : potential b ≡ potential c.buffer = rw (length_of_marked m e c, cursor_of_marked m e c, budget_of_marked m e c) refl in
        let n = m.act e c.registers b in
        settled_goes (stepped (m.advances e)) (Lower Fits (potential c.buffer)) (behind_act n (m.next e) c) (λ inside.
        let below = below_end n.buffer inside in
        let down = steps (m.advances e) n.registers n.buffer (keeps e c.registers b fits below) below in
        (omega (arith, down.0, pays e c.registers b fits, same), down.1))

    by_entry_falls : (o : Option E) (c : Config R) → Stands Fits c → OnGoes (Lower Fits (potential c.buffer)) (by_entry m o c)
    unfolding by_entry
    by_entry_falls None c stands = tt
    by_entry_falls (Some e) c stands = acted_falls e c stands

    off_falls : (c : Config R) → Stands Fits c → OnGoes (Lower Fits (potential c.buffer)) (off m c)
    unfolding off
    off_falls c stands =
        chosen (OnGoes (Lower Fits (potential c.buffer))) (is_at_end c.buffer) (Ends c) (Goes _) (λ _. tt) (λ inside.
        let below = below_end c.buffer inside in
        (omega arith, passes _ _ _ stands below))

    -- a turn that goes on lowers the potential
    pub turn_falls : LowersPotential (turn m) Fits
    unfolding turn
    turn_falls c stands =
        let d = counted m c in
        chosen (OnGoes (Lower Fits (potential c.buffer))) (m.on d.last) (by_entry m (m.entry d.state (class_at m.class_of d.buffer)) d) (off m d)
        (λ _. by_entry_falls (m.entry d.state (class_at m.class_of d.buffer)) d stands) (λ _. off_falls d stands)

    -- a whole run is one turn, and the whole run of what it leaves
    pub whole_step : (c : Config R) → Stands Fits c → run_to_end m c ≡ followed (run_to_end m) (turn m c)
    unfolding run_to_end
    whole_step c stands = turns.whole_step (turn m) Fits turn_falls c stands

    -- it ends by itself
    pub runs_end : RunsEnd (turn m) Fits
    runs_end c stands = turns.whole_ends (turn m) Fits turn_falls c stands

    -- its turns are at most the potential and one more
    pub whole_counts : (c : Config R) → Stands Fits c → (run_to_end m c).turns ≤ c.turns + (potential c.buffer + 1)
    unfolding run_to_end
    whole_counts c stands = turns.whole_counts (turn m) Fits turn_falls (turn_counts m) c stands

    -- what each turn keeps, a whole run keeps
    pub whole_keeps : (P : Config R → Type 0) → ((c : Config R) → Stands Fits c → P c → P (left_by (turn m c))) → (c : Config R) → Stands Fits c → P c → P (run_to_end m c)
    unfolding run_to_end
    whole_keeps P step c stands p = turns.whole_keeps (turn m) Fits turn_falls P step c stands p

    module _ (Q : Buffer → Type 0)
        (on_mark : (b : Buffer) → Q b → Q (break_marked_at b))
        (on_act : (e : E) (r : R) (b : Buffer) → Fits r b.cursor (length b.line) → Q b → Q (m.act e r b).buffer)
        (on_pass : (b : Buffer) → Q b → Q (passed b))
        (on_pay : (b : Buffer) → Q b → Q (paid 1 b))
      where
        stepped_keeps : (a : Bool) (b : Buffer) → Q b → Q (stepped a b)
        stepped_keeps a b q =
            chosen Q a (passed b) (cond (has_operations b) (paid 1 b) (paid 1 (passed b))) (λ _. on_pass b q) (λ _.
            chosen Q (has_operations b) (paid 1 b) (paid 1 (passed b)) (λ _. on_pay b q) (λ _. on_pay (passed b) (on_pass b q)))

        marked_keeps : (e : E) (c : Config R) → Q c.buffer → Q (marked m e c)
        unfolding marked
        marked_keeps e c q =
            chosen Q (is_inside c.buffer && not (is_safe m e (m.entry 0 (class_at m.class_of c.buffer)) (m.entry c.state 0) c)) (break_marked_at c.buffer) c.buffer (λ _. on_mark c.buffer q) (λ _. q)

        by_entry_keeps : (o : Option E) (c : Config R) → Stands Fits c → Q c.buffer → Q (left_by (by_entry m o c)).buffer
        unfolding by_entry acted
        by_entry_keeps None c stands q = q
        by_entry_keeps (Some e) c stands q =
            let b = marked m e c in
            let fits : Fits c.registers b.cursor (length b.line) = rw (length_of_marked m e c, cursor_of_marked m e c) stands in
            settled_keeps (stepped (m.advances e)) Q (stepped_keeps (m.advances e)) _ (on_act e c.registers b fits (marked_keeps e c q))

        off_keeps : (c : Config R) → Q c.buffer → Q (left_by (off m c)).buffer
        unfolding off
        off_keeps c q = chosen (λ (t : Turn (Config R)). Q (left_by t).buffer) (is_at_end c.buffer) (Ends c) (Goes _) (λ _. q) (λ _. on_pass c.buffer q)

        -- what marks, acts, passing and paying keep of a buffer, a turn keeps
        pub turn_keeps : (c : Config R) → Stands Fits c → Q c.buffer → Q (left_by (turn m c)).buffer
        unfolding turn
        turn_keeps c stands q =
            let d = counted m c in
            chosen (λ (t : Turn (Config R)). Q (left_by t).buffer) (m.on d.last) (by_entry m (m.entry d.state (class_at m.class_of d.buffer)) d) (off m d)
            (λ _. by_entry_keeps (m.entry d.state (class_at m.class_of d.buffer)) d stands q) (λ _. off_keeps d q)

        -- and so does a whole run
        pub buffer_kept : (c : Config R) → Stands Fits c → Q c.buffer → Q (run_to_end m c).buffer
        buffer_kept c stands q = whole_keeps (λ (d : Config R). Q d.buffer) turn_keeps c stands q

    -- where no act adds to length and budget, no run does
    pub whole_bounded : Bounded m.act Fits → (c : Config R) → Stands Fits c → extent (run_to_end m c).buffer ≤ extent c.buffer
    whole_bounded law c stands =
        buffer_kept (λ b. extent b ≤ extent c.buffer)
        (λ b q. omega (arith, q, length_unsafe b (Some (b.cursor - 1)) (Some (b.cursor + 1))))
        (λ e r b fit q. omega (arith, q, law e r b fit))
        (λ b q. q) (λ b q. omega (arith, q, paid_less 1 b.max_ops)) c stands (omega arith)

    -- where no act shortens the line, no run does
    pub whole_longer : Lengthens m.act Fits → (n : ℕ) (c : Config R) → Stands Fits c → n ≤ length c.buffer.line → n ≤ length (run_to_end m c).buffer.line
    whole_longer law n c stands more =
        buffer_kept (λ b. n ≤ length b.line)
        (λ b q. omega (arith, q, length_unsafe b (Some (b.cursor - 1)) (Some (b.cursor + 1))))
        (λ e r b fit q. omega (arith, q, law e r b fit))
        (λ b q. q) (λ b q. q) c stands more

    -- a line that is long behind a turn is long behind the run
    pub longer_after : Lengthens m.act Fits → (n : ℕ) (c : Config R) → Stands Fits c → n ≤ length (left_by (turn m c)).buffer.line → n ≤ length (run_to_end m c).buffer.line
    longer_after law n c stands more =
        rw (whole_step c stands) (by_turn (turn m c) (turn_falls c stands) more)
      where
        by_turn : (t : Turn (Config R)) → OnGoes (Lower Fits (potential c.buffer)) t → n ≤ length (left_by t).buffer.line → n ≤ length (followed (run_to_end m) t).buffer.line
        by_turn (Ends d) h more = more
        by_turn (Goes d) h more = whole_longer law n d h.1 more

    -- where acts keep the length, a run does
    pub whole_in_place : KeepsLength m.act Fits → (c : Config R) → Stands Fits c → length (run_to_end m c).buffer.line ≡ length c.buffer.line
    whole_in_place law c stands =
        buffer_kept (λ b. length b.line ≡ length c.buffer.line)
        (λ b q. length_unsafe b (Some (b.cursor - 1)) (Some (b.cursor + 1)) ∙ q)
        (λ e r b fit q. law e r b fit ∙ q)
        (λ b q. q) (λ b q. q) c stands refl

    -- where acts keep the settings, a turn does, and a run
    pub turn_settings : KeepsSettings m.act Fits → (b : Buffer) (c : Config R) → Stands Fits c → SameSettings b c.buffer → SameSettings b (left_by (turn m c)).buffer
    turn_settings law b c stands same =
        turn_keeps (SameSettings b)
        (λ d q. settings_then b d _ q (record { direction = refl; cluster_level = refl; flags = refl; scratch_flags = refl; max_len = refl; successful = refl }))
        (λ e r d fit q. settings_then b d _ q (law e r d fit))
        (λ d q. settings_then b d _ q (record { direction = refl; cluster_level = refl; flags = refl; scratch_flags = refl; max_len = refl; successful = refl }))
        (λ d q. settings_then b d _ q (record { direction = refl; cluster_level = refl; flags = refl; scratch_flags = refl; max_len = refl; successful = refl }))
        c stands same

    pub turn_longer : Lengthens m.act Fits → (n : ℕ) (c : Config R) → Stands Fits c → n ≤ length c.buffer.line → n ≤ length (left_by (turn m c)).buffer.line
    turn_longer law n c stands more =
        turn_keeps (λ b. n ≤ length b.line)
        (λ b q. omega (arith, q, length_unsafe b (Some (b.cursor - 1)) (Some (b.cursor + 1))))
        (λ e r b fit q. omega (arith, q, law e r b fit))
        (λ b q. q) (λ b q. q) c stands more

    pub whole_settings : KeepsSettings m.act Fits → (c : Config R) → Stands Fits c → SameSettings c.buffer (run_to_end m c).buffer
    whole_settings law c stands =
        buffer_kept (SameSettings c.buffer)
        (λ b q. settings_then c.buffer b _ q (record { direction = refl; cluster_level = refl; flags = refl; scratch_flags = refl; max_len = refl; successful = refl }))
        (λ e r b fit q. settings_then c.buffer b _ q (law e r b fit))
        (λ b q. settings_then c.buffer b _ q (record { direction = refl; cluster_level = refl; flags = refl; scratch_flags = refl; max_len = refl; successful = refl }))
        (λ b q. settings_then c.buffer b _ q (record { direction = refl; cluster_level = refl; flags = refl; scratch_flags = refl; max_len = refl; successful = refl }))
        c stands (settings_stay c.buffer)

    -- where acts keep the positions, a run does, and where they make none, it makes none
    pub whole_keeps_positions : KeepsPositions m.act Fits → (c : Config R) → Stands Fits c → (run_to_end m c).buffer.positions ≡ c.buffer.positions
    whole_keeps_positions law c stands =
        buffer_kept (λ b. b.positions ≡ c.buffer.positions) (λ b q. q) (λ e r b fit q. law e r b fit ∙ q) (λ b q. q) (λ b q. q) c stands refl

    pub whole_makes_none : MakesNoPositions m.act Fits → (c : Config R) → Stands Fits c → c.buffer.positions ≡ None → (run_to_end m c).buffer.positions ≡ None
    whole_makes_none law c stands none =
        buffer_kept (λ b. b.positions ≡ None) (λ b q. q) (λ e r b fit q. law e r b fit q) (λ b q. q) (λ b q. q) c stands none
