-- The theory of a kerning machine's runs, over the laws of an act alone.
use Rattle.std.proofs.Common.{◌≡◌, ℕ, ◌+◌, ◌-◌, ◌<◌, ◌≤◌, ◌&&◌, ℤ, pos, negsuc, ◌-ℤ◌, Bool, true, false, not, cond, length, Option, Some, None, refl, ap, ◌∙◌, arith, nat_lt}
use Rattle.std.specs.Prelude.{int_lt}
use Rattle.std.specs.Int.{int_max}
use Rattle.std.proofs.lemmas.Int.{ints}
use Rattle.aat_buffer.specs.Buffer.{Buffer}
use Rattle.aat_buffer.specs.Marks.{unsafe_to_break}
use Rattle.aat_buffer.specs.facts.Cases.{chosen, either}
use Rattle.aat_buffer.specs.facts.Lines.{length_unsafe}
use Rattle.aat_run.specs.Budget.{paid, has_operations, operations_left, potential}
use Rattle.aat_run.specs.Context.{Config, is_inside, class_at}
use Rattle.aat_run.specs.Laws.{KeepsFit, PassesFit, Stands, RunsEnd}
use Rattle.aat_run.specs.Machine.{Turn, left_by, behind_act, passed, break_marked_at}
use Rattle.aat_run.specs.facts.MachineRuns.{below_end, paid_less, paid_with_operations}
use Rattle.aat_run.specs.facts.Runs.{OnGoes, weaker}
use Rattle.aat_run.specs.facts.Turns.{Lower, LowersPotential, whole_ends, whole_keeps, whole_spends, settled_turns, settled_keeps, settled_goes}
use Rattle.aat_kerning_machines.specs.KerningLaws.{ChangesPositionsAlone}
use Rattle.aat_kerning_machines.specs.KerningMachine.{KerningMachine, moved_on, break_marked_behind, kerning_stepped, depends_on_before, kerning_marked, kerning_acted, looked_ahead, kerning_by_entry, kerning_turn, kerning_whole}

-- a payment that leaves operations took one
pub paid_before :
    (b : Buffer) → has_operations (paid 1 b) ≡ true → operations_left (paid 1 b).max_ops + 1
    ≡ operations_left b.max_ops
paid_before b h = before b.max_ops h
  where
    before :
        (z : ℤ) → int_lt (pos 0) (int_max (z -ℤ pos 1) (negsuc 2147483647)) ≡ true
        → operations_left (int_max (z -ℤ pos 1) (negsuc 2147483647)) + 1 ≡ operations_left z
    before z h = grind (arith, ints, h)

-- what a choice of moving on leaves
pub of_moved :
    (P : Buffer → Type 0) (a : Bool) (b : Buffer) → P (passed b) → (has_operations b ≡ true → P b) → P (moved_on a b)
of_moved P true b pass stay = pass
of_moved P false b pass stay = by_budget (has_operations b) refl
  where
    by_budget : (r : Bool) → has_operations b ≡ r → P (cond (not r) (passed b) b)
    by_budget true e = stay e
    by_budget false e = pass

module _ {R E : Type 0} (m : KerningMachine R E) where
  turns_of_acted : (e : E) (c : Config R) → (left_by (kerning_acted m e c)).turns ≡ c.turns
  unfolding kerning_acted
  turns_of_acted e c = settled_turns (kerning_stepped m e) _

  turns_ahead : (e : E) (o : Option E) (c : Config R) → (left_by (looked_ahead m e o c)).turns ≡ c.turns
  unfolding looked_ahead
  turns_ahead e None c = refl
  turns_ahead e (Some f) c =
      turns_of_acted e _ ∙ either (λ (d : Config R). d.turns) (m.actionable f) (record c { buffer = break_marked_behind c.buffer }) c _ refl refl

  turns_by_entry : (o : Option E) (c : Config R) → (left_by (kerning_by_entry m o c)).turns ≡ c.turns
  unfolding kerning_by_entry
  turns_by_entry None c = refl
  turns_by_entry (Some e) c =
      let d = record c { buffer = kerning_marked m e c } in
      either (λ (t : Turn (Config R)). (left_by t).turns) (nat_lt (d.buffer.cursor + 1) (length d.buffer.line))
      (looked_ahead m e (m.entry d.state 0) d) (kerning_acted m e d) _ (turns_ahead e (m.entry d.state 0) d) (turns_of_acted e d)

  -- each turn counts one
  pub turn_counts : (c : Config R) → (left_by (kerning_turn m c)).turns ≡ c.turns + 1
  unfolding kerning_turn
  turn_counts c = turns_by_entry (m.entry c.state (class_at m.class_of c.buffer)) _

  -- a fact of the buffer that marking does not change
  pub of_marked :
      {A : Type 0} (f : Buffer → A) (e : E) (c : Config R) → f (break_marked_at c.buffer) ≡ f c.buffer
      → f (kerning_marked m e c) ≡ f c.buffer
  unfolding kerning_marked
  of_marked f e c h =
      either f (is_inside c.buffer && depends_on_before m e c) (break_marked_at c.buffer) c.buffer _ h refl

  length_of_marked : (e : E) (c : Config R) → length (kerning_marked m e c).line ≡ length c.buffer.line
  length_of_marked e c =
      of_marked (λ (x : Buffer). length x.line) e c (length_unsafe c.buffer (Some (c.buffer.cursor - 1)) (Some (c.buffer.cursor + 1)))

module _ {R E : Type 0} (m : KerningMachine R E) (Fits : R → ℕ → ℕ → Type 0)
    (places : ChangesPositionsAlone m.act Fits) (keeps : KeepsFit m.act Fits) (passes : PassesFit Fits)
  where
    Settles : R → ℕ → Buffer → Type 0
    Settles r n b = (potential b < n) × Fits r b.cursor (length b.line)

    steps :
        (e : E) (r : R) (b : Buffer) → Fits r b.cursor (length b.line) → b.cursor < length b.line
        → Settles r (potential b) (kerning_stepped m e b)
    unfolding Settles
    steps e r b fits below =
        chosen (Settles r (potential b)) m.pays_first (moved_on (m.advances e) (paid 1 b)) (paid 1 (moved_on (m.advances e) b))
        (λ _. of_moved (Settles r (potential b)) (m.advances e) (paid 1 b) (omega (arith, paid_less 1 b.max_ops), passes _ _ _ fits below)
        (λ left. (omega (arith, paid_before b left), fits)))
        (λ _. of_moved (λ d. Settles r (potential b) (paid 1 d)) (m.advances e) b (omega (arith, paid_less 1 b.max_ops), passes _ _ _ fits below)
        (λ left. (omega (arith, paid_with_operations b left), fits)))

    -- an act and what follows it lower the potential
    acted_falls : (e : E) (c : Config R) → Stands Fits c → OnGoes (Lower Fits (potential c.buffer)) (kerning_acted m e c)
    unfolding kerning_acted Settles
    acted_falls e c stands =
        let n = m.act e c.registers c.buffer in
        let place = places e c.registers c.buffer stands in
        settled_goes (kerning_stepped m e) (Lower Fits (potential c.buffer)) (behind_act n (m.next e) c) (λ inside.
        let below = below_end n.buffer inside in
        let down = steps e n.registers n.buffer (keeps e c.registers c.buffer stands below) below in
        let same : potential n.buffer ≡ potential c.buffer = rw (place.line, place.cursor, place.budget) refl in
        (omega (arith, down.0, same), down.1))

    -- the same of a buffer that was marked before
    marked_falls :
        (b : Buffer) (t : Turn (Config R)) (n : ℕ) → potential b ≡ n → OnGoes (Lower Fits (potential b)) t
        → OnGoes (Lower Fits n) t
    marked_falls b t n level h =
        weaker (Lower Fits (potential b)) (Lower Fits n) t (λ d h. (omega (arith, h.0, level), h.1)) h

    ahead_falls :
        (e : E) (o : Option E) (c : Config R) → Stands Fits c
        → OnGoes (Lower Fits (potential c.buffer)) (looked_ahead m e o c)
    unfolding looked_ahead
    ahead_falls e None c stands = tt
    ahead_falls e (Some f) c stands =
        let same = length_unsafe c.buffer (Some c.buffer.cursor) (Some (c.buffer.cursor + 2)) in
        let marked = record c { buffer = break_marked_behind c.buffer } in
        let stands_marked : Stands Fits marked = rw same stands in
        chosen (λ d. OnGoes (Lower Fits (potential c.buffer)) (kerning_acted m e d)) (m.actionable f) marked c
        (λ _. marked_falls marked.buffer (kerning_acted m e marked) (potential c.buffer) (rw same refl) (acted_falls e marked stands_marked))
        (λ _. acted_falls e c stands)

    by_entry_falls :
        (o : Option E) (c : Config R) → Stands Fits c → OnGoes (Lower Fits (potential c.buffer)) (kerning_by_entry m o c)
    unfolding kerning_by_entry
    by_entry_falls None c stands = tt
    by_entry_falls (Some e) c stands =
        let b = kerning_marked m e c in
        let d = record c { buffer = b } in
        let long = length_of_marked m e c in
        let cursor : b.cursor ≡ c.buffer.cursor = of_marked m (λ (x : Buffer). x.cursor) e c refl in
        let budget : b.max_ops ≡ c.buffer.max_ops = of_marked m (λ (x : Buffer). x.max_ops) e c refl in
        let stands_marked : Stands Fits d = rw (long, cursor) stands in
        let level : potential b ≡ potential c.buffer = rw (long, cursor, budget) refl in
        chosen (OnGoes (Lower Fits (potential c.buffer))) (nat_lt (b.cursor + 1) (length b.line)) (looked_ahead m e (m.entry c.state 0) d) (kerning_acted m e d)
        (λ _. marked_falls b (looked_ahead m e (m.entry c.state 0) d) (potential c.buffer) level (ahead_falls e (m.entry c.state 0) d stands_marked))
        (λ _. marked_falls b (kerning_acted m e d) (potential c.buffer) level (acted_falls e d stands_marked))

    -- a turn that goes on lowers the potential
    pub turn_falls : LowersPotential (kerning_turn m) Fits
    unfolding kerning_turn
    turn_falls c stands =
        by_entry_falls (m.entry c.state (class_at m.class_of c.buffer)) (record c { turns = c.turns + 1 }) stands

    -- a whole run ends by itself
    pub runs_end : RunsEnd (kerning_turn m) Fits
    runs_end c stands = whole_ends (kerning_turn m) Fits turn_falls c stands

    module _ (Q : Buffer → Type 0)
        (on_mark : (b : Buffer) (i j : Option ℕ) → Q b → Q (unsafe_to_break b i j))
        (on_act : (e : E) (r : R) (b : Buffer) → Fits r b.cursor (length b.line) → Q b → Q (m.act e r b).buffer)
        (on_pass : (b : Buffer) → Q b → Q (passed b))
        (on_pay : (b : Buffer) → Q b → Q (paid 1 b))
      where
        moved_keeps : (a : Bool) (b : Buffer) → Q b → Q (moved_on a b)
        moved_keeps a b q = of_moved Q a b (on_pass b q) (λ _. q)

        stepped_keeps : (e : E) (b : Buffer) → Q b → Q (kerning_stepped m e b)
        stepped_keeps e b q =
            chosen Q m.pays_first (moved_on (m.advances e) (paid 1 b)) (paid 1 (moved_on (m.advances e) b))
            (λ _. moved_keeps (m.advances e) (paid 1 b) (on_pay b q)) (λ _. on_pay (moved_on (m.advances e) b) (moved_keeps (m.advances e) b q))

        acted_keeps : (e : E) (c : Config R) → Stands Fits c → Q c.buffer → Q (left_by (kerning_acted m e c)).buffer
        unfolding kerning_acted
        acted_keeps e c stands q =
            settled_keeps (kerning_stepped m e) Q (stepped_keeps e) _ (on_act e c.registers c.buffer stands q)

        ahead_keeps :
            (e : E) (o : Option E) (c : Config R) → Stands Fits c → Q c.buffer → Q (left_by (looked_ahead m e o c)).buffer
        unfolding looked_ahead
        ahead_keeps e None c stands q = q
        ahead_keeps e (Some f) c stands q =
            let marked = record c { buffer = break_marked_behind c.buffer } in
            let stands_marked : Stands Fits marked = rw (length_unsafe c.buffer (Some c.buffer.cursor) (Some (c.buffer.cursor + 2))) stands in
            chosen (λ (d : Config R). Q (left_by (kerning_acted m e d)).buffer) (m.actionable f) marked c
            (λ _. acted_keeps e marked stands_marked (on_mark c.buffer (Some c.buffer.cursor) (Some (c.buffer.cursor + 2)) q)) (λ _. acted_keeps e c stands q)

        by_entry_keeps :
            (o : Option E) (c : Config R) → Stands Fits c → Q c.buffer → Q (left_by (kerning_by_entry m o c)).buffer
        unfolding kerning_by_entry kerning_marked
        by_entry_keeps None c stands q = q
        by_entry_keeps (Some e) c stands q =
            let b = kerning_marked m e c in
            let d = record c { buffer = b } in
            let cursor : b.cursor ≡ c.buffer.cursor = of_marked m (λ (x : Buffer). x.cursor) e c refl in
            let stands_marked : Stands Fits d = rw (length_of_marked m e c, cursor) stands in
            let marked : Q b =
            chosen Q (is_inside c.buffer && depends_on_before m e c) (break_marked_at c.buffer) c.buffer
            (λ _. on_mark c.buffer (Some (c.buffer.cursor - 1)) (Some (c.buffer.cursor + 1)) q) (λ _. q) in
            chosen (λ (t : Turn (Config R)). Q (left_by t).buffer) (nat_lt (b.cursor + 1) (length b.line)) (looked_ahead m e (m.entry c.state 0) d) (kerning_acted m e d)
            (λ _. ahead_keeps e (m.entry c.state 0) d stands_marked marked) (λ _. acted_keeps e d stands_marked marked)

        -- what marks, acts, passing and paying keep of a buffer, a turn keeps
        turn_keeps :
            (c : Config R) → Stands Fits c → Q c.buffer → Q (left_by (kerning_turn m c)).buffer
        unfolding kerning_turn
        turn_keeps c stands q =
            by_entry_keeps (m.entry c.state (class_at m.class_of c.buffer)) (record c { turns = c.turns + 1 }) stands q

        -- and so does a whole run
        pub buffer_kept : (c : Config R) → Stands Fits c → Q c.buffer → Q (kerning_whole m c).buffer
        unfolding kerning_whole
        buffer_kept c stands q =
            whole_keeps (kerning_turn m) Fits turn_falls (λ (d : Config R). Q d.buffer) turn_keeps c stands q

    -- no turn adds to the potential
    turn_lowers :
        (c : Config R) → Stands Fits c → potential (left_by (kerning_turn m c)).buffer
        ≤ potential c.buffer
    turn_lowers c stands =
        turn_keeps (λ b. potential b ≤ potential c.buffer)
        (λ b i j q. omega (arith, q, length_unsafe b i j))
        (λ e r b fit q. let place = places e r b fit in rw (place.line, place.cursor, place.budget) q)
        (λ b q. omega (arith, q)) (λ b q. omega (arith, q, paid_less 1 b.max_ops)) c stands (omega arith)

    -- a whole run's turns and the potential that it leaves are at most the potential before it and one more
    pub spends :
        (c : Config R) → Stands Fits c
        → (kerning_whole m c).turns + potential (kerning_whole m c).buffer ≤ c.turns + potential c.buffer + 1
    unfolding kerning_whole
    spends c stands = whole_spends (kerning_turn m) Fits turn_falls (turn_counts m) turn_lowers c stands

    -- a whole run keeps the length
    pub keeps_length :
        (c : Config R) → Stands Fits c → length (kerning_whole m c).buffer.line ≡ length c.buffer.line
    keeps_length c stands =
        buffer_kept (λ b. length b.line ≡ length c.buffer.line)
        (λ b i j q. length_unsafe b i j ∙ q)
        (λ e r b fit q. ap length (places e r b fit).line ∙ q)
        (λ b q. q) (λ b q. q) c stands refl
