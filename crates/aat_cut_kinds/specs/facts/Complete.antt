-- Where a machine has an entry for each class in each state that it may reach, a run comes to the end of the line.
use Rattle.std.proofs.Common.{◌≡◌, ℕ, zero, suc, ◌+◌, ◌<◌, ◌≤◌, true, length, Some, arith}
use Rattle.std.proofs.lemmas.Bool.Decides.{nat_tests}
use Rattle.aat_buffer.specs.facts.Cases.{chosen}
use Rattle.aat_run.specs.Budget.{potential}
use Rattle.aat_run.specs.Context.{Config, Machine, class_at, is_at_end}
use Rattle.aat_run.specs.Laws.{KeepsFit, PassesFit, Pays, Stands}
use Rattle.aat_run.specs.Machine.{Ends, Goes, OnGoes, Turn, acted, behind_act, by_entry, counted, marked, off, passed, run_to_end, stepped, turn}
use Rattle.aat_run.specs.facts.MachineRuns.{turn_falls, whole_step}
use Rattle.aat_run.specs.facts.Runs.{followed}
use Rattle.aat_run.specs.facts.Turns.{Lower}

module _ {R E : Type 0} (m : Machine R E) (fits : R → ℕ → ℕ → Type 0) (keeps : KeepsFit m.act fits) (passes : PassesFit fits) (pays : Pays m.act fits)
    (reached : ℕ → Type 0) (first : reached 0) (entries : (t k : ℕ) → reached t → (e : E) × (m.entry t k ≡ Some e) × reached (m.next e))
  where
    -- a turn ends at the end of the line, or goes on to a state that is reached
    Complete : Turn (Config R) → Type 0
    Complete (Ends d) = length d.buffer.line ≤ d.buffer.cursor
    Complete (Goes d) = reached d.state

    at_end : (c : Config R) → is_at_end c.buffer ≡ true → length c.buffer.line ≤ c.buffer.cursor
    at_end c is = grind (arith, nat_tests, is)

    complete_acted : (e : E) (c : Config R) → reached (m.next e) → Complete (acted m e c)
    unfolding acted Complete
    complete_acted e c next =
        let d : Config R = behind_act (m.act e c.registers (marked m e c)) (m.next e) c in
        chosen Complete (is_at_end d.buffer) (Ends d) (Goes (record d { buffer = stepped (m.advances e) d.buffer })) (λ is. at_end d is) (λ _. next)

    complete_off : (c : Config R) → Complete (off m c)
    unfolding off Complete
    complete_off c = chosen Complete (is_at_end c.buffer) (Ends c) (Goes (record c { buffer = passed c.buffer; state = 0 })) (λ is. at_end c is) (λ _. first)

    complete_turn : (c : Config R) → reached c.state → Complete (turn m c)
    unfolding turn by_entry
    complete_turn c known =
        let d = counted m c in
        let there = entries c.state (class_at m.class_of c.buffer) known in
        rw there.1 (chosen Complete (m.on d.last) (acted m there.0 d) (off m d) (λ _. complete_acted there.0 d there.2) (λ _. complete_off d))

    IsThrough : Config R → Type 0
    IsThrough c = length c.buffer.line ≤ c.buffer.cursor

    behind_turn : (n : ℕ) → ((d : Config R) → potential d.buffer < n → Stands fits d → reached d.state → IsThrough (run_to_end m d))
        → (t : Turn (Config R)) → Complete t → OnGoes (Lower fits n) t → IsThrough (followed (run_to_end m) t)
    unfolding Complete IsThrough
    behind_turn n more (Ends d) complete lower = complete
    behind_turn n more (Goes d) complete lower = more d lower.0 lower.1 complete

    comes : (k : ℕ) (c : Config R) → potential c.buffer < k → Stands fits c → reached c.state → IsThrough (run_to_end m c)
    unfolding IsThrough
    comes zero c low stands known = absurd (let below = low in omega (arith, below))
    comes (suc k) c low stands known =
        rw (whole_step m fits keeps passes pays c stands)
        (behind_turn (potential c.buffer) (λ d lower fit there. comes k d (omega (arith, low, lower)) fit there) (turn m c) (complete_turn c known) (turn_falls m fits keeps passes pays c stands))

    pub complete_runs_through : (c : Config R) → Stands fits c → reached c.state → length (run_to_end m c).buffer.line ≤ (run_to_end m c).buffer.cursor
    unfolding IsThrough
    complete_runs_through c stands known = comes (potential c.buffer + 1) c (omega arith) stands known
