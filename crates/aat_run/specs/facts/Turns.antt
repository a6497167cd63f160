-- The theory that all machines share: what a turn gives a whole run.
use Rattle.std.proofs.Common.{◌≡◌, ℕ, ◌+◌, ◌<◌, ◌≤◌, false, refl, sym, ◌∙◌, arith}
use Rattle.aat_buffer.specs.Buffer.{Buffer}
use Rattle.aat_buffer.specs.facts.Cases.{chosen, either}
use Rattle.aat_run.specs.Budget.{potential}
use Rattle.aat_run.specs.Context.{Config, is_at_end}
use Rattle.aat_run.specs.Laws.{Stands, RunsEnd}
use Rattle.aat_run.specs.Machine.{Turn, Ends, Goes, OnGoes, left_by, settled_by, whole_run}
use Rattle.aat_run.specs.facts.Runs.{followed, is_whole_run, first_turn, run_keeps, run_counts, run_spends}
use Rattle.aat_run.specs.inside.Standing.{HasCome}

-- the potential is lower, and the run may stand there
abbrev pub Lower : {R : Type 0} → (R → ℕ → ℕ → Type 0) → ℕ → Config R → Type 0
Lower fits n d = (potential d.buffer < n) × Stands fits d

-- a turn that goes on lowers the potential
abbrev pub LowersPotential : {R : Type 0} → (Config R → Turn (Config R)) → (R → ℕ → ℕ → Type 0) → Type 0
LowersPotential {R} turn fits = (c : Config R) → Stands fits c → OnGoes (Lower fits (potential c.buffer)) (turn c)

module _ {R : Type 0} (turn : Config R → Turn (Config R)) (fits : R → ℕ → ℕ → Type 0) (falls : LowersPotential turn fits) where
  left : Config R → ℕ
  left c = potential c.buffer

  -- a whole run is one turn, and the whole run of what it leaves
  pub whole_step : (c : Config R) → Stands fits c → whole_run turn c ≡ followed (whole_run turn) (turn c)
  unfolding left
  whole_step c stands = first_turn turn left (Stands fits) falls c stands

  -- a whole run ends by itself
  pub whole_ends : RunsEnd turn fits
  unfolding left
  whole_ends c stands = is_whole_run turn left (Stands fits) falls (potential c.buffer + 1) c stands (omega arith)

  -- what each turn keeps, a whole run keeps
  pub whole_keeps : (P : Config R → Type 0) → ((c : Config R) → Stands fits c → P c → P (left_by (turn c)))
      → (c : Config R) → Stands fits c → P c → P (whole_run turn c)
  unfolding left
  whole_keeps P step c stands p = run_keeps turn left (Stands fits) falls P step (potential c.buffer + 1) c stands p

  module _ (counts : (c : Config R) → (left_by (turn c)).turns ≡ c.turns + 1) where
    -- its turns are at most the potential and one more
    pub whole_counts : (c : Config R) → Stands fits c → (whole_run turn c).turns ≤ c.turns + (potential c.buffer + 1)
    unfolding left
    whole_counts c stands = run_counts turn left (Stands fits) falls (λ (d : Config R). d.turns) counts (potential c.buffer + 1) c stands

    -- where no turn adds to the potential, the turns of a whole run and the potential that it leaves are at most the
    -- potential before it and one more
    pub whole_spends : ((c : Config R) → Stands fits c → potential (left_by (turn c)).buffer ≤ potential c.buffer)
        → (c : Config R) → Stands fits c → (whole_run turn c).turns + potential (whole_run turn c).buffer ≤ c.turns + potential c.buffer + 1
    unfolding left
    whole_spends lowers c stands =
        run_spends turn left (Stands fits) falls (λ (d : Config R). d.turns) counts lowers (potential c.buffer + 1) c stands

    module _ (from to : Config R) (come : HasCome turn fits from to) where
      -- behind a turn that goes on
      pub comes_on : (d : Config R) → turn to ≡ Goes d → (potential d.buffer < potential to.buffer) × HasCome turn fits from d
      comes_on d goes =
          let down = rw goes at (falls to come.fit) in
          let one = rw goes at (counts to) in
          let step = rw goes at (whole_step to come.fit) in
          (down.0, record { run = sym step ∙ come.run; fit = down.1; counted = omega (arith, down.0, one, come.counted) })

      -- behind the one that ends
      pub comes_to_end : (d : Config R) → turn to ≡ Ends d → (d ≡ whole_run turn from) × (d.turns ≤ from.turns + potential from.buffer + 1)
      comes_to_end d last =
          let one = rw last at (counts to) in
          let step = rw last at (whole_step to come.fit) in
          (sym step ∙ come.run, omega (arith, one, come.counted))

-- what is settled behind an act
module _ {R : Type 0} (step : Buffer → Buffer) where
  pub settled_turns : (c : Config R) → (left_by (settled_by step c)).turns ≡ c.turns
  settled_turns c = either (λ (t : Turn (Config R)). (left_by t).turns) (is_at_end c.buffer) (Ends c) (Goes _) _ refl refl

  pub settled_keeps : (Q : Buffer → Type 0) → ((b : Buffer) → Q b → Q (step b)) → (c : Config R) → Q c.buffer → Q (left_by (settled_by step c)).buffer
  settled_keeps Q on_step c q = chosen (λ (t : Turn (Config R)). Q (left_by t).buffer) (is_at_end c.buffer) (Ends c) (Goes _) (λ _. q) (λ _. on_step c.buffer q)

  pub settled_goes : (P : Config R → Type 0) (c : Config R) → (is_at_end c.buffer ≡ false → P (record c { buffer = step c.buffer })) → OnGoes P (settled_by step c)
  settled_goes P c p = chosen (OnGoes P) (is_at_end c.buffer) (Ends c) (Goes _) (λ _. tt) p
