-- A kerning machine's run on its way: a turn that goes on, and one that ends.
use Rattle.std.proofs.Common.{◌≡◌, ◌∙◌, refl, ℕ, ◌+◌, ◌<◌, ◌≤◌, ℤ, pos, negsuc, arith}
use Rattle.std.specs.Int.Signed.{mag}
use Rattle.aat_run.specs.Budget.{potential, operations_left}
use Rattle.aat_run.specs.Context.{Config}
use Rattle.aat_run.specs.Laws.{KeepsFit, PassesFit, Stands}
use Rattle.aat_run.specs.Machine.{Turn, Goes, Ends}
use Rattle.aat_run.specs.facts.Turns.{comes_on, comes_to_end}
use Rattle.aat_run.specs.inside.Standing.{HasCome}
use Rattle.aat_kerning_machines.specs.KerningLaws.{ChangesPositionsAlone}
use Rattle.aat_kerning_machines.specs.KerningMachine.{KerningMachine, kerning_turn, kerning_whole}
use Rattle.aat_kerning_machines.specs.facts.KerningRuns.{turn_counts, turn_falls, spends}

module _ {R E : Type 0} (m : KerningMachine R E) (fits : R → ℕ → ℕ → Type 0)
    (places : ChangesPositionsAlone m.act fits) (keeps : KeepsFit m.act fits) (passes : PassesFit fits)
  where
    module _ (from to : Config R) (come : HasCome (kerning_turn m) fits from to) where
      -- behind a turn that goes on
      pub goes_on :
          (d : Config R) → kerning_turn m to ≡ Goes d
          → (potential d.buffer < potential to.buffer) × HasCome (kerning_turn m) fits from d
      goes_on d goes =
          comes_on (kerning_turn m) fits (turn_falls m fits places keeps passes) (turn_counts m) from to come d goes

      -- behind the one that ends
      pub ends : (d : Config R) → kerning_turn m to ≡ Ends d → d ≡ kerning_whole m from
      unfolding kerning_whole
      ends d last =
          (comes_to_end (kerning_turn m) fits (turn_falls m fits places keeps passes) (turn_counts m) from to come d last).0

    -- what a whole run spends
    pub ends_paid :
        (from d : Config R) → Stands fits from → d ≡ kerning_whole m from
        → d.turns + operations_left d.buffer.max_ops ≤ from.turns + potential from.buffer + 1
    ends_paid from d fit whole =
        let spent = spends m fits places keeps passes from fit in
        rw whole (omega (arith, spent))

-- a run that has set out
pub come_first : {R : Type 0} (turn : Config R → Turn (Config R)) (fits : R → ℕ → ℕ → Type 0) (c : Config R) → Stands fits c → HasCome turn fits c c
come_first turn fits c stands = record { run = refl; fit = stands; counted = omega arith }

-- two parts of a way
pub come_then : {R : Type 0} (turn : Config R → Turn (Config R)) (fits : R → ℕ → ℕ → Type 0) (a b c : Config R) → HasCome turn fits a b → HasCome turn fits b c → HasCome turn fits a c
come_then turn fits a b c first second =
    record { run = second.run ∙ first.run; fit = second.fit; counted = omega (arith, first.counted, second.counted) }

-- a budget of 32 bits
pub few_operations : (budget : ℤ) → mag budget < 2147483648 → operations_left budget < 2147483648
few_operations (pos n) fits = fits
few_operations (negsuc n) fits = omega arith
