-- A run on its way: a turn that goes on, one that ends, and one that is refused.
use Rattle.std.proofs.Common.{◌≡◌, ◌∙◌, ℕ, ◌+◌, ◌<◌, ◌≤◌, length, arith}
use Rattle.aat_run.specs.Budget.{potential}
use Rattle.aat_run.specs.Context.{Machine, Config}
use Rattle.aat_run.specs.Driven.{IsRefusal}
use Rattle.aat_run.specs.Laws.{KeepsFit, PassesFit, Pays, Lengthens, KeepsSettings, SameSettings}
use Rattle.aat_run.specs.Machine.{Turn, Goes, Ends, left_by, turn, run_to_end}
use Rattle.aat_run.specs.facts.MachineRuns.{turn_falls, turn_counts, turn_settings, turn_longer, longer_after}
use Rattle.aat_run.specs.facts.Turns.{comes_on, comes_to_end}
use Rattle.aat_run.specs.inside.Standing.{HasCome}
use Rattle.aat_run.specs.declared.error.AatError.{AatError}
use Rattle.aat_run.specs.declared.error.AatError.TheVariants.{AaltValue, TooLong, OutOfMemory, BufferFailed}

-- two parts of a way
pub come_then : {R : Type 0} (turn : Config R → Turn (Config R)) (fits : R → ℕ → ℕ → Type 0) (a b c : Config R) → HasCome turn fits a b → HasCome turn fits b c → HasCome turn fits a c
come_then turn fits a b c first second = record { run = second.run ∙ first.run; fit = second.fit; counted = omega (arith, first.counted, second.counted) }

module _ {R E : Type 0} (m : Machine R E) (fits : R → ℕ → ℕ → Type 0)
    (keeps : KeepsFit m.act fits) (passes : PassesFit fits) (pays : Pays m.act fits) (from to : Config R) (come : HasCome (turn m) fits from to)
  where
    -- behind the turn that ends
    pub ends : (d : Config R) → turn m to ≡ Ends d → (d ≡ run_to_end m from) × (d.turns ≤ from.turns + potential from.buffer + 1)
    unfolding run_to_end
    ends d last = comes_to_end (turn m) fits (turn_falls m fits keeps passes pays) (turn_counts m) from to come d last

    module _ (lengthens : Lengthens m.act fits) (longer : length from.buffer.line ≤ length to.buffer.line)
        (settings : KeepsSettings m.act fits) (same : SameSettings from.buffer to.buffer)
      where
        -- behind one that goes on
        pub goes_on : (d : Config R) → turn m to ≡ Goes d
            → (potential d.buffer < potential to.buffer) × HasCome (turn m) fits from d × SameSettings from.buffer d.buffer × (length from.buffer.line ≤ length d.buffer.line)
        goes_on d goes =
            let on = comes_on (turn m) fits (turn_falls m fits keeps passes pays) (turn_counts m) from to come d goes in
            let stay = rw goes at (turn_settings m fits keeps passes pays settings from.buffer to come.fit same) in
            let more = rw goes at (turn_longer m fits keeps passes pays lengthens (length from.buffer.line) to come.fit longer) in
            (on.0, on.1, stay, more)

        -- what a turn is refused for, the run is refused for
        pub refuses : (e : AatError) → IsRefusal to.buffer (left_by (turn m to)).buffer e → IsRefusal from.buffer (run_to_end m from).buffer e
        unfolding run_to_end
        refuses (AaltValue value) none = none
        refuses TooLong long =
            let more = longer_after m fits keeps passes pays lengthens (length (left_by (turn m to)).buffer.line) to come.fit (omega arith) in
            omega (arith, long, same.max_len, rw come.run at more)
        refuses OutOfMemory long =
            let more = longer_after m fits keeps passes pays lengthens (length (left_by (turn m to)).buffer.line) to come.fit (omega arith) in
            (omega (arith, long.0, longer, rw come.run at more), omega (arith, long.1, longer, same.max_len))
        refuses BufferFailed none = none
