-- Turns that a loop takes, one after the other.
use Rattle.std.proofs.Common.{◌≡◌, ◌∙◌, ap, sym, ℕ, suc, ◌+◌, ◌-◌, ◌<◌, ◌≤◌, Bool, true, false, Option, Some, None, Result, Ok, Err, arith}
use Rattle.aat_bytes.specs.Faults.{after}
use Rattle.aat_bytes.specs.declared.error.Fault.{Fault}
use Rattle.aat_read_charstrings.specs.Runs.{run}

module _ {S : Type 0} (turn : S → Result S Fault) (is_last : S → Bool) where
  -- what comes behind a turn
  abbrev pub goes_on : ℕ → S → Result (Option S) Fault
  goes_on turns next = elim (is_last next) [ true ↦ Ok (Some next) | false ↦ run turn is_last turns next ]

  module _ (state : S) (limit i : ℕ) (below : i < limit) (all : Result (Option S) Fault)
      (was : run turn is_last (limit - i) state ≡ all) where
    opened : after (turn state) (goes_on (limit - (i + 1))) ≡ all
    unfolding run
    opened =
        let more : limit - i ≡ suc (limit - (i + 1)) = omega arith in
        sym (ap (λ n. run turn is_last n state) more) ∙ was

    -- the turn has a fault
    pub run_fails : (fault : Fault) → turn state ≡ Err fault → all ≡ Err fault
    run_fails fault fails = sym opened ∙ ap (λ r. after r (goes_on (limit - (i + 1)))) fails

    module _ (next : S) (turned : turn state ≡ Ok next) where
      behind : goes_on (limit - (i + 1)) next ≡ all
      behind = sym (ap (λ r. after r (goes_on (limit - (i + 1)))) turned) ∙ opened

      -- the turn is the last one
      pub run_ends : is_last next ≡ true → all ≡ Ok (Some next)
      run_ends last =
          let at : Bool → Result (Option S) Fault = λ b. elim b [ true ↦ Ok (Some next) | false ↦ run turn is_last (limit - (i + 1)) next ] in
          sym behind ∙ ap at last

      -- the turn is not the last one
      pub run_continues : is_last next ≡ false → run turn is_last (limit - (i + 1)) next ≡ all
      run_continues more =
          let at : Bool → Result (Option S) Fault = λ b. elim b [ true ↦ Ok (Some next) | false ↦ run turn is_last (limit - (i + 1)) next ] in
          sym (ap at more) ∙ behind

  -- no turn is left
  pub run_out :
      (state : S) (limit i : ℕ)
      → limit ≤ i
      → (all : Result (Option S) Fault)
      → run turn is_last (limit - i) state ≡ all
      → all ≡ Ok None
  unfolding run
  run_out state limit i over all was =
      let none : limit - i ≡ 0 = omega arith in sym was ∙ ap (λ n. run turn is_last n state) none
