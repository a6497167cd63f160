-- Turns, one after the other.
use Rattle.std.specs.Prelude.{ℕ, zero, suc, Bool, true, false, Option, Some, None, Result, Ok}
use Rattle.aat_bytes.specs.Faults.{after}
use Rattle.aat_bytes.specs.declared.error.Fault.{Fault}

-- up to so many turns, until one is the last: nothing, where none of them is
unfoldable pub run : {S : Type 0} → (S → Result S Fault) → (S → Bool) → ℕ → S → Result (Option S) Fault
run turn is_last zero state = Ok None
run turn is_last (suc turns) state =
    after (turn state) (λ next. elim (is_last next) [ true ↦ Ok (Some next) | false ↦ run turn is_last turns next ])
