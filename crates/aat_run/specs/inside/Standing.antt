-- Where a run stands behind some of its turns.
use Rattle.std.specs.Prelude.{◌≡◌, ℕ, ◌+◌, ◌≤◌}
use Rattle.aat_run.specs.Budget.{potential}
use Rattle.aat_run.specs.Context.{Config}
use Rattle.aat_run.specs.Laws.{Stands}
use Rattle.aat_run.specs.Machine.{Turn, whole_run}

-- a run by these turns has come from one place to another: the rest of it is the whole run from there
pub record HasCome {R : Type 0}
    (turn : Config R → Turn (Config R)) (fits : R → ℕ → ℕ → Type 0) (from to : Config R) : Type 0
  where
    pub run : whole_run turn to ≡ whole_run turn from
    pub fit : Stands fits to
    pub counted : to.turns + potential to.buffer ≤ from.turns + potential from.buffer
