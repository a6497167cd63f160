-- What the run of a kind keeps, gathered from what the driver says.
use Rattle.std.proofs.Common.{subst, ◌≡◌, ℕ, arith}
use Rattle.std.specs.Prelude.{Result, Ok, Err, IfErr, IfOk, OnOk}
use Rattle.aat_buffer.specs.Buffer.{Buffer}
use Rattle.aat_buffer.specs.Clusters.{IsSmall}
use Rattle.aat_run.specs.Driven.{StaysWithin}
use Rattle.aat_run.specs.Laws.{IsBounded, SameSettings}
use Rattle.aat_run.specs.Outcome.{Outcome}
use Rattle.aat_run.specs.declared.error.AatError.{AatError}

-- a fact of a refusal by a buffer that is another one
pub err_map : (answer : Result ℕ AatError) (P : Outcome → AatError → Type 0) (o q : Outcome) → o ≡ q → IfErr answer (P o) → IfErr answer (P q)
err_map (Ok turns) P o q e p = tt
err_map (Err error) P o q e p = subst (λ x. P x error) e p

-- an answer of the driver stays within the bounds of a subtable
pub within_by : (answer : Result ℕ AatError) (b d : Buffer) → OnOk answer (IsSmall d) → IfOk answer (λ turns. IsBounded b (record { buffer = d; turns = turns }))
    → OnOk answer (SameSettings b d) → IfOk answer (StaysWithin 1 b d)
within_by (Ok turns) b d ids bounded settings =
    record { ids = ids; counted = omega (arith, bounded.turns); extent = bounded.extent; settings = settings }
within_by (Err error) b d ids bounded settings = tt
