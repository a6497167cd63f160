-- Where a run stands, and what it leaves.
use Rattle.std.specs.Prelude.{◌≡◌, ℕ, Bool, true, false}
use Rattle.aat_buffer.specs.Buffer.{Buffer}
use Rattle.aat_run.specs.Context.{Config, Moved, first_config}
use Rattle.aat_run.specs.Machine.{Turn, Ends, Goes}
use Rattle.aat_run.specs.declared.run_state.RunState.{RunState}

-- registers and a buffer, as an act leaves them
abbrev pub left_with : {R : Type 0} → R → Buffer → Moved R
left_with r b = record { registers = r; buffer = b }

-- a buffer, registers and the state of a run make up where it stands
abbrev pub config : {R : Type 0} → Buffer → R → RunState → Config R
config b r s = record (first_config b r) { state = s.state; last = s.last_cluster; turns = s.turns }

-- a turn leaves this: the run goes on from there, or ends there
abbrev pub turn_of : {C : Type 0} → Bool → C → Turn C
turn_of true d = Goes d
turn_of false d = Ends d

-- what a run leaves of a buffer and registers, in how many turns
pub record IsRun {R : Type 0} (d : Config R) (b : Buffer) (r : R) (turns : ℕ) : Type 0 where
  pub buffer : b ≡ d.buffer
  pub registers : r ≡ d.registers
  pub counted : turns ≡ d.turns
