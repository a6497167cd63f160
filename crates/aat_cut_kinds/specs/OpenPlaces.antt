-- What a run that kerns a line leaves of it, and what is told of its places.
use Rattle.std.specs.Prelude.{◌≡◌, ℕ, ◌<◌, Bool, false, List, length, get_or}
use Rattle.aat_buffer.specs.Buffer.{Buffer}
use Rattle.aat_cut_kinds.specs.KerningCuts.{KernedRun}

-- A line is left as a run that kerns it leaves it, and of each place inside it is told whether the run leaves it open.
pub record KernsOpenly (r : KernedRun) (old new : Buffer) (told : List Bool) : Type 0 where
  pub left : new ≡ r.left old
  pub long : length told ≡ length old.line
  pub opens : (q : ℕ) → 0 < q → q < length old.line → get_or told q false ≡ r.opens q old
