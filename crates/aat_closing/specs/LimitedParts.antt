-- What the closing runs of chains tell of the parts of a line that have limits of their own. (No chapter of the manual:
-- where a line can be broken is the shaper's own.)
use Rattle.std.specs.Prelude.{◌≡◌, ◌+◌, ◌<◌, ◌≤◌, ℕ, true, false, List}
use Rattle.aat_buffer.specs.Buffer.{Buffer}
use Rattle.aat_buffer.specs.Marks.{produces_concat}
use Rattle.aat_glyph.specs.declared.glyph.Direction.{Direction}
use Rattle.aat_run.specs.Budget.{operations_left}
use Rattle.aat_map.specs.SwitchedChains.{SwitchedChain}
use Rattle.aat_kinds.specs.Kinds.{Sizes}
use Rattle.aat_cut_kinds.specs.Parts.{back_part, front_part}
use Rattle.aat_closing.specs.ClosingChains.{closing_substituted}
use Rattle.aat_closing.specs.ClosingCuts.{IsLimitedFrom}
use Rattle.aat_closing.specs.ClosingRuns.{Told}
use Rattle.aat_closing.specs.CutsAbout.{AreEvenAbout}
use Rattle.aat_closing.specs.ToldParts.{HasBetween, IsRise, TellsOpen}

-- the run over a part tells what is open, and takes no more of its budget than the run over the whole takes of that one's
pub record TellsOfPart (b part : Buffer) (whole left : Told) : Type 0 where
  pub told : left.is_told ≡ true
  pub budget :
      operations_left part.max_ops + operations_left whole.buffer.max_ops
      ≤ operations_left b.max_ops + operations_left left.buffer.max_ops

-- Where ChainsLeaveLimitedPartsAbout says that the line is that of the parts, the runs over both tell what is open, and
-- take no more operations than the run over the whole.
abbrev pub ChainsTellOfLimitedPartsAbout : Type 0
ChainsTellOfLimitedPartsAbout =
    (z : Sizes) (d : Direction) (low c : ℕ) (chains : List SwitchedChain) → 0 < z.slots → AreEvenAbout low c d chains
    → (q : ℕ) (b front back : Buffer) → b.direction ≡ d → b.cursor ≡ 0 → produces_concat b.flags ≡ false → IsRise c q b
    → TellsOpen c (closing_substituted z chains b) → HasBetween low c (closing_substituted z chains b).buffer.line
    → IsLimitedFrom (front_part q b) front → IsLimitedFrom (back_part q b) back
    → let left : ℕ = operations_left (closing_substituted z chains b).buffer.max_ops in
    operations_left b.max_ops < operations_left front.max_ops + left
    → operations_left b.max_ops < operations_left back.max_ops + left
    → TellsOfPart b front (closing_substituted z chains b) (closing_substituted z chains front)
    × TellsOfPart b back (closing_substituted z chains b) (closing_substituted z chains back)
