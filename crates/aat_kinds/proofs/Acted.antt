-- What holds of the line that an act of rearrangement leaves, of what its call left.
use Rattle.std.proofs.Common.{◌≡◌, ap, ℕ, length}
use Rattle.std.specs.Prelude.{IsPermutation}
use Rattle.aat_buffer.specs.Buffer.{Buffer}
use Rattle.aat_buffer.specs.Clusters.{IsSmall, ids}
use Rattle.aat_run.specs.Context.{Moved}
use Rattle.aat_run.specs.inside.Places.{left_with}
use Rattle.aat_kinds.specs.Rearrangement.{Entry, IsFit, Registers, act}
use Rattle.aat_kinds.specs.facts.Permutation.{act_permutes}
use Rattle.aat_kinds.specs.facts.RearrangementKeeps.{keeps_small}

module _ (bound : ℕ) (e : Entry) (r s : Registers) (b d : Buffer) (acted : left_with s d ≡ act bound e r b) (fit : IsFit r b.cursor (length b.line)) where
  left : d ≡ (act bound e r b).buffer
  left = ap (λ (m : Moved Registers). m.buffer) acted

  pub acted_small : IsSmall b → IsSmall d
  acted_small small = rw left (keeps_small bound e r b fit small)

  pub acted_permutes : IsPermutation (ids b.line) (ids d.line)
  acted_permutes = rw left (act_permutes bound e r b fit)
