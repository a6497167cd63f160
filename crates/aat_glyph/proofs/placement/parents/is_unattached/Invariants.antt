use Rattle.std.proofs.Common.{◌≡◌, ◌<◌, ℕ}
use Rattle.std.specs.Prelude.{None}
use Rattle.aat_glyph.specs.placement.Attachments.{parent}
use Rattle.aat_glyph.proofs.placement.parents.is_unattached.Given as goal

-- none so far has a parent
abbrev pub invariant-loop-i : goal.invariant-loop-i
invariant-loop-i l = (k : ℕ) → k < l.i → parent l.direction l.positions k ≡ None
