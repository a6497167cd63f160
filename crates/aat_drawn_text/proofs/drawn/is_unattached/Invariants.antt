use Rattle.std.proofs.Common.{◌≡◌, ◌<◌, ℕ}
use Rattle.aat_buffer.specs.Buffer.{position_at}
use Rattle.aat_drawn_text.proofs.drawn.is_unattached.Given as goal

-- none so far has an attach type
abbrev pub invariant-loop-i : goal.invariant-loop-i
invariant-loop-i g l = (k : ℕ) → k < l.i → (position_at l.fn.buffer k).attach_type ≡ 0
