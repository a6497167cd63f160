use Rattle.std.proofs.Common.{◌≡◌, ℕ, ◌<◌, ◌≤◌, false}
use Rattle.aat_shaper.specs.Lines.{stop_at}
use Rattle.aat_shaper.proofs.lines.filling.Filling.begun_at.Given as goal

abbrev pub invariant-loop-last : goal.invariant-loop-last
invariant-loop-last l = (i : ℕ) → l.first ≤ i → i < l.last → (stop_at l.self.stops.now i).is_forced ≡ false
