use Rattle.std.proofs.Common.{◌≡◌, ℕ, ◌<◌, ◌≤◌, false}
use Rattle.aat_shaper.specs.Lines.{stop_at}
use Rattle.aat_shaper.specs.inside.Filling.{IsSummed}
use Rattle.aat_shaper.proofs.lines.filling.Filling.guess_from.Given as goal

abbrev pub invariant-loop-last : goal.invariant-loop-last
invariant-loop-last l = record {
  unforced : (i : ℕ) → l.first ≤ i → i < l.last → (stop_at l.self.stops.now i).is_forced ≡ false;
  line : IsSummed l.self l.line;
}
