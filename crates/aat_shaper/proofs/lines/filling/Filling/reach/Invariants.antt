use Rattle.std.proofs.Common.{◌≡◌, ℕ, ◌<◌, ◌≤◌, false}
use Rattle.aat_shaper.specs.Lines.{stop_at}
use Rattle.aat_shaper.specs.inside.Filling.{Shapes}
use Rattle.aat_shaper.proofs.lines.filling.Filling.reach.Given as goal

abbrev pub invariant-loop-last : goal.invariant-loop-last
invariant-loop-last g l = record {
  shaper : Shapes l.self l.shaper;
  unforced : (i : ℕ) → l.guess ≤ i → i < l.last → (stop_at l.self.stops.now i).is_forced ≡ false;
}
